use Rattle.std.proofs.Common.{◌++◌, [], ◌∷◌, List, sym, subst}
use Rattle.std.specs.Prelude.{Vec}
use Rattle.std.specs.List.{AllZip}
use Rattle.std.specs.declared.alloc.Global.{Global}
use Rattle.hib_trace_calls.proofs.Grown.{zip_push}
use Rattle.hib_traces.specs.declared.places.Place.{Place}
use Rattle.hib_trace_lists.specs.Loads.{IsOrdered}
use Rattle.hib_trace_lists.proofs.loads.all_ordered.Goals as goal

pub loop-places-preserved : goal.loop-places-preserved
loop-places-preserved c =
    subst (λ (os : List (Vec Place Global)). AllZip (λ (f p : Vec Place Global). IsOrdered f.items p.items) (c.loop-places.yielded ++ c.in-Some.places ∷ []) os)
    (sym c.in_ok-push.ensures.items)
    (zip_push (λ (f p : Vec Place Global). IsOrdered f.items p.items) c.loop-places.yielded c.loop-places.all.items c.in-Some.places
    c.in_ok-ordered.field-0 c.loop-places.invariant (record { alike = c.in_ok-ordered.ensures.same; order = c.in_ok-ordered.ensures.order }))
