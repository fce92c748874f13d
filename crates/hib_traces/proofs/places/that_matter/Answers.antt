use Rattle.std.proofs.Common.{◌≡◌, ◌+◌, List, Vec, Global, None, get_or, sym, ◌∙◌, ap, subst}
use Rattle.hib_traces.specs.declared.places.Place.{Place}
use Rattle.hib_traces.specs.Making.{covers_next}
use Rattle.hib_traces.proofs.Kept.{IsKept, dropped, kept}
use Rattle.hib_traces.proofs.places.that_matter.Goals.{then-not-covers+in_ok-push, else-not-covers}
use Rattle.hib_traces.proofs.places.that_matter.Goals as goal

pub loop-place-preserved : goal.loop-place-preserved
loop-place-preserved c =
    let z : Place = record { row = 0; ready = 0; gone = None } in
    let next : Place = get_or c.args.places.now c.loop-place.place-index z in
    let p : c.covers.result ≡ covers_next c.loop-place.kept.items next =
    c.covers.ensures ∙ ap (λ (ks : List Place). covers_next ks next) c.deref.ensures.value in
    elim c.if-not-covers.branch [
      | then-not-covers+in_ok-push w ↦ subst (λ (ks : List Place). IsKept c.args.places.now (c.loop-place.place-index + 1) ks)
          (sym (ap (λ (v : Vec Place Global). v.items) w.kept-is ∙ w.in_ok-push.ensures.items))
          (kept c.args.places.now c.loop-place.kept.items c.loop-place.place-index z c.loop-place-test.true c.loop-place.invariant c.requires
          (sym p ∙ w.if-not-covers.true))
      | else-not-covers w ↦ subst (λ (ks : List Place). IsKept c.args.places.now (c.loop-place.place-index + 1) ks)
          (sym (ap (λ (v : Vec Place Global). v.items) w.kept-is))
          (dropped c.args.places.now c.loop-place.kept.items c.loop-place.place-index z c.loop-place-test.true c.loop-place.invariant
          (sym p ∙ w.if-not-covers.false))
    ]
