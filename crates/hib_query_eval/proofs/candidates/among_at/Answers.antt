use Rattle.std.specs.List.{list_any}
use Rattle.std.proofs.lemmas.Result.{IfOk-weaker}
use Rattle.std.proofs.lemmas.Option.{IfSome_then}
use Rattle.hib_journal.specs.Query.{same_cell}
use Rattle.hib_query_eval.proofs.Spans.{no_target_covers, steps_cover}
use Rattle.hib_query_eval.proofs.candidates.among_at.Goals as goal

pub returns-in_default-target : goal.returns-in_default-target
returns-in_default-target c = λ t x.
    no_target_covers c.in-Some.places.now.keys c.args.entity c.from-column.result c.args.path.now (λ d. list_any (λ y. same_cell d y) c.args.cells.now) c.in_ok-among.field-0.items
    c.in_default-target.is c.from-column.ensures c.in_ok-among.ensures t (c.in-Some.ensures t x)

pub returns : goal.returns
returns c = IfOk-weaker c.referring.result _ _
    (λ o h. IfSome_then o h
    (λ ids f t x. steps_cover c.in-Some.places.now.keys c.in-Some-places_in.there.now.keys c.args.entity c.from-column.result c.from-of_target.result c.in-Some-target.target
    c.args.path.now (λ d. list_any (λ y. same_cell d y) c.args.cells.now) c.in_ok-found.found.items c.as_slice.result.now ids.items c.in-Some-target.is c.from-column.ensures
    c.from-of_target.ensures c.as_slice.ensures.value c.in_ok-found.ensures f t (c.in-Some.ensures t x) (c.in-Some-places_in.ensures t x)))
    c.referring.ensures
