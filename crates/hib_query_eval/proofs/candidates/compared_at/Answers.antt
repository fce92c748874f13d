use Rattle.std.proofs.Common.{◌≡◌, ℕ, ◌<◌, ◌^◌, true, IfSome, subst}
use Rattle.std.proofs.lemmas.Result.{IfOk-weaker}
use Rattle.std.proofs.lemmas.Option.{IfSome_then}
use Rattle.hib_journal.specs.Types.{Cell}
use Rattle.hib_journal.specs.Query.{passes}
use Rattle.hib_query_eval.specs.Places.{has_place, has_id}
use Rattle.hib_query_eval.proofs.Spans.{no_target_covers, steps_cover}
use Rattle.hib_query_eval.proofs.candidates.compared_at.Goals as goal

pub returns-in_default-target : goal.returns-in_default-target
returns-in_default-target c = IfOk-weaker c.compared.result _ _
    (λ o h. IfSome_then o h
    (λ ids f t x. no_target_covers c.in-Some.places.now.keys c.args.entity c.from-column.result c.args.path.now (λ d. passes c.args.op d c.args.cell.now) ids.items
    c.in_default-target.is c.from-column.ensures f t (c.in-Some.ensures t x)))
    c.compared.ensures

pub returns : goal.returns
returns c = IfOk-weaker c.referring.result _ _
    (λ o h. IfSome_then o h
    (λ ids f t x. steps_cover c.in-Some.places.now.keys c.in-Some-places_in.there.now.keys c.args.entity c.from-column.result c.from-of_target.result c.in-Some-target.target
    c.args.path.now (λ d. passes c.args.op d c.args.cell.now) c.in-Some-2.found.items c.as_slice.result.now ids.items c.in-Some-target.is c.from-column.ensures
    c.from-of_target.ensures c.as_slice.ensures.value
    (subst (λ o. IfSome o (λ ids. (i : ℕ) (d : Cell) → i < 2 ^ 64
    → has_place c.in-Some-places_in.there.now.keys i d ≡ true
    → passes c.args.op d c.args.cell.now ≡ true → has_id i ids.items ≡ true)) c.in-Some-2.is c.in_ok-found.ensures)
    f t (c.in-Some.ensures t x) (c.in-Some-places_in.ensures t x)))
    c.referring.ensures
