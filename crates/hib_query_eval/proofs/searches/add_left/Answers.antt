use Rattle.std.proofs.Common.{IfSome, subst, ap, ◌∙◌, ◌++◌}
use Rattle.hib_base.specs.Tables.{Tables}
use Rattle.hib_query_eval.specs.Covers.{HasMet}
use Rattle.hib_query_eval.specs.Places.{AreIndexes}
use Rattle.hib_query_eval.proofs.Searched.{left_found}
use Rattle.hib_query_eval.proofs.searches.add_left.Goals as goal

pub returns-in-Some-clause-left : goal.returns-in-Some-clause-left
returns-in-Some-clause-left c =
    let found : (t : Tables) → AreIndexes c.columns.result.now t → HasMet c.args.query.now t c.in-Some.left.items =
    subst (λ o. IfSome o (λ ids. (t : Tables) → AreIndexes c.columns.result.now t → HasMet c.args.query.now t ids.items)) c.in-Some.is c.in_ok-left.ensures in
    left_found c.args.query.now c.args.changes.now c.args.laid.now c.args.ids.now.items c.in-Some.left.items c.extend_from_slice.new.self.items
    (c.steps_anywhere.ensures c.if-not-steps_anywhere.true) (found c.args.laid.now.left c.columns.ensures)
    (c.in_ok-extend_from_slice.ensures.items ∙ ap (λ v. c.args.ids.now.items ++ v) c.as_slice.ensures.value)
