use Rattle.std.proofs.Common.{IfSome, subst, sym, ◌∙◌}
use Rattle.hib_base.specs.Tables.{Tables}
use Rattle.hib_query_eval.specs.Covers.{HasMet}
use Rattle.hib_query_eval.specs.Places.{AreIndexes}
use Rattle.hib_query_eval.proofs.Searched.{met_over}
use Rattle.hib_query_eval.proofs.searches.narrowed_over.Goals as goal

pub returns : goal.returns
returns c = λ t x.
    met_over c.args.query.now c.args.changes.now c.args.laid.now t c.in-Some.ids.items c.add_left.new.ids.items c.requires (sym c.touches_steps.ensures ∙ c.if-touches_steps.false)
    (subst (λ o. IfSome o (λ ids. (t : Tables) → AreIndexes c.args.columns.now t → HasMet c.args.query.now t ids.items)) c.in-Some.is c.in_ok-ids.ensures t x)
    c.in_ok-add_left.ensures.kept c.in_ok-add_left.ensures.left
