use Rattle.std.proofs.Common.{sym, ◌∙◌}
use Rattle.hib_base.specs.declared.scripts.Cond
use Rattle.hib_criteria.proofs.Parts.{join_two, both}
use Rattle.hib_base.specs.declared.scripts.Node.{Node}
use Rattle.hib_criteria.proofs.conditions.with_or.Goals as goal

pub returns : goal.returns
returns c =
    join_two Node.Or c.args.conds c.pop.new.self.items c.pop-2.new.self.items c.from_vec.result c.in-Some.first c.in-Some-pop.second
    (Cond.Or c.in_ok-new.field-0 c.in_ok-new-2.field-0)
    (sym c.into_vec-all.ensures ∙ c.in-Some.ensures.items) c.in-Some-pop.ensures.items (c.from_vec.ensures ∙ c.in_ok-push.ensures.items)
    (both Node.Or c.in_ok-new.field-0.value c.in-Some.first c.in_ok-new-2.field-0.value c.in-Some-pop.second c.in_ok-new.ensures.ok c.in_ok-new-2.ensures.ok)
