use Rattle.std.proofs.Common.{sym, ap, subst, ◌∙◌}
use Rattle.std.specs.Prelude.{IfSome}
use Rattle.hib_journal.specs.Legal.{due_by}
use Rattle.hib_engines.proofs.Outcomes.{map_ok}
use Rattle.hib_audit.specs.Standing.{IsAllowedFor}
use Rattle.hib_audit.proofs.points.due_act.Goals as goal

pub returns-in-Some-clause-due : goal.returns-in-Some-clause-due
returns-in-Some-clause-due c = map_ok c.session_act.result _ _ c.session_act.ensures.due (λ o f h r.
    f h r c.args.entry.now.act ∙ sym (ap (λ by. due_by c.args.script.now h by c.args.entry.now.act) c.in-Some.is))

pub returns-in-Some-clause-allowed : goal.returns-in-Some-clause-allowed
returns-in-Some-clause-allowed c = map_ok c.session_act.result _ _ c.session_act.ensures.allowed (λ o f h r.
    subst (λ by. IfSome o (IsAllowedFor c.args.script.now h by)) (sym c.in-Some.is) (f h r))
