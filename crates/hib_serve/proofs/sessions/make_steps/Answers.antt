use Rattle.std.proofs.Common.{◌≤◌, length, Ok, Err, ap, ◌∙◌, subst, sym}
use Rattle.hib_journal.specs.Kept.{past}
use Rattle.hib_journal.specs.Types.{Script}
use Rattle.hib_serve.proofs.Grown.{goes_on, stays}
use Rattle.hib_serve.proofs.Kills.{none_due}
use Rattle.hib_serve.proofs.sessions.make_steps.Goals as goal

pub steps-preserved : goal.steps-preserved
steps-preserved g c = record {
  asked = c.step.ensures.asked ∙ c.steps.invariant.asked;
  ran = goes_on c.args.number c.steps.core.script c.args.core.now.journal c.steps.core.journal c.step.new.self.journal c.steps.core.sessions
      c.step.new.self.sessions c.steps.invariant.ran (c.in-Ok-Did.ensures.did (ap Ok c.in-Ok-Did.field-0-is));
}

pub returns-in-Ok-Done-clause-ran : goal.returns-in-Ok-Done-clause-ran
returns-in-Ok-Done-clause-ran g c =
    stays c.args.number c.args.core.now.journal c.steps.core.journal c.step.new.self.journal c.steps.invariant.ran
    (c.in-Ok-Done.ensures.done (ap Ok c.in-Ok-Done.field-0-is)).same

pub returns-in-Err-clause-ran : goal.returns-in-Err-clause-ran
returns-in-Err-clause-ran g c =
    stays c.args.number c.args.core.now.journal c.steps.core.journal c.step.new.self.journal c.steps.invariant.ran c.in-Err.ensures.same

pub returns-in-Err-NoSession-clause-over : goal.returns-in-Err-NoSession-clause-over
returns-in-Err-NoSession-clause-over g c =
    let gone : length c.steps.core.script.sessions ≤ c.args.number = c.in-Err-NoSession.ensures.unknown.0 (ap Err c.in-Err-NoSession.field-0-is) in
    none_due c.step.new.self.script (past c.step.new.self.journal) c.args.number (subst (λ (s : Script). length s.sessions ≤ c.args.number) (sym c.step.ensures.asked) gone)
