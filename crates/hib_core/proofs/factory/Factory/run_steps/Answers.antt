use Rattle.std.proofs.Common.{◌≤◌, ℕ, ◌+◌, length, Ok, ap, subst, ◌∙◌}
use Rattle.hib_journal.specs.Kept.{past}
use Rattle.hib_journal.specs.Played.{play_steps}
use Rattle.hib_core.proofs.Playing.{goes_by, steps_more, steps_over, steps_done, unknown_leads}
use Rattle.hib_core.proofs.Obeyed.{runs_then}
use Rattle.hib_core.proofs.factory.Factory.run_steps.Goals as goal

pub returns-in-Done-clause-played : goal.returns-in-Done-clause-played
returns-in-Done-clause-played g c =
    steps_over g.N.Name.script c.args.number c.loop-step.step c.args.steps (past c.args.self.now.journal) (past c.loop-step.self.journal) (past c.step.new.self.journal)
    c.loop-step.auto.step-end c.loop-step.invariant.played (c.step.ensures.done (c.in_ok-step.was ∙ ap (λ z. Ok z) c.in-Done.is))

pub loop-step-preserved : goal.loop-step-preserved
loop-step-preserved g c = record {
  played = steps_more g.N.Name.script c.args.number c.loop-step.step (past c.args.self.now.journal) (past c.loop-step.self.journal) (past c.step.new.self.journal)
      c.loop-step.self.sessions c.step.new.self.sessions c.loop-step.invariant.played (c.step.ensures.did (c.in_ok-step.was ∙ ap (λ z. Ok z) c.in-Did.is));
  going = c.in_ok-step.ensures.ran.going ∙ c.loop-step.invariant.going;
  inside = c.in_ok-step.ensures.inside ∙ c.loop-step.invariant.inside;
}

pub returns-clause-played : goal.returns-clause-played
returns-clause-played g c =
    steps_done g.N.Name.script c.args.number c.loop-step.step c.args.steps (past c.args.self.now.journal) (past c.loop-step.self.journal)
    c.loop-step.auto.step-end c.loop-step-test.false c.loop-step.invariant.played

pub returns-then-number-sessions-clause-played : goal.returns-then-number-sessions-clause-played
returns-then-number-sessions-clause-played g c =
    unknown_leads g.N.Name.script c.args.number c.args.steps (past c.args.self.now.journal)
    (subst (λ (m : ℕ). length g.N.Name.script.sessions ≤ m) c.number.view_is (subst (λ (m : ℕ). m ≤ c.number.inside.0) c.sessions.ensures.count c.if-number-sessions.true))

pub returns-in_err-step-clause-ran : goal.returns-in_err-step-clause-ran
returns-in_err-step-clause-ran g c =
    runs_then g.N.Name.script g.N.Name.from c.from_residual.result _ c.args.self.now c.loop-step.self c.step.new.self c.from_residual.ensures.0
    (goes_by (play_steps g.N.Name.script c.args.number (c.loop-step.step + 0)) (play_steps g.N.Name.script c.args.number 0) (past c.args.self.now.journal) (past c.loop-step.self.journal) (c.loop-step.invariant.played 0))
    c.loop-step.invariant.going c.in_err-step.ensures.ran
