use Rattle.std.proofs.Common.{Ok, ap, ◌∙◌}
use Rattle.hib_journal.specs.Kept.{past}
use Rattle.hib_core.specs.Playing.{play_all}
use Rattle.hib_core.proofs.Playing.{goes_by, all_more, others_more, stay_more}
use Rattle.hib_core.proofs.Obeyed.{runs_then}
use Rattle.hib_core.proofs.factory.Factory.run_session.Goals as goal

pub steps-preserved : goal.steps-preserved
steps-preserved g c =
    let did = c.step.ensures.did (c.in_ok-step.was ∙ ap (λ z. Ok z) c.in-Did.is) in
    record {
      played = all_more g.N.Name.script c.args.number (past c.args.self.now.journal) (past c.steps.self.journal) (past c.step.new.self.journal) c.steps.self.sessions c.step.new.self.sessions
          c.steps.invariant.played did;
      others = others_more g.N.Name.script c.args.number (past c.args.self.now.journal) (past c.steps.self.journal) (past c.step.new.self.journal) c.steps.self.sessions c.step.new.self.sessions
          c.steps.invariant.others did;
      stay = stay_more g.N.Name.script c.args.number (past c.args.self.now.journal) (past c.steps.self.journal) (past c.step.new.self.journal) c.steps.self.sessions c.step.new.self.sessions
          c.steps.invariant.stay did;
      going = c.in_ok-step.ensures.ran.going ∙ c.steps.invariant.going;
      inside = c.in_ok-step.ensures.inside ∙ c.steps.invariant.inside;
    }

pub returns-in_err-step-clause-ran : goal.returns-in_err-step-clause-ran
returns-in_err-step-clause-ran g c =
    runs_then g.N.Name.script g.N.Name.from c.from_residual.result _ c.args.self.now c.steps.self c.step.new.self c.from_residual.ensures.0
    (goes_by (play_all g.N.Name.script c.args.number) (play_all g.N.Name.script c.args.number) (past c.args.self.now.journal) (past c.steps.self.journal) c.steps.invariant.played)
    c.steps.invariant.going c.in_err-step.ensures.ran
