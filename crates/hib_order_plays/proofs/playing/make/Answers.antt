use Rattle.std.proofs.lemmas.Result.{on_ok_weaker}
use Rattle.hib_core.proofs.Playing.{goes_by}
use Rattle.hib_core.specs.Playing.{played}
use Rattle.hib_journal.specs.Kept.{past}
use Rattle.hib_journal.specs.Played.{play_order, play_steps}
use Rattle.hib_journal.specs.Types.{Order}
use Rattle.hib_order_plays.proofs.Steps.{kill_steps, one_kill, one_own, steps_by}
use Rattle.hib_order_plays.proofs.playing.make.Goals as goal

pub returns-in-Own-clause-goes : goal.returns-in-Own-clause-goes
returns-in-Own-clause-goes g c =
    on_ok_weaker c.run_steps.result
    (λ w. goes_by (play_steps g.N.Name.script c.in-Own.session 1) played (past c.args.factory.now.journal) (past c.run_steps.new.self.journal) w)
    c.run_steps.ensures.played

pub returns-in-Own-clause-steps : goal.returns-in-Own-clause-steps
returns-in-Own-clause-steps g c =
    on_ok_weaker c.run_steps.result
    (λ w. steps_by (past c.args.factory.now.journal) (past c.run_steps.new.self.journal)
    (goes_by (play_steps g.N.Name.script c.in-Own.session 1) played (past c.args.factory.now.journal) (past c.run_steps.new.self.journal) w)
    c.run_steps.ensures.inside)
    c.run_steps.ensures.played

pub returns-in-Own-clause-made : goal.returns-in-Own-clause-made
returns-in-Own-clause-made g c =
    on_ok_weaker c.run_steps.result
    (λ w start. one_own g.N.Name.script start c.args.step c.in-Own.session (past c.args.factory.now.journal) (past c.run_steps.new.self.journal) c.in-Own.is w)
    c.run_steps.ensures.played

pub returns-in-Kill-clause-goes : goal.returns-in-Kill-clause-goes
returns-in-Kill-clause-goes g c =
    on_ok_weaker c.kill.result
    (λ w. goes_by (play_order g.N.Name.script (Order.Kill c.in-Kill.session)) played (past c.args.factory.now.journal) (past c.kill.new.self.journal) w)
    c.kill.ensures.obeyed.leads

pub returns-in-Kill-clause-steps : goal.returns-in-Kill-clause-steps
returns-in-Kill-clause-steps g c =
    on_ok_weaker c.kill.result
    (λ w. kill_steps g.N.Name.script c.in-Kill.session (past c.args.factory.now.journal) (past c.kill.new.self.journal) w)
    c.kill.ensures.obeyed.leads

pub returns-in-Kill-clause-made : goal.returns-in-Kill-clause-made
returns-in-Kill-clause-made g c =
    on_ok_weaker c.kill.result
    (λ w start u. one_kill g.N.Name.script start c.args.step c.in-Kill.session (past c.args.factory.now.journal) (past c.kill.new.self.journal) c.in-Kill.is w)
    c.kill.ensures.obeyed.leads
