use Rattle.std.proofs.lemmas.Result.{on_ok_weaker}
use Rattle.hib_core.proofs.Playing.{goes_by}
use Rattle.hib_core.specs.Playing.{played}
use Rattle.hib_journal.specs.Kept.{past}
use Rattle.hib_journal.specs.Played.{play_steps}
use Rattle.hib_order_plays.proofs.playing.run_last.Goals as goal

pub returns-in-Some-clause-goes : goal.returns-in-Some-clause-goes
returns-in-Some-clause-goes g c =
    on_ok_weaker c.run_steps.result
    (λ w. goes_by (play_steps g.N.Name.script c.session.result 4294967295) played (past c.args.factory.now.journal) (past c.run_steps.new.self.journal) w)
    c.run_steps.ensures.played
