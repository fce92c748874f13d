use Rattle.hib_order_law.specs.Orders.{kills}
use Rattle.hib_order_stage.specs.Staged.{rows_at_start}
use Rattle.hib_order_stage.proofs.Short.{run_short}
use Rattle.hib_order_stage.proofs.stage.StagePlayer.play.Goals as goal

pub returns-clause-short : goal.returns-clause-short
returns-clause-short g c =
    let run = c.in_ok-run.run' in
    run_short c.runs_are_short.ensures.short g.N.Name.script (rows_at_start g.N.Name.script) (kills c.args.begun.now) run.journal.list run.order.items c.in_ok-run.ensures.run c.in_ok-run.ensures.order
