use Rattle.std.proofs.Common.{refl, sym}
use Rattle.hib_toolbox.proofs.Repeats.{is_repeated}
use Rattle.hib_toolbox.proofs.repeat.make_schedule.Goals as goal

pub returns-in-Ok : goal.returns-in-Ok
returns-in-Ok c = λ lent. (
  is_repeated c.schedules_play_orders.ensures.whole c.whole_runs_come_again.ensures.again c.args.input.script c.args.input.journal.list
      c.in-Ok.repeated.repeatable c.in-Ok.repeated.script
      (rw c.as_slice.ensures at (sym c.in-None.ensures))
      (rw c.as_slice-in-None.ensures at c.in-Ok.ensures),
  refl,
)
