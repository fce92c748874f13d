use Rattle.hib_call.specs.Outside.{shared_of}
use Rattle.hib_toolbox.proofs.repeat.repeat_run.Goals as goal

pub returns : goal.returns
returns g c =
    c.make_schedule-outcome.ensures
    (shared_of g.K.Keeper g.L.Listener c.args.lent)
