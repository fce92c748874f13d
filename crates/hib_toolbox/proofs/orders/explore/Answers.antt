use Rattle.hib_call.specs.Outside.{shared_of}
use Rattle.hib_toolbox.proofs.orders.explore.Goals as goal

pub returns : goal.returns
returns g c =
    c.tried-outcome.ensures
    (shared_of g.K.Keeper g.L.Listener c.args.lent)
