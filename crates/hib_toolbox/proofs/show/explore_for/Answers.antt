use Rattle.hib_call.specs.Outside.{Shared, shared_of}
use Rattle.hib_toolbox.proofs.show.explore_for.Goals as goal

pub returns : goal.returns
returns g c =
    let lent : Shared =
    shared_of g.K.Keeper g.L.Listener c.args.lent in
    c.with_finding-outcome.ensures c.args.script lent (c.tried-outcome.ensures lent)
