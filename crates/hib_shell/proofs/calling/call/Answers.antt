use Rattle.hib_listeners.specs.Told.{tells}
use Rattle.hib_shell.proofs.calling.call.Goals as goal

pub returns : goal.returns
returns g c = record {
  promised = (tells g.L.Listener.heard g.L.Listener.left c.top-called.result.lent.listeners.items, c.top-called.result.run, c.top-called.ensures);
}
