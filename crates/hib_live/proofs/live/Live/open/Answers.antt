use Rattle.std.proofs.Common.{ap, ◌∙◌}
use Rattle.hib_listeners.specs.Told.{tells}
use Rattle.hib_core.proofs.Hearing.{heard_empty}
use Rattle.hib_live.proofs.live.Live.open.Goals as goal

pub invariant_of-result : goal.invariant_of-result
invariant_of-result g c =
    heard_empty c.nothing_was_told.ensures c.in-Ok.core.journal g.N.Name.told (tells g.L.Listener.heard g.L.Listener.left c.open-in-Ok.result) c.in-Ok.ensures.empty
    (ap (tells g.L.Listener.heard g.L.Listener.left) c.open-in-Ok.ensures ∙ c.requires.told)
