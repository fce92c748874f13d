use Rattle.std.proofs.Common.{ap, ◌∙◌}
use Rattle.hib_listeners.specs.Told.{tells}
use Rattle.hib_collections.specs.Kept.{past}
use Rattle.hib_collections.proofs.Hearing.{heard_empty}
use Rattle.hib_collections.proofs.gather.Gather.open.Goals as goal

pub invariant_of-result : goal.invariant_of-result
invariant_of-result g c =
    heard_empty c.nothing_was_told.ensures g.N.Name.script (past c.in-Ok.core.journal) g.N.Name.told (tells g.L.Listener.heard g.L.Listener.left c.open-in-Ok.result) c.in-Ok.ensures.empty
    (ap (tells g.L.Listener.heard g.L.Listener.left) c.open-in-Ok.ensures ∙ c.requires.told)
