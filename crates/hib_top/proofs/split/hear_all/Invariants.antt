use Rattle.std.proofs.Common.{false}
use Rattle.std.specs.Prelude.{take}
use Rattle.hib_listeners.specs.Heard.{HaveHeard}
use Rattle.hib_listeners.specs.Told.{tells}
use Rattle.hib_top.proofs.split.hear_all.Given as goal

abbrev pub invariant-loop-entry : goal.invariant-loop-entry
invariant-loop-entry g l = record {
  heard : HaveHeard false (take l.entry-index l.entries) (tells g.L.Listener.heard g.L.Listener.left l.fn.listeners) (tells g.L.Listener.heard g.L.Listener.left l.listeners);
}
