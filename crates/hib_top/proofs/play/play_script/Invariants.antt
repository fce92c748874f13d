use Rattle.hib_core.specs.Standing.{told_start}
use Rattle.hib_listeners.specs.Told.{tells}
use Rattle.hib_top.proofs.play.play_script.Given as goal

abbrev pub ghosts-play_named : goal.ghosts-play_named
ghosts-play_named g a = record {
  script = a.script;
  from = record { tables = told_start a.script (g.K.Keeper.tables a.lent.keeper); faults = g.K.Keeper.faults a.lent.keeper; asked = g.K.Keeper.asked a.lent.keeper };
  told = tells g.L.Listener.heard g.L.Listener.left a.lent.listeners.items;
}
