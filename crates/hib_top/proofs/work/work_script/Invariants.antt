use Rattle.hib_core.specs.Standing.{told_start}
use Rattle.hib_listeners.specs.Told.{tells}
use Rattle.hib_top.proofs.work.work_script.Given as goal

abbrev pub ghosts-work_named : goal.ghosts-work_named
ghosts-work_named g a = record {
  script = a.script;
  from = record { tables = told_start a.script (g.K.Keeper.tables a.lent.keeper); faults = g.K.Keeper.faults a.lent.keeper; asked = g.K.Keeper.asked a.lent.keeper };
  told = tells g.L.Listener.heard g.L.Listener.left a.lent.listeners.items;
}
