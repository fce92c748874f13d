use Rattle.hib_core.specs.Standing.{told_start}
use Rattle.hib_listeners.specs.Told.{tells}
use Rattle.hib_shop_live.proofs.sell.Given as goal

abbrev pub ghosts-sell_in : goal.ghosts-sell_in
ghosts-sell_in g a = record {
  script = a.script;
  from = record { tables = told_start a.script (g.K.Keeper.tables a.keeper); faults = g.K.Keeper.faults a.keeper; asked = g.K.Keeper.asked a.keeper };
  told = tells g.L.Listener.heard g.L.Listener.left a.listeners.items;
}
