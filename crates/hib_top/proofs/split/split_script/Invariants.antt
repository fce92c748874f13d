use Rattle.std.proofs.Common.{[]}
use Rattle.hib_core.specs.Standing.{told_start}
use Rattle.hib_top.proofs.split.split_script.Given as goal

abbrev pub ghosts-split_named : goal.ghosts-split_named
ghosts-split_named g a = record {
  script = a.script;
  from = record { tables = told_start a.script (g.K.Keeper.tables a.lent.keeper); faults = g.K.Keeper.faults a.lent.keeper; asked = g.K.Keeper.asked a.lent.keeper };
  told = [];
}
