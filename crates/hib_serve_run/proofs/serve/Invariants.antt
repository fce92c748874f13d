use Rattle.std.specs.Prelude.{[]}
use Rattle.hib_core.specs.Standing.{told_start}
use Rattle.hib_serve_run.proofs.serve.Given as goal

abbrev pub ghosts-serve_in : goal.ghosts-serve_in
ghosts-serve_in g a = record {
  script = a.script;
  from = record { tables = told_start a.script (g.K.Keeper.tables a.keeper); faults = g.K.Keeper.faults a.keeper; asked = g.K.Keeper.asked a.keeper };
  told = [];
}
