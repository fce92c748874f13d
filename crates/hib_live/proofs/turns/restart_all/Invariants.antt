use Rattle.std.specs.Prelude.{[]}
use Rattle.hib_live.proofs.turns.restart_all.Given as goal

-- a name of the script that is passed
abbrev pub ghosts-restart_named : goal.ghosts-restart_named
ghosts-restart_named g a = record {
  script = a.script.now;
  from = g.N.Name.from;
  told = [];
}
