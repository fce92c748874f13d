use Rattle.std.specs.Prelude.{[]}
use Rattle.hib_live.proofs.turns.evict_row.Given as goal

-- a name of the script that is passed
abbrev pub ghosts-evict_named : goal.ghosts-evict_named
ghosts-evict_named g a = record {
  script = a.script.now;
  from = g.N.Name.from;
  told = [];
}
