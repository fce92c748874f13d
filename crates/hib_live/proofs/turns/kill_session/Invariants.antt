use Rattle.std.specs.Prelude.{[]}
use Rattle.hib_live.proofs.turns.kill_session.Given as goal

-- a name of the script that is passed
abbrev pub ghosts-kill_named : goal.ghosts-kill_named
ghosts-kill_named g a = record {
  script = a.script.now;
  from = g.N.Name.from;
  told = [];
}
