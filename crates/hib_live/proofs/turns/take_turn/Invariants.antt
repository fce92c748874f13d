use Rattle.std.specs.Prelude.{[]}
use Rattle.hib_live.proofs.turns.take_turn.Given as goal

-- a name of the script that is passed
abbrev pub ghosts-turn : goal.ghosts-turn
ghosts-turn g a = record {
  script = a.script.now;
  from = g.N.Name.from;
  told = [];
}
