use Rattle.std.specs.Prelude.{[], None}
use Rattle.hib_live.proofs.turns.is_due.Given as goal

-- a name of the script that is passed
abbrev pub ghosts-has_turn : goal.ghosts-has_turn
ghosts-has_turn a = record {
  script = a.script.now;
  from = record { tables = None; faults = 0; asked = 0 };
  told = [];
}
