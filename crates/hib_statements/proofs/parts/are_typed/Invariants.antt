use Rattle.std.proofs.Common.{◌≡◌, drop}
use Rattle.hib_statements.specs.Parts.{are_typed}
use Rattle.hib_statements.proofs.parts.are_typed.Given as goal

abbrev pub invariant-loop-i : goal.invariant-loop-i
invariant-loop-i l = are_typed (drop l.i l.columns) (drop l.i l.cells) ≡ are_typed l.columns l.cells
