use Rattle.std.proofs.Common.{◌≡◌, drop}
use Rattle.hib_statements.specs.Parts.{cells_of}
use Rattle.hib_statements.proofs.Cells.{cells_behind}
use Rattle.hib_statements.proofs.parts.cells.Given as goal

abbrev pub invariant-loop-token : goal.invariant-loop-token
invariant-loop-token l = cells_behind l.cells.items (cells_of (drop l.token-index l.tokens)) ≡ cells_of l.tokens
