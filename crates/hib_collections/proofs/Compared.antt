-- The derived comparison of two cells is that of the definitions.
use Rattle.std.proofs.Common.{rules, ◌≡◌}
use Rattle.std.specs.Prelude.{Decides}
use Rattle.std.specs.Bool.{one_answer}
use Rattle.hib_journal.specs.Types.{Cell}
use Rattle.hib_journal.specs.Query.{same_cell}
use Rattle.hib_base.proofs.Equality.{cell_decides}
use Rattle.hib_base.specs.contracts.rows.CellPartialEq.TheImpl.{eq-value as cell_eq}

same_decides : (a b : Cell) → Decides (same_cell a b) (a ≡ b)
same_decides a b = Prim.search (rules)

pub cells_are_same : (a b : Cell) → cell_eq.it a b ≡ same_cell a b
cells_are_same a b = one_answer (cell_eq.it a b) (same_cell a b) (cell_decides a b) (same_decides a b)
