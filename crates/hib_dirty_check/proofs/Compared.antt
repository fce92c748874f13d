-- The derived comparison of cells is that of the definitions.
use Rattle.std.proofs.Common.{rules, ◌≡◌, List, [], ◌∷◌}
use Rattle.std.specs.Prelude.{Decides}
use Rattle.std.specs.Bool.{one_answer}
use Rattle.std.specs.Cmp.Lexicographic.{pointwise}
use Rattle.hib_journal.specs.Types.{Cell}
use Rattle.hib_journal.specs.Query.{same_cell}
use Rattle.hib_journal.specs.Held.{same_cells}
use Rattle.hib_base.proofs.Equality.{cells_decide}
use Rattle.hib_base.specs.contracts.rows.CellPartialEq.TheImpl.{eq-value as cell_eq}

cell_decides : (a b : Cell) → Decides (same_cell a b) (a ≡ b)
cell_decides a b = Prim.search (rules)

defined_decides : (xs ys : List Cell) → Decides (same_cells xs ys) (xs ≡ ys)
defined_decides [] [] = Prim.search (rules)
defined_decides [] (y ∷ ys) = Prim.search (rules)
defined_decides (x ∷ xs) [] = Prim.search (rules)
defined_decides (x ∷ xs) (y ∷ ys) = Prim.search (rules, cell_decides x y, defined_decides xs ys)

pub cells_compared : (xs ys : List Cell) → pointwise cell_eq.it xs ys ≡ same_cells xs ys
cells_compared xs ys = one_answer (pointwise cell_eq.it xs ys) (same_cells xs ys) (cells_decide xs ys) (defined_decides xs ys)
