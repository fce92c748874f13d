-- Cells that are set one after another.
use Rattle.std.proofs.Common.{◌≡◌, refl, ℕ, List, [], ◌∷◌, ◌++◌, set}
use Rattle.hib_base.specs.Types.{Cell}
use Rattle.hib_base.specs.Sets.{with_cells}

-- one more cell
pub cells_more : (sets : List (ℕ × Cell)) (p : ℕ × Cell) (cells : List Cell) → with_cells (sets ++ p ∷ []) cells ≡ set (with_cells sets cells) p.0 p.1
cells_more [] p cells = refl
cells_more (q ∷ sets) p cells = cells_more sets p (set cells q.0 q.1)
