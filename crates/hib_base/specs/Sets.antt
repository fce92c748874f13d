-- Cells that a statement sets.
use Rattle.std.specs.Prelude.{ℕ, List, [], ◌∷◌, set}
use Rattle.hib_base.specs.Types.{Cell}

-- the cells with each set in its place; a place that isn't there is passed over
abbrev pub with_cells : List (ℕ × Cell) → List Cell → List Cell
with_cells [] cs = cs
with_cells (p ∷ ps) cs = with_cells ps (set cs p.0 p.1)
