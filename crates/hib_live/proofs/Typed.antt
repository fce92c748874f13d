-- Cells and columns.
use Rattle.std.proofs.Common.{◌≡◌, Bool, true, false, suc, ◌&&◌, List, [], ◌∷◌, length, refl, ap}
use Rattle.hib_base.specs.declared.rows.Cell.{Cell}
use Rattle.hib_base.specs.declared.scripts.ColumnDef.{ColumnDef}
use Rattle.hib_base.specs.Fits.{is_of_type, are_of_types}

and_false : (b : Bool) → (b && false) ≡ false
and_false true = refl
and_false false = refl

-- as many cells as there are columns, or they aren't of their types
pub other_count : (ds : List ColumnDef) (cs : List Cell) → (length ds ≡ length cs → ⊥) → are_of_types ds cs ≡ false
other_count [] [] p = absurd (p refl)
other_count [] (c ∷ cs) p = refl
other_count (d ∷ ds) [] p = refl
other_count (d ∷ ds) (c ∷ cs) p = rw (other_count ds cs (λ q. p (ap suc q))) (and_false (is_of_type d.kind c))
