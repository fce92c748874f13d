-- Texts are joined from the left, and read from the right. Labels between fields are passed over.
use Rattle.std.proofs.Common.{◌≡◌, ℕ, List, ◌∷◌, ◌++◌, refl, append_assoc, codes}
use Rattle.hib_entry_fields.specs.Fields.{piece, behind, after, bare_cell, cell_at}
use Rattle.hib_entry_fields.proofs.CellLaws.{Ends}

pub regroup3 : (a b c : List ℕ) → a ++ b ++ c ≡ a ++ (b ++ c)
regroup3 a b c = append_assoc a b c

pub regroup4 : (a b c d : List ℕ) → a ++ b ++ c ++ d ≡ a ++ (b ++ (c ++ d))
regroup4 a b c d = simp append_assoc

pub regroup5 : (a b c d e : List ℕ) → a ++ b ++ c ++ d ++ e ≡ a ++ (b ++ (c ++ (d ++ e)))
regroup5 a b c d e = simp append_assoc

pub regroup6 : (a b c d e f : List ℕ) → a ++ b ++ c ++ d ++ e ++ f ≡ a ++ (b ++ (c ++ (d ++ (e ++ f))))
regroup6 a b c d e f = simp append_assoc

pub regroup8 : (a b c d e f g h : List ℕ) → a ++ b ++ c ++ d ++ e ++ f ++ g ++ h ≡ a ++ (b ++ (c ++ (d ++ (e ++ (f ++ (g ++ h))))))
regroup8 a b c d e f g h = simp append_assoc

pub label_at : (rest : List ℕ) → after (codes " at " ++ rest) ≡ 32 ∷ rest
unfolding after behind
label_at rest = refl

pub label_floor : (rest : List ℕ) → after (codes " floor " ++ rest) ≡ 32 ∷ rest
unfolding after behind
label_floor rest = refl

pub label_lock : (rest : List ℕ) → after (codes " lock " ++ rest) ≡ 32 ∷ rest
unfolding after behind
label_lock rest = refl

pub label_found : (rest : List ℕ) → after (codes " found " ++ rest) ≡ 32 ∷ rest
unfolding after behind
label_found rest = refl

pub label_until : (rest : List ℕ) → after (codes " until " ++ rest) ≡ 32 ∷ rest
unfolding after behind
label_until rest = refl

-- no label looks like a cell
pub at_ends : (rest : List ℕ) → Ends (codes " at " ++ rest)
unfolding cell_at bare_cell piece
at_ends rest = record { stops = refl; none = refl }

pub floor_ends : (rest : List ℕ) → Ends (codes " floor " ++ rest)
unfolding cell_at bare_cell piece
floor_ends rest = record { stops = refl; none = refl }
