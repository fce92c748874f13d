-- One byte more of a piece.
use Rattle.std.proofs.Common.{◌≡◌, ℕ, suc, ◌+◌, ◌<◌, ◌≤◌, List, [], ◌∷◌, length, drop, get_or, cond, true, false, refl, arith, add-one, drop-cons}
use Rattle.std.proofs.lemmas.List.{drop_all}
use Rattle.hib_entry_fields.specs.Fields.{is_stop, piece_len}

pub piece_next : (bs : List ℕ) (i : ℕ) → i < length bs → piece_len (drop i bs) ≡ cond (is_stop (get_or bs i 0)) 0 (suc (piece_len (drop (i + 1) bs)))
piece_next bs i h = rw (add-one, drop-cons bs i 0) refl

pub piece_done : (bs : List ℕ) (i : ℕ) → length bs ≤ i → piece_len (drop i bs) ≡ 0
piece_done bs i h = rw (drop_all i bs h) refl

pub piece_fits : (bs : List ℕ) → piece_len bs ≤ length bs
piece_fits [] = omega arith
piece_fits (b ∷ bs) = elim (is_stop b) as (λ v. cond v 0 (suc (piece_len bs)) ≤ suc (length bs)) [ true ↦ omega arith | false ↦ omega (arith, piece_fits bs) ]
