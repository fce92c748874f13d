-- Numbers in turn, from the first.
use Rattle.std.proofs.Common.{◌≡◌, ℕ, suc, ◌+◌, ◌-◌, ◌<◌, List, [], ◌∷◌, ◌++◌, refl, sym, ap, ◌∙◌, arith, append_assoc, append-nil}
use Rattle.std.specs.List.{range_with_len}

range_next : (n m : ℕ) → n < m → range_with_len n (m - n) ≡ n ∷ range_with_len (n + 1) (m - (n + 1))
range_next n m h =
    let e : m - n ≡ suc (m - (n + 1)) = omega arith in
    ap (range_with_len n) e ∙ refl

-- the numbers so far and those that are left are all of them: with one more, and at the end
pub one_more : (so_far all : List ℕ) (n m : ℕ) → n < m → so_far ++ range_with_len n (m - n) ≡ all → (so_far ++ n ∷ []) ++ range_with_len (n + 1) (m - (n + 1)) ≡ all
one_more so_far all n m l h =
    append_assoc so_far (n ∷ []) (range_with_len (n + 1) (m - (n + 1))) ∙ ap (λ ns. so_far ++ ns) (sym (range_next n m l)) ∙ h

pub none_left : (so_far all : List ℕ) (n m : ℕ) → m - n ≡ 0 → so_far ++ range_with_len n (m - n) ≡ all → so_far ≡ all
none_left so_far all n m e h = sym (append-nil so_far) ∙ ap (λ k. so_far ++ range_with_len n k) (sym e) ∙ h
