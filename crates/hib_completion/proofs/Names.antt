-- One more number of a range that is filtered.
use Rattle.std.proofs.Common.{◌≡◌, ℕ, suc, ◌+◌, ◌-◌, ◌<◌, Bool, true, false, cond, List, [], ◌∷◌, ◌++◌, refl, sym, ap, ◌∙◌, arith, append_assoc}
use Rattle.std.specs.List.{filter, range_with_len}

range_next : (n m : ℕ) → n < m → range_with_len n (m - n) ≡ n ∷ range_with_len (n + 1) (m - (n + 1))
range_next n m h =
    let e : m - n ≡ suc (m - (n + 1)) = omega arith in
    ap (range_with_len n) e ∙ refl

with_test : (p : ℕ → Bool) (n : ℕ) (ns : List ℕ) (b : Bool) → p n ≡ b → filter p (n ∷ ns) ≡ cond b (n ∷ filter p ns) (filter p ns)
with_test p n ns b e = rw e refl

pub next_some : (p : ℕ → Bool) (names whole : List ℕ) (n m e : ℕ) → n < m → e ≡ n → p n ≡ true → names ++ filter p (range_with_len n (m - n)) ≡ whole →
    (names ++ e ∷ []) ++ filter p (range_with_len (n + 1) (m - (n + 1))) ≡ whole
next_some p names whole n m e l s t h =
    append_assoc names (e ∷ []) (filter p (range_with_len (n + 1) (m - (n + 1))))
    ∙ ap (λ x. names ++ x ∷ filter p (range_with_len (n + 1) (m - (n + 1)))) s
    ∙ ap (λ ns. names ++ ns) (sym (with_test p n (range_with_len (n + 1) (m - (n + 1))) true t))
    ∙ ap (λ ns. names ++ filter p ns) (sym (range_next n m l))
    ∙ h

pub next_none : (p : ℕ → Bool) (names whole : List ℕ) (n m : ℕ) → n < m → p n ≡ false → names ++ filter p (range_with_len n (m - n)) ≡ whole →
    names ++ filter p (range_with_len (n + 1) (m - (n + 1))) ≡ whole
next_none p names whole n m l t h =
    ap (λ ns. names ++ ns) (sym (with_test p n (range_with_len (n + 1) (m - (n + 1))) false t))
    ∙ ap (λ ns. names ++ filter p ns) (sym (range_next n m l))
    ∙ h
