-- Two lists that are gone over side by side.
use Rattle.std.proofs.Common.{◌≡◌, ℕ, zero, suc, ◌+◌, ◌<◌, ◌≤◌, List, [], ◌∷◌, length, get_or, take, Some, refl, ap, ◌∙◌, sym, subst, arith}
use Rattle.std.proofs.lemmas.Option.{slice_get-get_or, none-some, same_Some}
use Rattle.std.specs.Prelude.{slice_get}

-- their fronts are the same, and so is what comes next
both_more : {A : Type 0} (xs ys : List A) (i : ℕ) (x y : A) → take i xs ≡ take i ys → slice_get xs i ≡ Some x → slice_get ys i ≡ Some y → x ≡ y → take (suc i) xs ≡ take (suc i) ys
both_more [] ys i x y e p q d = absurd (none-some x p)
both_more (a ∷ xs) [] i x y e p q d = absurd (none-some y q)
both_more (a ∷ xs) (b ∷ ys) zero x y e p q d = let same : a ≡ b = same_Some a x p ∙ (d ∙ sym (same_Some b y q)) in ap (λ z. z ∷ []) same
both_more {A} (a ∷ xs) (b ∷ ys) (suc i) x y e p q d =
    let head : a ≡ b = cc in
    let tail : take i xs ≡ take i ys = cc in
    let more : take (suc i) xs ≡ take (suc i) ys = both_more xs ys i x y tail p q d in
    cc

pub same_more : {A : Type 0} (xs ys : List A) (i : ℕ) (x y : A) → take i xs ≡ take i ys → slice_get xs i ≡ Some x → slice_get ys i ≡ Some y → x ≡ y → take (i + 1) xs ≡ take (i + 1) ys
same_more xs ys i x y e p q d = let n : i + 1 ≡ suc i = omega arith in subst (λ m. take m xs ≡ take m ys) (sym n) (both_more xs ys i x y e p q d)

all_taken : {A : Type 0} (xs : List A) (i : ℕ) → length xs ≤ i → take i xs ≡ xs
all_taken [] zero l = refl
all_taken [] (suc i) l = refl
all_taken (x ∷ xs) zero l = absurd (omega (arith, l))
all_taken (x ∷ xs) (suc i) l = ap (λ z. x ∷ z) (all_taken xs i (omega (arith, l)))

pub same_all : {A : Type 0} (xs ys : List A) (i : ℕ) → length xs ≡ length ys → length xs ≤ i → take i xs ≡ take i ys → xs ≡ ys
same_all xs ys i n l e = sym (all_taken xs i l) ∙ (e ∙ all_taken ys i (omega (arith, n, l)))

pub same_at : {A : Type 0} (xs ys : List A) (i : ℕ) (x y : A) → slice_get xs i ≡ Some x → slice_get ys i ≡ Some y → xs ≡ ys → x ≡ y
same_at xs ys i x y p q e = same_Some x y (sym p ∙ (ap (λ zs. slice_get zs i) e ∙ q))

-- what was read at a place
pub read_at : {A : Type 0} (xs : List A) (i s : ℕ) (y : A) → i ≡ s → s < length xs → y ≡ get_or xs i y → slice_get xs s ≡ Some y
read_at xs i s y e l v = slice_get-get_or xs s y l ∙ ap Some (sym (subst (λ n. y ≡ get_or xs n y) e v))
