-- Keys that were removed: a set that keeps the order of insertion, and the list that contracts see.
use Rattle.std.proofs.Common.{◌≡◌, true, false, cond, ◌||◌, List, [], ◌∷◌, ◌++◌, refl, sym, ap, ◌∙◌, inl, inr}
use Rattle.std.specs.List.{list_any}
use Rattle.std.specs.Set.{remove_key}
use Rattle.std.proofs.lemmas.Bool.{true≢false}
use Rattle.hib_base.proofs.Tables.{Tested, tested, same_key_refl, same_key_eq}
use Rattle.hib_base.specs.Keys.{same_key}
use Rattle.hib_journal.specs.Types.{Key}
use Rattle.indexmap.specs.IndexSet.{insert_key}
use Rattle.hib_identity_map.specs.Identity.{without, remove_last}

same_key_back : (a b : Key) → same_key a b ≡ true → same_key b a ≡ true
same_key_back a b p = let e : a ≡ b = same_key_eq a b p in rw e (same_key_refl b)

other_key_back : (a b : Key) → same_key a b ≡ false → same_key b a ≡ false
other_key_back a b p = by_test (tested (same_key b a))
  where
    by_test : Tested (same_key b a) → same_key b a ≡ false
    by_test (inl q) = absurd (true≢false (sym (same_key_back b a q) ∙ p))
    by_test (inr q) = q

-- a key that isn't there leaves nothing
absent_stays : (k : Key) (ks : List Key) → list_any (same_key k) ks ≡ false → without k ks ≡ ks
absent_stays k [] e = refl
absent_stays k (j ∷ js) e = by_test (tested (same_key k j)) (absent_stays k js)
  where
    by_test : Tested (same_key k j) → (list_any (same_key k) js ≡ false → without k js ≡ js) → without k (j ∷ js) ≡ j ∷ js
    by_test (inl p) i = absurd (true≢false (sym (rw p refl) ∙ e))
    by_test (inr p) i = let q : same_key j k ≡ false = other_key_back k j p in rw q (ap (λ xs. j ∷ xs) (i (sym (rw p refl) ∙ e)))

-- once the first key that is the same has left there is none
first_is_all : (k : Key) (ks : List Key) → list_any (same_key k) (remove_key (same_key k) ks) ≡ false → remove_key (same_key k) ks ≡ without k ks
first_is_all k [] e = refl
first_is_all k (j ∷ js) e = by_test (tested (same_key k j)) (first_is_all k js)
  where
    by_test : Tested (same_key k j) → (list_any (same_key k) (remove_key (same_key k) js) ≡ false → remove_key (same_key k) js ≡ without k js) → remove_key (same_key k) (j ∷ js) ≡ without k (j ∷ js)
    by_test (inl p) i = let q : same_key j k ≡ true = same_key_back k j p in rw (p, q) (sym (absent_stays k js (sym (rw p refl) ∙ e)))
    by_test (inr p) i = let q : same_key j k ≡ false = other_key_back k j p in
        let rest : List Key = remove_key (same_key k) js in
        let head : list_any (same_key k) (remove_key (same_key k) (j ∷ js)) ≡ (same_key k j || list_any (same_key k) rest) = ap (λ b. list_any (same_key k) (cond b js (j ∷ rest))) p in
        let none : list_any (same_key k) rest ≡ false = sym (ap (λ b. b || list_any (same_key k) rest) p) ∙ (sym head ∙ e) in
        rw (p, q) (ap (λ xs. j ∷ xs) (i none))

-- a key comes last, if it was taken out
pub moved_last : (k : Key) (ks left : List Key) → left ≡ remove_key (same_key k) ks → list_any (same_key k) left ≡ false → insert_key same_key left k ≡ remove_last k ks
moved_last k ks left p e =
    let q : list_any (same_key k) (remove_key (same_key k) ks) ≡ false = ap (list_any (same_key k)) (sym p) ∙ e in
    let w : left ≡ without k ks = p ∙ first_is_all k ks q in
    rw e (ap (λ xs. xs ++ k ∷ []) w)
