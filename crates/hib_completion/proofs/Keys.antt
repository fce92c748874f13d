-- The keys of changes, one after another.
use Rattle.std.proofs.Common.{◌≡◌, inl, inr, Bool, true, false, cond, not, ◌||◌, List, [], ◌∷◌, ◌++◌, refl, sym, ap, ◌∙◌, subst, append_assoc}
use Rattle.std.specs.List.{filter}
use Rattle.hib_base.specs.Keys.{same_key}
use Rattle.hib_base.proofs.Tables.{same_key_eq, Tested, tested}
use Rattle.hib_journal.specs.Types.{Key}
use Rattle.hib_journal.specs.Next.{add_key}
use Rattle.hib_completion.specs.Completed.{is_key_in}

-- the keys that are not among these
abbrev pub less : List Key → List Key → List Key
less ks js = filter (λ j. not (is_key_in j ks)) js

pub same_key_sym : (a b : Key) → same_key a b ≡ same_key b a
same_key_sym a b = by_test (tested (same_key a b)) (tested (same_key b a))
  where
    by_test : Tested (same_key a b) → Tested (same_key b a) → same_key a b ≡ same_key b a
    by_test (inl p) q = let e : a ≡ b = same_key_eq a b p in subst (λ x. same_key a x ≡ same_key x a) e refl
    by_test (inr p) (inr q) = p ∙ sym q
    by_test (inr p) (inl q) = let e : b ≡ a = same_key_eq b a q in subst (λ x. same_key x b ≡ same_key b x) e refl

pub less_none : (js : List Key) → less [] js ≡ js
less_none [] = refl
less_none (j ∷ js) = ap (λ xs. j ∷ xs) (less_none js)

-- a key that is among them is taken out anyway
less_there : (ks : List Key) (k : Key) (js : List Key) → is_key_in k ks ≡ true → less ks (filter (λ j. not (same_key j k)) js) ≡ less ks js
less_there ks k [] t = refl
less_there ks k (j ∷ js) t = by (tested (same_key j k)) (less_there ks k js t)
  where
    by : Tested (same_key j k) → less ks (filter (λ j. not (same_key j k)) js) ≡ less ks js → less ks (filter (λ j. not (same_key j k)) (j ∷ js)) ≡ less ks (j ∷ js)
    by (inl p) i = let u : is_key_in j ks ≡ true = subst (λ x. is_key_in x ks ≡ true) (sym (same_key_eq j k p)) t in rw (p, u, i) refl
    by (inr p) i = rw p (ap (λ xs. cond (not (is_key_in j ks)) (j ∷ xs) xs) i)

pub in_more : (j : Key) (ks : List Key) (k : Key) → is_key_in j (ks ++ k ∷ []) ≡ (is_key_in j ks || same_key k j)
in_more j [] k = by (same_key k j)
  where
    by : (b : Bool) → (b || false) ≡ b
    by true = refl
    by false = refl
in_more j (x ∷ ks) k = by (same_key x j) (in_more j ks k)
  where
    by : (b : Bool) → is_key_in j (ks ++ k ∷ []) ≡ (is_key_in j ks || same_key k j) → (b || is_key_in j (ks ++ k ∷ [])) ≡ ((b || is_key_in j ks) || same_key k j)
    by true i = refl
    by false i = i

less_more : (ks : List Key) (k : Key) (js : List Key) → less (ks ++ k ∷ []) js ≡ less ks (filter (λ j. not (same_key j k)) js)
less_more ks k [] = refl
less_more ks k (j ∷ js) = rw (in_more j ks k, same_key_sym k j) (by (is_key_in j ks) (same_key j k) refl (less_more ks k js))
  where
    by : (a b : Bool) → is_key_in j ks ≡ a → less (ks ++ k ∷ []) js ≡ less ks (filter (λ j. not (same_key j k)) js) →
        cond (not (a || b)) (j ∷ less (ks ++ k ∷ []) js) (less (ks ++ k ∷ []) js) ≡ less ks (cond (not b) (j ∷ filter (λ j. not (same_key j k)) js) (filter (λ j. not (same_key j k)) js))
    by true true e i = i
    by true false e i = rw e i
    by false true e i = i
    by false false e i = rw (e, i) refl

pub keep_there : (ks : List Key) (k : Key) (js whole : List Key) → is_key_in k ks ≡ true → ks ++ less ks (add_key k js) ≡ whole → ks ++ less ks js ≡ whole
keep_there ks k js whole t h = ap (λ xs. ks ++ xs) (sym (less_there ks k js t)) ∙ (rw t at h)

pub keep_new : (ks : List Key) (k : Key) (js whole : List Key) → is_key_in k ks ≡ false → ks ++ less ks (add_key k js) ≡ whole → (ks ++ k ∷ []) ++ less (ks ++ k ∷ []) js ≡ whole
keep_new ks k js whole t h = append_assoc ks (k ∷ []) (less (ks ++ k ∷ []) js) ∙ (ap (λ xs. ks ++ k ∷ xs) (less_more ks k js) ∙ (rw t at h))
