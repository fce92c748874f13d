-- A text that is added to others.
use Rattle.std.proofs.Common.{◌≡◌, ℕ, zero, suc, List, [], ◌∷◌, ◌++◌, length, map, Some, None, Bool, true, false, refl, sym, ap, ◌∙◌, subst, string_bytes, bytes_eq, ◌⊎◌, inl, inr}
use Rattle.std.specs.Prelude.{slice_get, option_map, if◌then◌else◌, ◌||◌, String}
use Rattle.std.specs.List.{list_any}
use Rattle.std.specs.String.{string_eq}
use Rattle.std.specs.declared.alloc.Global.{Global}
use Rattle.std.proofs.lemmas.Option.{slice_get-map}
use Rattle.std.proofs.lemmas.Slice.Eq.{bytes_eq-Decides}
use Rattle.indexmap.specs.IndexSet.{insert_key}
use Rattle.hib_trace_numbers.specs.Texts.{IsNamed, IsApart, Keeps}

or_right : (a b : Bool) → (a || b) ≡ false → b ≡ false
or_right true b h = absurd cc
or_right false b h = h

none_some : {A : Type 0} (a : A) → None ≡ Some a → ⊥
none_some a h = cc

some_one : {A : Type 0} (a b : A) → Some a ≡ Some b → a ≡ b
some_one a b h = cc

-- a list with one more at its end
kept : (ts : List (List ℕ)) (u : List ℕ) → Keeps ts (ts ++ u ∷ [])
kept [] u n t h = absurd (none_some t h)
kept (x ∷ ts) u zero t h = h
kept (x ∷ ts) u (suc n) t h = kept ts u n t h

-- a number there is an old one, or that of the new text
old_or_new : (ts : List (List ℕ)) (u : List ℕ) (n : ℕ) (t : List ℕ) → IsNamed (ts ++ u ∷ []) n t → IsNamed ts n t ⊎ ((n ≡ length ts) × (t ≡ u))
old_or_new [] u zero t h = inr (refl, some_one t u (sym h))
old_or_new [] u (suc n) t h = absurd (none_some t h)
old_or_new (x ∷ ts) u zero t h = inl h
old_or_new (x ∷ ts) u (suc n) t h = elim (old_or_new ts u n t h) [ inl i ↦ inl i | inr p ↦ inr (ap suc p.0, p.1) ]

absent : (ts : List (List ℕ)) (u : List ℕ) (n : ℕ) → list_any (bytes_eq u) ts ≡ false → IsNamed ts n u → ⊥
absent [] u n a h = none_some u h
absent (x ∷ ts) u zero a h = absurd (cc (a, ap (λ b. b || list_any (bytes_eq u) ts) ((bytes_eq-Decides u x).1 (sym (some_one x u h)))))
absent (x ∷ ts) u (suc n) a h = absent ts u n (or_right (bytes_eq u x) (list_any (bytes_eq u) ts) a) h

apart_more : (ts : List (List ℕ)) (u : List ℕ) → list_any (bytes_eq u) ts ≡ false → IsApart ts → IsApart (ts ++ u ∷ [])
apart_more ts u a p m n t h k =
    elim (old_or_new ts u m t h) [
      | inl i ↦ elim (old_or_new ts u n t k) [
        | inl j ↦ p m n t i j
        | inr q ↦ absurd (absent ts u m a (subst (IsNamed ts m) q.1 i))
      ]
      | inr r ↦ elim (old_or_new ts u n t k) [
        | inl j ↦ absurd (absent ts u n a (subst (IsNamed ts n) r.1 j))
        | inr q ↦ r.0 ∙ sym q.0
      ]
    ]

any_texts : (v : String Global) (ks : List (String Global)) → list_any (string_eq v) ks ≡ list_any (bytes_eq (string_bytes v)) (map string_bytes ks)
any_texts v [] = refl
any_texts v (k ∷ ks) = ap (λ b. string_eq v k || b) (any_texts v ks)

more_texts : (ks : List (String Global)) (v : String Global) → map string_bytes (ks ++ v ∷ []) ≡ map string_bytes ks ++ string_bytes v ∷ []
more_texts [] v = refl
more_texts (k ∷ ks) v = ap (λ ts. string_bytes k ∷ ts) (more_texts ks v)

keeps_by : (ks ls : List (String Global)) (v : String Global) (b : Bool) → ls ≡ (if b then ks else ks ++ v ∷ []) → Keeps (map string_bytes ks) (map string_bytes ls)
keeps_by ks ls v true e n t h = subst (λ (xs : List (String Global)). IsNamed (map string_bytes xs) n t) (sym e) h
keeps_by ks ls v false e n t h =
    subst (λ (ts : List (List ℕ)). IsNamed ts n t) (sym (ap (map string_bytes) e ∙ more_texts ks v)) (kept (map string_bytes ks) (string_bytes v) n t h)

pub keeps : (ks ls : List (String Global)) (v : String Global) → ls ≡ insert_key string_eq ks v → Keeps (map string_bytes ks) (map string_bytes ls)
keeps ks ls v e = keeps_by ks ls v (list_any (string_eq v) ks) e

apart_by : (ks ls : List (String Global)) (v : String Global) (b : Bool) → list_any (string_eq v) ks ≡ b → ls ≡ (if b then ks else ks ++ v ∷ []) →
    IsApart (map string_bytes ks) → IsApart (map string_bytes ls)
apart_by ks ls v true a e p = subst (λ (xs : List (String Global)). IsApart (map string_bytes xs)) (sym e) p
apart_by ks ls v false a e p =
    subst IsApart (sym (ap (map string_bytes) e ∙ more_texts ks v)) (apart_more (map string_bytes ks) (string_bytes v) (sym (any_texts v ks) ∙ a) p)

pub apart : (ks ls : List (String Global)) (v : String Global) → ls ≡ insert_key string_eq ks v → IsApart (map string_bytes ks) → IsApart (map string_bytes ls)
apart ks ls v e p = apart_by ks ls v (list_any (string_eq v) ks) refl e p

pub named : (ls : List (String Global)) (n : ℕ) (v k : String Global) (t : List ℕ) → slice_get ls n ≡ Some k → string_eq v k ≡ true → string_bytes v ≡ t → IsNamed (map string_bytes ls) n t
named ls n v k t g e b =
    slice_get-map string_bytes ls n ∙ ap (option_map string_bytes) g ∙ ap Some (sym ((bytes_eq-Decides (string_bytes v) (string_bytes k)).0 e) ∙ b)
