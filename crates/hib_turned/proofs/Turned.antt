-- Lists of pairs that are turned round, or put together: how a key is looked up in them and taken out.
use Rattle.std.proofs.Common.{◌≡◌, inl, inr, Bool, true, false, cond, List, [], ◌∷◌, ◌++◌, reverse, Some, None, Option, is_some, refl, sym, ap, ◌∙◌, subst}
use Rattle.std.specs.Map.{keys_of, lookup, remove_entry}
use Rattle.std.specs.List.{IsDistinct, AllByRecursion}
use Rattle.std.proofs.lemmas.List.{reverse-append, append-nil}
use Rattle.hib_base.proofs.Tables.{Tested, tested}

pub reverse_more : {A : Type 0} (x : A) (xs : List A) → reverse (x ∷ xs) ≡ reverse xs ++ x ∷ []
reverse_more x xs = reverse-append (x ∷ []) xs

abbrev pub or_else : {V : Type 0} → Option V → Option V → Option V
or_else (Some v) o = Some v
or_else None o = o

or_none : {V : Type 0} (o : Option V) → or_else o None ≡ o
or_none (Some v) = refl
or_none None = refl

module _ {K V : Type 0} (test : K → Bool) where
  -- at most one key passes the test
  abbrev pub IsOnce : List (K × V) → Type 0
  IsOnce [] = Unit {0}
  IsOnce (e ∷ es) = (test e.0 ≡ true → lookup test es ≡ None) × IsOnce es

  pub lookup_joined : (a b : List (K × V)) → lookup test (a ++ b) ≡ or_else (lookup test a) (lookup test b)
  lookup_joined [] b = refl
  lookup_joined (e ∷ a) b = by (test e.0) (lookup_joined a b)
    where
      by : (t : Bool) → lookup test (a ++ b) ≡ or_else (lookup test a) (lookup test b) → cond t (Some e.1) (lookup test (a ++ b)) ≡ or_else (cond t (Some e.1) (lookup test a)) (lookup test b)
      by true h = refl
      by false h = h

  pub lookup_turned : (es : List (K × V)) → IsOnce es → lookup test (reverse es) ≡ lookup test es
  lookup_turned [] o = refl
  lookup_turned (e ∷ es) o =
      ap (lookup test) (reverse_more e es) ∙ lookup_joined (reverse es) (e ∷ [])
      ∙ ap (λ x. or_else x (cond (test e.0) (Some e.1) None)) (lookup_turned es o.1) ∙ by (tested (test e.0)) o.0
    where
      by : Tested (test e.0) → (test e.0 ≡ true → lookup test es ≡ None) → or_else (lookup test es) (cond (test e.0) (Some e.1) None) ≡ cond (test e.0) (Some e.1) (lookup test es)
      by (inl t) n = rw (t, n t) refl
      by (inr t) n = rw t (or_none (lookup test es))

  pub removed_before : (a b : List (K × V)) → is_some (lookup test a) ≡ true → remove_entry test (a ++ b) ≡ remove_entry test a ++ b
  removed_before [] b s = absurd (cc)
  removed_before (e ∷ a) b s = by (test e.0) s (removed_before a b)
    where
      by : (t : Bool) → is_some (cond t (Some e.1) (lookup test a)) ≡ true → (is_some (lookup test a) ≡ true → remove_entry test (a ++ b) ≡ remove_entry test a ++ b)
          → cond t (a ++ b) (e ∷ remove_entry test (a ++ b)) ≡ cond t a (e ∷ remove_entry test a) ++ b
      by true s h = refl
      by false s h = ap (λ x. e ∷ x) (h s)

  pub removed_behind : (a b : List (K × V)) → is_some (lookup test a) ≡ false → remove_entry test (a ++ b) ≡ a ++ remove_entry test b
  removed_behind [] b s = refl
  removed_behind (e ∷ a) b s = by (test e.0) s (removed_behind a b)
    where
      by : (t : Bool) → is_some (cond t (Some e.1) (lookup test a)) ≡ false → (is_some (lookup test a) ≡ false → remove_entry test (a ++ b) ≡ a ++ remove_entry test b)
          → cond t (a ++ b) (e ∷ remove_entry test (a ++ b)) ≡ e ∷ (a ++ remove_entry test b)
      by true s h = absurd (cc)
      by false s h = ap (λ x. e ∷ x) (h s)

  pub absent_stays : (a : List (K × V)) → is_some (lookup test a) ≡ false → remove_entry test a ≡ a
  absent_stays a s = ap (remove_entry test) (sym (append-nil a)) ∙ removed_behind a [] s ∙ append-nil a

  pub removed_turned : (es : List (K × V)) → IsOnce es → remove_entry test (reverse es) ≡ reverse (remove_entry test es)
  removed_turned [] o = refl
  removed_turned (e ∷ es) o =
      ap (remove_entry test) (reverse_more e es) ∙ by (tested (test e.0)) (tested (is_some (lookup test es))) o (removed_turned es o.1)
    where
      same : IsOnce es → is_some (lookup test (reverse es)) ≡ is_some (lookup test es)
      same o = ap is_some (lookup_turned es o)

      by : Tested (test e.0) → Tested (is_some (lookup test es)) → IsOnce (e ∷ es) → remove_entry test (reverse es) ≡ reverse (remove_entry test es)
          → remove_entry test (reverse es ++ e ∷ []) ≡ reverse (cond (test e.0) es (e ∷ remove_entry test es))
      by (inl t) f o h = removed_behind (reverse es) (e ∷ []) (same o.1 ∙ ap is_some (o.0 t)) ∙ rw t (append-nil (reverse es))
      by (inr t) (inl f) o h = removed_before (reverse es) (e ∷ []) (same o.1 ∙ f) ∙ ap (λ x. x ++ e ∷ []) h ∙ rw t (sym (reverse_more e (remove_entry test es)))
      by (inr t) (inr f) o h =
          removed_behind (reverse es) (e ∷ []) (same o.1 ∙ f) ∙ rw (t, absent_stays es f) (sym (reverse_more e es))

-- keys of which none is equal to a later one
module _ {K V : Type 0} (eq : K → K → Bool) (same : (a b : K) → eq a b ≡ true → a ≡ b) where
  none_equal : (k : K) (es : List (K × V)) → AllByRecursion (λ y. eq k y ≡ false) (keys_of es) → lookup (eq k) es ≡ None
  none_equal k [] a = refl
  none_equal k (e ∷ es) a = rw (a.0) (none_equal k es a.1)

  pub distinct_once : (k : K) (es : List (K × V)) → IsDistinct eq (keys_of es) → IsOnce (eq k) es
  unfolding IsDistinct
  distinct_once k [] d = tt
  distinct_once k (e ∷ es) d = (λ t. subst (λ j. lookup (eq j) es ≡ None) (sym (same k e.0 t)) (none_equal e.0 es d.0), distinct_once k es d.1)
