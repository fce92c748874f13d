-- What is cached before a section of bulk lines or of places is cached under soft locks.
use Rattle.std.proofs.Common.{◌≡◌, ℕ, zero, suc, Bool, true, false, List, [], ◌∷◌, Option, Some, None, refl, subst, sym, ◌∙◌, inl, inr}
use Rattle.std.specs.Prelude.{slice_get}
use Rattle.std.specs.Option.{option_map}
use Rattle.std.specs.List.{find}
use Rattle.std.proofs.lemmas.Bool.{true≢false, false≢true}
use Rattle.hib_base.specs.Scripts.{strategy_in, is_cached_by, is_cached_in}
use Rattle.hib_base.specs.declared.refusals.Kind.{Kind}
use Rattle.hib_base.specs.declared.refusals.Refused.{Refused}
use Rattle.hib_base.specs.declared.scripts.EntityDef.{EntityDef}
use Rattle.hib_base.specs.declared.scripts.Strategy.{Strategy}
use Rattle.hib_base.proofs.Tables.{Tested, tested}
use Rattle.hib_lex.specs.declared.lines.Line.{Line}
use Rattle.hib_sections.specs.Before.{fault_before, is_other, or_at, other_strategy}

not_first : {A : Type 0} (p : A → Bool) (y : A) (ys : List A) → find p (y ∷ ys) ≡ None → p y ≡ false
not_first p y ys f = by_test (tested (p y))
  where
    by_test : Tested (p y) → p y ≡ false
    by_test (inl t) = let s : find p (y ∷ ys) ≡ Some y = rw t refl in absurd (cc)
    by_test (inr t) = t

later : {A : Type 0} (p : A → Bool) (y : A) (ys : List A) → find p (y ∷ ys) ≡ None → find p ys ≡ None
later p y ys f = let s : find p (y ∷ ys) ≡ find p ys = rw (not_first p y ys f) refl in sym s ∙ f

none_found : {A : Type 0} (p : A → Bool) (xs : List A) (i : ℕ) (x : A) → find p xs ≡ None → slice_get xs i ≡ Some x → p x ≡ false
none_found p [] i x f e = absurd (cc)
none_found p (y ∷ ys) zero x f e = let s : y ≡ x = cc in subst (λ z. p z ≡ false) s (not_first p y ys f)
none_found p (y ∷ ys) (suc i) x f e = none_found p ys i x (later p y ys f) e

by_strategy : (s : Strategy) → is_other s ≡ false → is_cached_by s ≡ true → s ≡ Strategy.ReadWrite
by_strategy Strategy.Uncached o c = absurd (false≢true c)
by_strategy Strategy.ReadWrite o c = refl
by_strategy Strategy.ReadOnly o c = absurd (true≢false o)
by_strategy Strategy.Nonstrict o c = absurd (true≢false o)

first_none : (o : Option ℕ) (k : Kind) (r : Option Refused) → or_at o k r ≡ None → o ≡ None
first_none None k r e = refl
first_none (Some n) k r e = absurd (cc)

no_line : {A : Type 0} (f : A → ℕ) (o : Option A) → option_map f o ≡ None → o ≡ None
no_line f None e = refl
no_line f (Some x) e = absurd (cc)

pub locked : (m : List EntityDef) (ls : List Line) → fault_before m ls ≡ None → (n : ℕ) → is_cached_in m n ≡ true → strategy_in (slice_get m n) ≡ Strategy.ReadWrite
locked m ls e n c = by_entity (slice_get m n) refl c
  where
    none : find (λ d. is_other d.strategy) m ≡ None
    none = no_line _ (find (λ d. is_other d.strategy) m) (first_none (other_strategy m ls) Kind.Strategy _ e)

    by_entity : (o : Option EntityDef) → slice_get m n ≡ o → is_cached_by (strategy_in o) ≡ true → strategy_in o ≡ Strategy.ReadWrite
    by_entity None g h = absurd (false≢true h)
    by_entity (Some d) g h = by_strategy d.strategy (none_found (λ d. is_other d.strategy) m n d none g) h
