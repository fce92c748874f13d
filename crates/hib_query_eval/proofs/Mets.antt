-- The rows of an entity that meet a condition hang on its tables alone.
use Rattle.std.specs.Option.{option_map_or}
use Rattle.std.specs.List.{filter}
use Rattle.std.proofs.Common.{◌≡◌, ℕ, Bool, true, false, cond, ◌&&◌, ◌==◌, [], ◌∷◌, Some, None, Option, refl, sym, ap, ◌∙◌, inl, inr}
use Rattle.hib_base.specs.Tables.{Tables, row_at}
use Rattle.hib_base.proofs.Tables.{Tested, tested}
use Rattle.hib_journal.specs.Types.{Key, Row, Cond}
use Rattle.hib_journal.specs.Query.{holds, mentions}
use Rattle.hib_journal.specs.Room.{key}
use Rattle.hib_journal.proofs.Untouched.{rows_in, Agree, holds_same}
use Rattle.hib_query_eval.specs.Met.{met}

meets_same : (t u : Tables) (r : Row) (c : Option Cond) → Agree t u (λ n. option_map_or (mentions n) c false) → option_map_or (holds t r) c true ≡ option_map_or (holds u r) c true
meets_same t u r None f = refl
meets_same t u r (Some c) f = holds_same t u r c f

-- among the rows of the entity
among : (e : ℕ) (q : Key × Row → Bool) (t : Tables) → filter (λ a. (a.0.entity == e) && q a) t ≡ filter q (rows_in e t)
among e q [] = refl
among e q (a ∷ t) = by_test (tested (a.0.entity == e)) (among e q t)
  where
    by_test : Tested (a.0.entity == e) → filter (λ a. (a.0.entity == e) && q a) t ≡ filter q (rows_in e t)
        → filter (λ a. (a.0.entity == e) && q a) (a ∷ t) ≡ filter q (rows_in e (a ∷ t))
    by_test (inl x) i = rw x (ap (λ z. cond (q a) (a ∷ z) z) i)
    by_test (inr x) i = rw x i

pub met_alike : (e : ℕ) (c : Option Cond) (t u : Tables) → rows_in e t ≡ rows_in e u
    → ((n i : ℕ) → option_map_or (mentions n) c false ≡ true → row_at t (key n i) ≡ row_at u (key n i)) → met e c t ≡ met e c u
met_alike e c t u ours agree =
    among e (λ a. option_map_or (holds t a.1) c true) t
    ∙ (ap (λ p. filter p (rows_in e t)) swap
    ∙ (ap (λ rows. filter (λ a. option_map_or (holds u a.1) c true) rows) ours
    ∙ sym (among e (λ a. option_map_or (holds u a.1) c true) u)))
  where
    swap : ◌≡◌ {A = Key × Row → Bool} (λ a. option_map_or (holds t a.1) c true) (λ a. option_map_or (holds u a.1) c true)
    swap = λ i a. meets_same t u a.1 c agree i
