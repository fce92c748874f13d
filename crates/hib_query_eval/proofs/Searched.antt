-- Identifiers among which those of all rows are that meet a condition after changes.
use Rattle.std.specs.Option.{option_map_or}
use Rattle.std.proofs.Common.{◌≡◌, ℕ, true, false, ◌||◌, List, [], ◌∷◌, ◌++◌, Some, None, Option, IfSome, refl, ap, sym, ◌∙◌, subst, inl, inr}
use Rattle.std.specs.List.{list_any}
use Rattle.std.proofs.lemmas.Bool.{true≢false, or_parts, eq-eqb, ne_eqb}
use Rattle.hib_base.specs.Tables.{Tables, row_at, key_of, after_changes}
use Rattle.hib_base.proofs.Tables.{Tested, tested}
use Rattle.hib_journal.specs.Types.{Row, Change, Cond, Query}
use Rattle.hib_journal.specs.Query.{holds, mentions}
use Rattle.hib_journal.specs.Room.{key}
use Rattle.hib_query_eval.specs.declared.columns.Column.{Column}
use Rattle.hib_query_eval.specs.Covers.{Covers, HasLeft, HasMet}
use Rattle.hib_query_eval.specs.Places.{AreIndexes, has_id}
use Rattle.hib_query_eval.specs.declared.own.Laid.{Laid}
use Rattle.hib_query_eval.specs.Views.{is_changed, Lays}
use Rattle.hib_query_eval.proofs.Spans.{gained}
use Rattle.hib_journal.proofs.Untouched.{touches, row_same, holds_same}
use Rattle.hib_query_eval.proofs.Views.{row_changed, row_unchanged}

pub id_itself : (n : ℕ) (xs : List ℕ) → has_id n (n ∷ xs) ≡ true
id_itself n xs = ap (λ b. b || has_id n xs) (eq-eqb n n refl)

-- no change touches a table to which a condition steps
not_stepped : (c : Cond) (cs : List Change) → list_any (λ d. mentions (key_of d).entity c) cs ≡ false → (n : ℕ) → mentions n c ≡ true → touches n cs ≡ false
not_stepped c [] e n r = refl
not_stepped c (d ∷ cs) e n r =
    let p : (mentions (key_of d).entity c ≡ false) × (list_any (λ d. mentions (key_of d).entity c) cs ≡ false) =
    or_parts (mentions (key_of d).entity c) (list_any (λ d. mentions (key_of d).entity c) cs) e in
    rw (ne_eqb (key_of d).entity n (λ s. true≢false (sym r ∙ subst (λ m. mentions m c ≡ false) s p.0))) (not_stepped c cs p.1 n r)

-- identifiers among which are those of the rows that meet a query's condition
pub all_met : {A : Type 0} (items : A → List ℕ) (cs : List Column) (q : Query) (c : Cond) (o : Option A) → q.condition ≡ Some c
    → IfSome o (λ a. Covers cs q.entity c (items a)) → IfSome o (λ a. (t : Tables) → AreIndexes cs t → HasMet q t (items a))
all_met items cs q c None e f = tt
all_met items cs q c (Some a) e f = λ t x r i at m. f t x r i at (ap (λ o. option_map_or (holds t r) o true) (sym e) ∙ m)

-- a row meets a query's condition before changes exactly if it does after them, if they touch no table to which the condition steps
pub meets_after : (q : Query) (cs : List Change) (t : Tables) (r : Row) → option_map_or (λ c. list_any (λ d. mentions (key_of d).entity c) cs) q.condition false ≡ false
    → option_map_or (holds t r) q.condition true ≡ option_map_or (holds (after_changes cs t) r) q.condition true
meets_after q cs t r d = at q.condition d
  where
    at : (o : Option Cond) → option_map_or (λ c. list_any (λ d. mentions (key_of d).entity c) cs) o false ≡ false
        → option_map_or (holds t r) o true ≡ option_map_or (holds (after_changes cs t) r) o true
    at None d = refl
    at (Some c) d = sym (holds_same (after_changes cs t) t r c (λ n i h. row_same (key n i) cs t (not_stepped c cs d n h)))

-- a condition that steps nowhere is met over any tables
pub meets_anywhere : (q : Query) (t u : Tables) (r : Row) → ((n : ℕ) → option_map_or (mentions n) q.condition false ≡ false)
    → option_map_or (holds t r) q.condition true ≡ option_map_or (holds u r) q.condition true
meets_anywhere q t u r f = at q.condition f
  where
    at : (o : Option Cond) → ((n : ℕ) → option_map_or (mentions n) o false ≡ false) → option_map_or (holds t r) o true ≡ option_map_or (holds u r) o true
    at None f = refl
    at (Some c) f = holds_same t u r c (λ n i h. absurd (true≢false (sym h ∙ f n)))

-- the rows that changes leave are found by their cells, where the condition steps nowhere
pub left_found : (q : Query) (cs : List Change) (laid : Laid) (old more new : List ℕ) → ((n : ℕ) → option_map_or (mentions n) q.condition false ≡ false)
    → HasMet q laid.left more → new ≡ old ++ more → HasLeft q cs laid new
left_found q cs laid old more new f h e t r i at c m = gained i old new more e (h r i at (meets_anywhere q laid.left t r f ∙ m))

pub left_changed : (q : Query) (cs : List Change) (laid : Laid) (ids : List ℕ) → ((i : ℕ) → is_changed (key q.entity i) cs ≡ true → has_id i ids ≡ true) → HasLeft q cs laid ids
left_changed q cs laid ids f t r i at c m = f i c

-- identifiers among which are those of all rows that meet the condition after the changes
pub met_over : (q : Query) (cs : List Change) (laid : Laid) (t : Tables) (old new : List ℕ) → Lays cs laid
    → option_map_or (λ c. list_any (λ d. mentions (key_of d).entity c) cs) q.condition false ≡ false
    → HasMet q t old → ((i : ℕ) → has_id i old ≡ true → has_id i new ≡ true) → HasLeft q cs laid new → HasMet q (after_changes cs t) new
met_over q cs laid t old new x d f g h r i at m = by (tested (is_changed (key q.entity i) cs))
  where
    by : Tested (is_changed (key q.entity i) cs) → has_id i new ≡ true
    by (inl s) = h (after_changes cs t) r i (ap (λ u. row_at u (key q.entity i)) x.left ∙ row_changed (key q.entity i) cs t s ∙ at) s m
    by (inr s) = g i (f r i (row_unchanged (key q.entity i) cs t s ∙ at) (meets_after q cs t r d ∙ m))

-- a condition that mentions no table
pub none_stepped : (c : Cond) (cs : List Change) → ((n : ℕ) → mentions n c ≡ false) → false ≡ list_any (λ d. mentions (key_of d).entity c) cs
none_stepped c [] f = refl
none_stepped c (d ∷ cs) f = λ i. sym (f (key_of d).entity) i || none_stepped c cs f i
