-- The rows of an index: as they are asked for, after a commit, and what a query gives over them.
use Rattle.std.proofs.Common.{◌≡◌, ℕ, ◌+◌, ◌<◌, ◌≤◌, Bool, true, false, cond, ◌==◌, ◌||◌, List, [], ◌∷◌, ◌++◌, arith, Some, None, Option, IfSome, MatchOption, refl, sym, ap, ◌∙◌, subst, inl, inr}
use Rattle.std.specs.Prelude.{nat_lt}
use Rattle.std.specs.Option.{option_map_or}
use Rattle.std.proofs.lemmas.Bool.{true≢false, eqb-true, eq-eqb, or_left, or_right, lt-ltb, le-ltb, ltb-true, ltb-false}
use Rattle.hib_base.specs.Tables.{Tables, row_at, with_absent, last_on, after_changes, commit_answer, in_order}
use Rattle.hib_base.proofs.Tables.{Tested, tested, left_by, row_at_changes}
use Rattle.hib_outside.specs.Keeps.{is_listed, rows_of}
use Rattle.hib_outside.proofs.Orders.{in_order_changes}
use Rattle.hib_journal.specs.Query.{reads, gives, mentions}
use Rattle.hib_journal.specs.Room.{key}
use Rattle.hib_journal.proofs.Untouched.{gives_alike}
use Rattle.hib_query_eval.specs.Met.{met}
use Rattle.hib_query_eval.proofs.Mets.{met_alike}
use Rattle.hib_query_eval.proofs.Laid.{kept, row_at_kept, in_order_kept, same_tables, row_at_with_absent}
use Rattle.hib_store.specs.Types.{Key, Change, Commit, Cond, Query}
use Rattle.hib_store.specs.Stores.{AreOf, IsIndexed, IsListed, IsSnapshotOf, MeetsBelow, ReadsBelow, SnapshotState, if_applied, index_left, tables_answered}
use Rattle.hib_store.specs.declared.store.Listed.{Listed}
use Rattle.hib_journal.specs.Types.{Cell}

-- what is asked of the keeper
pub asked_rows : (n : ℕ) (es : List ℕ) (rows view : Tables) (told : Option Tables) → ((k : ℕ) → is_listed k es ≡ nat_lt k n) → IfSome told (λ m. rows ≡ rows_of es m)
    → view ≡ after_changes [] (with_absent [] rows) → IfSome told (λ m. AreOf n view m)
asked_rows n es rows view None f h e = tt
asked_rows n es rows view (Some m) f h e = λ k l.
    let t : is_listed k.entity es ≡ true = f k.entity ∙ lt-ltb k.entity n l in
    ap (λ t. row_at t k) e ∙ row_at_with_absent [] rows k ∙ ap (λ t. row_at t k) h ∙ row_at_kept (λ e. is_listed e es) m k ∙ ap (λ b. cond b (row_at m k) None) t

-- after changes
changed_rows : (n : ℕ) (cs : List Change) (rows m : Tables) → AreOf n rows m → AreOf n (after_changes cs rows) (after_changes cs m)
changed_rows n cs rows m a k l = row_at_changes cs rows k ∙ ap (left_by (last_on k cs)) (a k l) ∙ sym (row_at_changes cs m k)

-- and after an answer to a commit
applied_rows : (c : Commit) (rows l : Tables) → if_applied c rows ≡ Some l → l ≡ rows
applied_rows Commit.Committed rows l h = cc
applied_rows (Commit.Stale k found) rows l h = cc
applied_rows (Commit.Duplicate k) rows l h = cc
applied_rows Commit.Fault rows l h = cc

pub left_rows : (n : ℕ) (index left told told' : Option Tables) (c : Commit) (cs : List Change) → IsIndexed n index told
    → IfSome left (λ l. MatchOption index ⊥ (λ rows. index_left c cs rows ≡ Some l)) → told' ≡ tables_answered c cs told → IsIndexed n left told'
left_rows n index None told told' c cs x h e = tt
left_rows n None (Some l) told told' c cs x h e = absurd h
left_rows n (Some rows) (Some l) told told' c cs x h e = subst (λ o. IfSome o (λ m. AreOf n l m)) (sym e) (at c told x h)
  where
    at : (c : Commit) (told : Option Tables) → IfSome told (λ m. AreOf n rows m) → index_left c cs rows ≡ Some l → IfSome (tables_answered c cs told) (λ m. AreOf n l m)
    at Commit.Committed None x h = tt
    at Commit.Committed (Some m) x h =
        subst (λ t. AreOf n t (after_changes cs m)) (sym (applied_rows (commit_answer cs rows) (after_changes cs rows) l h)) (changed_rows n cs rows m x)
    at (Commit.Stale k found) None x h = tt
    at (Commit.Stale k found) (Some m) x h = let e : rows ≡ l = cc in subst (λ t. AreOf n t m) e x
    at (Commit.Duplicate k) None x h = tt
    at (Commit.Duplicate k) (Some m) x h = let e : rows ≡ l = cc in subst (λ t. AreOf n t m) e x
    at Commit.Fault told x h = cc

-- a query that reads only the first entities gives the same over their rows
pub gives_of : (n : ℕ) (q : Query) (cs : List Change) (rows m : Tables) → in_order rows ≡ true → in_order m ≡ true → AreOf n rows m
    → ((k : ℕ) → reads q k ≡ true → k < n) → gives q (after_changes cs rows) ≡ gives q (after_changes cs m)
gives_of n q cs rows m o p a f =
    gives_alike q (after_changes cs rows) (after_changes cs m)
    (same_tables (kept own (after_changes cs rows)) (kept own (after_changes cs m))
    (in_order_kept own (after_changes cs rows) (in_order_changes cs rows o)) (in_order_kept own (after_changes cs m) (in_order_changes cs m p))
    (λ k. row_at_kept own (after_changes cs rows) k ∙ at k (tested (k.entity == q.entity)) ∙ sym (row_at_kept own (after_changes cs m) k)))
    (λ k i e. changed_rows n cs rows m a (key k i) (f k (or_right (q.entity == k) (option_map_or (mentions k) q.condition false) e)))
  where
    own : ℕ → Bool
    own n = n == q.entity

    at : (k : Key) → Tested (k.entity == q.entity) → cond (k.entity == q.entity) (row_at (after_changes cs rows) k) None ≡ cond (k.entity == q.entity) (row_at (after_changes cs m) k) None
    at k (inl s) =
        let e : q.entity ≡ k.entity = sym (eqb-true k.entity q.entity s) in
        ap (λ o. cond (k.entity == q.entity) o None)
        (changed_rows n cs rows m a k (f k.entity (or_left (q.entity == k.entity) (option_map_or (mentions k.entity) q.condition false) (eq-eqb q.entity k.entity e))))
    at k (inr s) = rw s refl

-- one entity more
pub one_entity : (n e : ℕ) (xs new : List ℕ) → new ≡ xs ++ e ∷ [] → is_listed n xs ≡ nat_lt n e → is_listed n new ≡ nat_lt n (e + 1)
one_entity n e xs new g h = ap (is_listed n) g ∙ behind xs ∙ ap (λ b. b || (e == n)) h ∙ at (tested (nat_lt n e)) (tested (e == n))
  where
    behind : (xs : List ℕ) → is_listed n (xs ++ e ∷ []) ≡ (is_listed n xs || (e == n))
    behind [] = or_false (e == n)
      where
        or_false : (b : Bool) → (b || false) ≡ b
        or_false true = refl
        or_false false = refl
    behind (x ∷ xs) = ap (λ b. (x == n) || b) (behind xs) ∙ or_assoc (x == n)
      where
        or_assoc : (b : Bool) → (b || (is_listed n xs || (e == n))) ≡ ((b || is_listed n xs) || (e == n))
        or_assoc true = refl
        or_assoc false = refl

    at : Tested (nat_lt n e) → Tested (e == n) → (nat_lt n e || (e == n)) ≡ nat_lt n (e + 1)
    at (inl p) q =
        let l : n < e = ltb-true n e p in
        ap (λ b. b || (e == n)) p ∙ sym (lt-ltb n (e + 1) (omega arith))
    at (inr p) (inl q) =
        let r : e ≡ n = eqb-true e n q in
        (λ j. p j || q j) ∙ sym (lt-ltb n (e + 1) (omega arith))
    at (inr p) (inr q) =
        let l : e ≤ n = ltb-false n e p in
        let d : (e ≡ n → ⊥) = λ r. true≢false (sym (eq-eqb e n r) ∙ q) in
        (λ j. p j || q j) ∙ sym (le-ltb n (e + 1) (omega (arith, d)))

-- what is listed from an index
pub listed_of : (n : ℕ) (q : Query) (cs : List Change) (rows : Tables) (told : Option Tables) (cells : List Cell) → IfSome told (λ m. in_order m ≡ true) → in_order rows ≡ true
    → IfSome told (λ m. AreOf n rows m) → ((k : ℕ) → reads q k ≡ true → k < n) → cells ≡ gives q (after_changes cs rows) → IsListed told cs q (Listed.List cells)
listed_of n q cs rows None cells o p a f e = tt
listed_of n q cs rows (Some m) cells o p a f e = e ∙ gives_of n q cs rows m p o a f

-- the rows of an entity that meet a condition which steps only to the first entities are the same over their rows
pub met_of : (n e : ℕ) (c : Option Cond) (rows m : Tables) → in_order rows ≡ true → in_order m ≡ true → AreOf n rows m → MeetsBelow n e c → met e c rows ≡ met e c m
met_of n e c rows m o p a f =
    met_alike e c rows m
    (same_tables (kept own rows) (kept own m) (in_order_kept own rows o) (in_order_kept own m p)
    (λ k. row_at_kept own rows k ∙ at k (tested (k.entity == e)) ∙ sym (row_at_kept own m k)))
    (λ k i t. a (key k i) (f k (or_right (e == k) (option_map_or (mentions k) c false) t)))
  where
    own : ℕ → Bool
    own k = k == e

    at : (k : Key) → Tested (k.entity == e) → cond (k.entity == e) (row_at rows k) None ≡ cond (k.entity == e) (row_at m k) None
    at k (inl s) =
        let q : e ≡ k.entity = sym (eqb-true k.entity e s) in
        ap (λ o. cond (k.entity == e) o None) (a k (f k.entity (or_left (e == k.entity) (option_map_or (mentions k.entity) c false) (eq-eqb e k.entity q))))
    at k (inr s) = rw s refl

-- and so they are if the keeper tells its rows
pub met_told : (n e : ℕ) (c : Option Cond) (rows found : Tables) (told : Option Tables) → IfSome told (λ m. in_order m ≡ true) → in_order rows ≡ true → IfSome told (λ m. AreOf n rows m)
    → MeetsBelow n e c → found ≡ met e c rows → IfSome told (λ m. found ≡ met e c m)
met_told n e c rows found None o p a f g = tt
met_told n e c rows found (Some m) o p a f g = g ∙ met_of n e c rows m p o a f

-- the rows of an index as a snapshot, and what is listed of one
pub snapshot_of : (n : ℕ) (rows : Tables) (told : Option Tables) → IfSome told (λ m. in_order m ≡ true) → IsIndexed n (Some rows) told → IsSnapshotOf told (record { rows = rows; entities = n })
snapshot_of n rows None o a = tt
snapshot_of n rows (Some m) o a = (o, a)

pub snapshot_lists : (q : Query) (s : SnapshotState) (told : Option Tables) (cells : List Cell) → in_order s.rows ≡ true → ReadsBelow s.entities q → cells ≡ gives q (after_changes [] s.rows)
    → IsSnapshotOf told s → IsListed told [] q (Listed.List cells)
snapshot_lists q s None cells o f e a = tt
snapshot_lists q s (Some m) cells o f e (p, a) = e ∙ gives_of s.entities q [] s.rows m o p a f
