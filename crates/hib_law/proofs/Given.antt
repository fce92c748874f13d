-- The tables of a query, and the changes that touch one of them.
use Rattle.std.proofs.Common.{◌≡◌, ℕ, zero, suc, ◌+◌, ◌<◌, ◌≤◌, inl, inr, Bool, true, false, ◌||◌, ◌==◌, nat_lt, List, [], ◌∷◌, length, Some, None, Option, refl, sym, ◌∙◌, subst, arith, eq-eqb}
use Rattle.std.proofs.lemmas.Bool.{true≢false, false≢true, or_parts, or_left, or_right, eqb-true, ltb-true, and_parts}
use Rattle.std.specs.Option.{option_map_or}
use Rattle.std.specs.List.{list_any, filter, range_with_len}
use Rattle.hib_journal.specs.Types.{Key, Change, Target, Cond, Query, Script}
use Rattle.hib_base.specs.Tables.{key_of}
use Rattle.hib_journal.specs.Query
use Rattle.hib_journal.specs.Next.{is_in_tables, tables_in}
use Rattle.hib_journal.specs.Query.{tables, mentions}
use Rattle.hib_base.specs.Scripts.{is_target_below, are_targets_below, are_targets_in, is_declared}
use Rattle.hib_base.proofs.Tables.{Tested, tested}
use Rattle.hib_journal.proofs.Untouched.{touches}
use Rattle.hib_law.proofs.Guarded.{In}

-- lists of tables

pub in_filter : (p : ℕ → Bool) (n : ℕ) (xs : List ℕ) → In n xs → p n ≡ true → In n (filter p xs)
in_filter p n [] i t = absurd i
in_filter p n (x ∷ xs) i t = by_test (tested (p x)) i (λ j. in_filter p n xs j t)
  where
    by_test : Tested (p x) → In n (x ∷ xs) → (In n xs → In n (filter p xs)) → In n (filter p (x ∷ xs))
    by_test (inl q) (inl e) f = rw q (inl e)
    by_test (inl q) (inr j) f = rw q (inr (f j))
    by_test (inr q) (inl e) f = absurd (true≢false (sym t ∙ subst (λ y. p y ≡ false) e q))
    by_test (inr q) (inr j) f = rw q (f j)

pub in_unfiltered : (p : ℕ → Bool) (n : ℕ) (xs : List ℕ) → In n (filter p xs) → In n xs × (p n ≡ true)
in_unfiltered p n [] i = absurd i
in_unfiltered p n (x ∷ xs) i = by_test (tested (p x)) i (in_unfiltered p n xs)
  where
    by_test : Tested (p x) → In n (filter p (x ∷ xs)) → (In n (filter p xs) → In n xs × (p n ≡ true)) → In n (x ∷ xs) × (p n ≡ true)
    by_test (inl q) j f = let g : In n (x ∷ filter p xs) = rw q at j in here g
      where
        here : In n (x ∷ filter p xs) → In n (x ∷ xs) × (p n ≡ true)
        here (inl e) = (inl e, subst (λ y. p y ≡ true) e q)
        here (inr k) = let r : In n xs × (p n ≡ true) = f k in (inr r.0, r.1)
    by_test (inr q) j f = let g : In n (filter p xs) = rw q at j in let r : In n xs × (p n ≡ true) = f g in (inr r.0, r.1)

in_range : (a n m : ℕ) → a ≤ m → m < a + n → In m (range_with_len a n)
in_range a zero m l h = absurd (omega arith)
in_range a (suc n) m l h = by_order (tested (a == m)) (λ x. in_range (a + 1) n m x (omega arith))
  where
    above : (a ≡ m → ⊥) → a + 1 ≤ m
    above d = omega arith

    by_order : Tested (a == m) → (a + 1 ≤ m → In m (range_with_len (a + 1) n)) → In m (range_with_len a (suc n))
    by_order (inl e) f = inl (eqb-true a m e)
    by_order (inr e) f =
        let d : a ≡ m → ⊥ = λ q. true≢false (sym (eq-eqb a m q) ∙ e) in
        inr (f (above d))

-- a list of changes that touches none of these tables, and one that touches one of them

one_false : (n : ℕ) (ts : List ℕ) (k : Key) → In n ts → list_any (λ t. k.entity == t) ts ≡ false → (k.entity == n) ≡ false
one_false n [] k i e = absurd i
one_false n (t ∷ ts) k i e =
    let p : ((k.entity == t) ≡ false) × (list_any (λ t. k.entity == t) ts ≡ false) = or_parts (k.entity == t) (list_any (λ t. k.entity == t) ts) e in
    by_place i p (λ j. one_false n ts k j p.1)
  where
    by_place : In n (t ∷ ts) → ((k.entity == t) ≡ false) × (list_any (λ t. k.entity == t) ts ≡ false) → (In n ts → (k.entity == n) ≡ false) → (k.entity == n) ≡ false
    by_place (inl q) p f = subst (λ y. (k.entity == y) ≡ false) q p.0
    by_place (inr j) p f = f j

pub untouched : (n : ℕ) (ts : List ℕ) (cs : List Change) → In n ts → is_in_tables ts cs ≡ false → touches n cs ≡ false
untouched n ts [] i e = refl
untouched n ts (c ∷ cs) i e =
    let p : (list_any (λ t. (key_of c).entity == t) ts ≡ false) × (is_in_tables ts cs ≡ false) =
    or_parts (list_any (λ t. (key_of c).entity == t) ts) (is_in_tables ts cs) e in
    rw (one_false n ts (key_of c) i p.0, untouched n ts cs i p.1) refl

one_true : (ts : List ℕ) (k : Key) → list_any (λ t. k.entity == t) ts ≡ true → (n : ℕ) × In n ts × ((k.entity == n) ≡ true)
one_true [] k e = absurd (false≢true e)
one_true (t ∷ ts) k e = by_test (tested (k.entity == t)) e (one_true ts k)
  where
    by_test : Tested (k.entity == t) → list_any (λ t. k.entity == t) (t ∷ ts) ≡ true →
        (list_any (λ t. k.entity == t) ts ≡ true → (n : ℕ) × In n ts × ((k.entity == n) ≡ true)) → (n : ℕ) × In n (t ∷ ts) × ((k.entity == n) ≡ true)
    by_test (inl p) e f = (t, inl refl, p)
    by_test (inr p) e f =
        let g : list_any (λ t. k.entity == t) ts ≡ true = rw p at e in
        let r : (n : ℕ) × In n ts × ((k.entity == n) ≡ true) = f g in (r.0, inr r.1, r.2)

-- one table that a list of changes touches
pub touched_one : (ts : List ℕ) (cs : List Change) → list_any (λ c. is_in_tables ts (c ∷ [])) cs ≡ true → (n : ℕ) × In n ts × (touches n cs ≡ true)
touched_one ts [] e = absurd (false≢true e)
touched_one ts (c ∷ cs) e = by_test (tested (list_any (λ t. (key_of c).entity == t) ts)) e (touched_one ts cs)
  where
    by_test : Tested (list_any (λ t. (key_of c).entity == t) ts) → list_any (λ c. is_in_tables ts (c ∷ [])) (c ∷ cs) ≡ true →
        (list_any (λ c. is_in_tables ts (c ∷ [])) cs ≡ true → (n : ℕ) × In n ts × (touches n cs ≡ true)) → (n : ℕ) × In n ts × (touches n (c ∷ cs) ≡ true)
    by_test (inl p) e f =
        let r : (n : ℕ) × In n ts × (((key_of c).entity == n) ≡ true) = one_true ts (key_of c) p in
        (r.0, r.1, or_left ((key_of c).entity == r.0) (touches r.0 cs) r.2)
    by_test (inr p) e f =
        let g : list_any (λ c. is_in_tables ts (c ∷ [])) cs ≡ true = rw p at e in
        let r : (n : ℕ) × In n ts × (touches n cs ≡ true) = f g in
        (r.0, r.1, or_right ((key_of c).entity == r.0) (touches r.0 cs) r.2)

-- a table of a query that is declared
pub in_tables : (n entities : ℕ) (d : Query) → Query.reads d n ≡ true → n < entities → In n (Query.tables entities d)
in_tables n entities d r l = in_filter (λ n. Query.reads d n) n (range_with_len 0 entities) (in_range 0 entities n (omega arith) (omega arith)) r

-- a table of a query that changes touch is among the tables of the changes
pub in_changed : (script : Script) (n : ℕ) (o : Option Query) (cs : List Change) → In n (option_map_or (tables (length script.mapping)) o []) → touches n cs ≡ true → In n (tables_in script cs)
in_changed script n None cs i e = absurd i
in_changed script n (Some d) cs i e =
    in_filter (λ n. list_any (λ c. (key_of c).entity == n) cs) n (range_with_len 0 (length script.mapping))
    (in_unfiltered (λ n. Query.reads d n) n (range_with_len 0 (length script.mapping)) i).0 e

-- a query that is declared reads declared tables alone

either : {P : Type 0} (a b : Bool) → (a || b) ≡ true → (a ≡ true → P) → (b ≡ true → P) → P
either true b e f g = f refl
either false b e f g = g e

target_below : (n k : ℕ) (g : Option Target) → is_target_below k g ≡ true → option_map_or (λ x. x.entity == n) g false ≡ true → n < k
target_below n k None t e = absurd (false≢true e)
target_below n k (Some g) t e = subst (λ x. x < k) (eqb-true g.entity n e) (ltb-true g.entity k t)

mentions_below : (n k : ℕ) (c : Cond) → are_targets_below k c ≡ true → Query.mentions n c ≡ true → n < k
mentions_below n k (Cond.And' p a q b) t e =
    let s : (are_targets_below k a ≡ true) × (are_targets_below k b ≡ true) = and_parts (are_targets_below k a) (are_targets_below k b) t in
    either (Query.mentions n a) (Query.mentions n b) e (λ x. mentions_below n k a s.0 x) (λ x. mentions_below n k b s.1 x)
mentions_below n k (Cond.Or' p a q b) t e =
    let s : (are_targets_below k a ≡ true) × (are_targets_below k b ≡ true) = and_parts (are_targets_below k a) (are_targets_below k b) t in
    either (Query.mentions n a) (Query.mentions n b) e (λ x. mentions_below n k a s.0 x) (λ x. mentions_below n k b s.1 x)
mentions_below n k (Cond.Not' p a) t e = mentions_below n k a t e
mentions_below n k (Cond.Test op p c) t e = target_below n k p.target t e
mentions_below n k (Cond.Among p cs) t e = target_below n k p.target t e

pub declared_reads : (script : Script) (d : Query) (n : ℕ) → is_declared script d ≡ true → Query.reads d n ≡ true → n < length script.mapping
declared_reads script d n t e =
    let s : (nat_lt d.entity (length script.mapping) ≡ true) × (are_targets_in (length script.mapping) d.condition ≡ true) =
    and_parts (nat_lt d.entity (length script.mapping)) (are_targets_in (length script.mapping) d.condition) t in
    either (d.entity == n) (option_map_or (mentions n) d.condition false) e
    (λ x. subst (λ y. y < length script.mapping) (eqb-true d.entity n x) (ltb-true d.entity (length script.mapping) s.0))
    (λ x. by_condition d.condition s.1 x)
  where
    by_condition : (c : Option Cond) → are_targets_in (length script.mapping) c ≡ true → option_map_or (mentions n) c false ≡ true → n < length script.mapping
    by_condition None t e = absurd (false≢true e)
    by_condition (Some c) t e = mentions_below n (length script.mapping) c t e
