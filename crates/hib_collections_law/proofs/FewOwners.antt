-- How many owners a change has, and how many of them are not locked.
use Rattle.std.specs.Prelude.{map, pos}
use Rattle.std.proofs.Common.{◌≡◌, ℕ, suc, ◌+◌, ◌*◌, ◌≤◌, inl, inr, Bool, true, false, cond, not, ◌==◌, List, [], ◌∷◌, ◌++◌, length, slice_get, Some, None, Option, refl, ap, sym, ◌∙◌, subst, arith, eq-eqb}
use Rattle.std.proofs.lemmas.Bool.{and_from}
use Rattle.std.specs.List.{find}
use Rattle.hib_base.specs.Tables.{key_of}
use Rattle.hib_base.proofs.Tables.{Tested, tested}
use Rattle.hib_journal.specs.Types.{Cell, Row, Change}
use Rattle.hib_law.proofs.Basics.{none_some, some_same}
use Rattle.hib_collections_law.specs.Types.{Def}
use Rattle.hib_collections_law.specs.Gathered
use Rattle.hib_collections_law.specs.Gathered.{plain, mended, due_in, hit_in, mine, missed, is_miss, listed, listed_by, locks_in, locks_after, is_locked, same_pair, known, owners, owners_from, owner_of, old_owner, owner_by, leaves_column, regions, region_script, unless_begun, IsMemberStep, IsGathered}
use Rattle.hib_collections_law.proofs.Moves.{locked_append}

-- ---- a change has two owners at most in each collection

pub owner_one : (o : Option Cell) → length (owner_by o) ≤ 1
owner_one (Some (Cell.Int (pos (suc n)))) = omega arith
owner_one _ = omega arith

pub old_one : (d : Def) (x : Option Row) → length (old_owner d x) ≤ 1
old_one d None = omega arith
old_one d (Some r) = owner_one (slice_get r.cells d.column)

pub length_append : {A : Type 0} (xs ys : List A) → length (xs ++ ys) ≡ length xs + length ys
length_append [] ys = omega arith
length_append (x ∷ xs) ys = let i : length (xs ++ ys) ≡ length xs + length ys = length_append xs ys in omega arith

pub length_map : {A B : Type 0} (f : A → B) (xs : List A) → length (map f xs) ≡ length xs
length_map f [] = refl
length_map f (x ∷ xs) = ap suc (length_map f xs)

pub owners_two : (d : Def) (x : Option Row) (c : Change) → length (owners d x c) ≤ 2
owners_two d x (Change.Insert k r) = let i : length (owner_of d r) ≤ 1 = owner_one (slice_get r.cells d.column) in omega arith
owners_two d x (Change.Update k v r) = by_test (leaves_column d x r)
  where
    by_test : (b : Bool) → length (cond b [] (old_owner d x ++ owner_of d r)) ≤ 2
    by_test true = omega arith
    by_test false =
        let i : length (owner_of d r) ≤ 1 = owner_one (slice_get r.cells d.column) in
        let j : length (old_owner d x) ≤ 1 = old_one d x in
        let k : length (old_owner d x ++ owner_of d r) ≡ length (old_owner d x) + length (owner_of d r) = length_append (old_owner d x) (owner_of d r) in omega arith
owners_two d x (Change.Delete k v) = let j : length (old_owner d x) ≤ 1 = old_one d x in omega arith

pub all_owners : (n : ℕ) (defs : List Def) (x : Option Row) (c : Change) → length (owners_from n defs x c) ≤ 2 * length defs
all_owners n [] x c = omega arith
all_owners n (d ∷ ds) x c =
    let i : length (owners_from (suc n) ds x c) ≤ 2 * length ds = all_owners (suc n) ds x c in
    let j : length (here ((key_of c).entity == d.entity)) ≤ 2 = two ((key_of c).entity == d.entity) in
    let k : length (here ((key_of c).entity == d.entity) ++ owners_from (suc n) ds x c) ≡ length (here ((key_of c).entity == d.entity)) + length (owners_from (suc n) ds x c) =
    length_append (here ((key_of c).entity == d.entity)) (owners_from (suc n) ds x c) in omega arith
  where
    here : Bool → List (ℕ × ℕ)
    here b = cond b (map (λ o. (n, o)) (owners d x c)) []

    two : (b : Bool) → length {A = ℕ × ℕ} (cond b (map (λ o. (n, o)) (owners d x c)) []) ≤ 2
    two true = let i : length {A = ℕ × ℕ} (map (λ o. (n, o)) (owners d x c)) ≡ length (owners d x c) = length_map {B = ℕ × ℕ} (λ o. (n, o)) (owners d x c) in let j : length (owners d x c) ≤ 2 = owners_two d x c in omega arith
    two false = omega arith

-- ---- owners that are not locked

abbrev pub free : List Gathered.Held → List (ℕ × ℕ) → ℕ
free hs [] = 0
free hs (p ∷ ps) = cond (is_locked hs p) (free hs ps) (suc (free hs ps))

pub free_most : (hs : List Gathered.Held) (ps : List (ℕ × ℕ)) → free hs ps ≤ length ps
free_most hs [] = omega arith
free_most hs (p ∷ ps) = by_test (is_locked hs p) (free_most hs ps)
  where
    by_test : (b : Bool) → free hs ps ≤ length ps → cond b (free hs ps) (suc (free hs ps)) ≤ suc (length ps)
    by_test true i = omega arith
    by_test false i = omega arith

pub free_less : (hs : List Gathered.Held) (h : Gathered.Held) (ps : List (ℕ × ℕ)) → free (hs ++ h ∷ []) ps ≤ free hs ps
free_less hs h [] = omega arith
free_less hs h (p ∷ ps) = by_test (tested (is_locked hs p)) (tested (same_pair h.0 p)) (free_less hs h ps)
  where
    by_test : Tested (is_locked hs p) → Tested (same_pair h.0 p) → free (hs ++ h ∷ []) ps ≤ free hs ps → free (hs ++ h ∷ []) (p ∷ ps) ≤ free hs (p ∷ ps)
    by_test (inl q) r i = let l : is_locked (hs ++ h ∷ []) p ≡ true = locked_append hs h p ∙ rw q refl in rw (l, q) i
    by_test (inr q) (inl r) i = let l : is_locked (hs ++ h ∷ []) p ≡ true = locked_append hs h p ∙ rw (q, r) refl in rw (l, q) (omega arith)
    by_test (inr q) (inr r) i = let l : is_locked (hs ++ h ∷ []) p ≡ false = locked_append hs h p ∙ rw (q, r) refl in rw (l, q) (omega arith)

pub pair_same : (p : ℕ × ℕ) → same_pair p p ≡ true
pair_same p = and_from (p.0 == p.0) (p.1 == p.1) (eq-eqb p.0 p.0 refl) (eq-eqb p.1 p.1 refl)

pub free_one : (hs : List Gathered.Held) (ps : List (ℕ × ℕ)) (p : ℕ × ℕ) (id : ℕ) → find (λ q. not (is_locked hs q)) ps ≡ Some p → suc (free (hs ++ (p, id) ∷ []) ps) ≤ free hs ps
free_one hs [] p id e = none_some e
free_one hs (x ∷ ps) p id e = by_test (tested (is_locked hs x)) (free_one hs ps p id)
  where
    by_test : Tested (is_locked hs x) → (find (λ q. not (is_locked hs q)) ps ≡ Some p → suc (free (hs ++ (p, id) ∷ []) ps) ≤ free hs ps) → suc (free (hs ++ (p, id) ∷ []) (x ∷ ps)) ≤ free hs (x ∷ ps)
    by_test (inl q) i =
        let f : find (λ q. not (is_locked hs q)) ps ≡ Some p = rw q at e in
        let l : is_locked (hs ++ (p, id) ∷ []) x ≡ true = locked_append hs (p, id) x ∙ rw q refl in rw (l, q) (i f)
    by_test (inr q) i =
        let f : Some x ≡ Some p = rw q at e in
        let s : same_pair p x ≡ true = subst (λ z. same_pair p z ≡ true) (sym (some_same f)) (pair_same p) in
        let l : is_locked (hs ++ (p, id) ∷ []) x ≡ true = locked_append hs (p, id) x ∙ rw (q, s) refl in
        let j : free (hs ++ (p, id) ∷ []) ps ≤ free hs ps = free_less hs (p, id) ps in rw (l, q) (omega arith)
