-- What a list of changes that applies does to the row of one key.
use Rattle.std.specs.Prelude.{unwrap_or, option_map}
use Rattle.std.proofs.Common.{◌≡◌, ℕ, ◌+◌, inl, inr, Bool, true, false, cond, ◌||◌, ◌==◌, ltb, List, [], ◌∷◌, Some, None, Option, refl, ap, sym, ◌∙◌, subst, arith}
use Rattle.std.proofs.lemmas.Bool.{true≢false, false≢true, eqb-true, ltb-false, le-ltb, or_right, or_left}
use Rattle.std.specs.List.{list_any}
use Rattle.hib_journal.specs.Types.{Key, Row, Change, Commit}
use Rattle.hib_base.specs.Keys.{same_key}
use Rattle.hib_base.specs.Tables.{Tables, row_at, key_of, after_change, after_changes, refusal, unless_expected, same_version, commit_answer, first_on}
use Rattle.hib_journal.specs.Regions.{is_below}
use Rattle.hib_journal.specs.Held.{next_version}
use Rattle.hib_journal.specs.Sound.{deletes_key}
use Rattle.hib_base.proofs.Tables.{Tested, tested, same_key_eq, row_at_change, row_at_other_change}
use Rattle.hib_law.proofs.Basics.{none_some, some_same}

-- a list that applies applies its first change, and the rest after it
pub applies_first : (c : Change) (cs : List Change) (t : Tables) → commit_answer (c ∷ cs) t ≡ Commit.Committed → refusal c t ≡ None
applies_first c cs t e = by_answer (refusal c t) refl e
  where
    not_refused : (d : Change) (u : Tables) → refusal d u ≡ Some Commit.Committed → ⊥
    not_refused (Change.Insert k r) u f = absent (row_at u k) f
      where
        absent : (o : Option Row) → option_map (λ _. Commit.Duplicate k) o ≡ Some Commit.Committed → ⊥
        absent None f = none_some f
        absent (Some x) f = let g : Commit.Duplicate k ≡ Commit.Committed = some_same f in absurd (cc)
    not_refused (Change.Update k v r) u f = expected (row_at u k) f
      where
        expected : (o : Option Row) → unless_expected k v o ≡ Some Commit.Committed → ⊥
        expected None f = let g : Commit.Stale k None ≡ Commit.Committed = some_same f in absurd (cc)
        expected (Some x) f = by_test (tested (same_version v x.version)) f
          where
            by_test : Tested (same_version v x.version) → cond (same_version v x.version) None (Some (Commit.Stale k x.version)) ≡ Some Commit.Committed → ⊥
            by_test (inl p) f = let g : ◌≡◌ {A = Option Commit} None (Some Commit.Committed) = rw p at f in none_some g
            by_test (inr p) f = let g : Some (Commit.Stale k x.version) ≡ Some Commit.Committed = rw p at f in
                let w : Commit.Stale k x.version ≡ Commit.Committed = some_same g in absurd (cc)
    not_refused (Change.Delete k v) u f = expected (row_at u k) f
      where
        expected : (o : Option Row) → unless_expected k v o ≡ Some Commit.Committed → ⊥
        expected None f = let g : Commit.Stale k None ≡ Commit.Committed = some_same f in absurd (cc)
        expected (Some x) f = by_test (tested (same_version v x.version)) f
          where
            by_test : Tested (same_version v x.version) → cond (same_version v x.version) None (Some (Commit.Stale k x.version)) ≡ Some Commit.Committed → ⊥
            by_test (inl p) f = let g : ◌≡◌ {A = Option Commit} None (Some Commit.Committed) = rw p at f in none_some g
            by_test (inr p) f = let g : Some (Commit.Stale k x.version) ≡ Some Commit.Committed = rw p at f in
                let w : Commit.Stale k x.version ≡ Commit.Committed = some_same g in absurd (cc)

    by_answer : (o : Option Commit) → refusal c t ≡ o → unwrap_or (refusal c t) (commit_answer cs (after_change c t)) ≡ Commit.Committed → refusal c t ≡ None
    by_answer None p f = p
    by_answer (Some a) p f = let g : a ≡ Commit.Committed = rw p at f in absurd (not_refused c t (p ∙ ap Some g))

pub applies_rest : (c : Change) (cs : List Change) (t : Tables) → commit_answer (c ∷ cs) t ≡ Commit.Committed →
    commit_answer cs (after_change c t) ≡ Commit.Committed
applies_rest c cs t e = let p : refusal c t ≡ None = applies_first c cs t e in rw p at e

pub absent_none : (k : Key) (o : Option Row) → option_map (λ _. Commit.Duplicate k) o ≡ None → o ≡ None
absent_none k None e = refl
absent_none k (Some r) e = none_some (sym e)

pub expected_some : (k : Key) (v : Option ℕ) (o : Option Row) → unless_expected k v o ≡ None → (r : Row) × (o ≡ Some r) × (same_version v r.version ≡ true)
expected_some k v None e = none_some (sym e)
expected_some k v (Some r) e = by_test (tested (same_version v r.version)) e
  where
    by_test : Tested (same_version v r.version) → cond (same_version v r.version) None (Some (Commit.Stale k r.version)) ≡ None →
        (d : Row) × (Some r ≡ Some d) × (same_version v d.version ≡ true)
    by_test (inl p) f = (r, refl, p)
    by_test (inr p) f = let g : Some (Commit.Stale k r.version) ≡ None = rw p at f in none_some (sym g)

-- what the first change on a key says of the row before
abbrev pub Meets : Key → Option Change → Option Row → Type 0
Meets k None o = Unit {0}
Meets k (Some (Change.Insert j r)) o = o ≡ None
Meets k (Some c) o = (r : Row) × (o ≡ Some r)

pub first_meets : (k : Key) (cs : List Change) (t : Tables) → commit_answer cs t ≡ Commit.Committed → Meets k (first_on k cs) (row_at t k)
first_meets k [] t e = tt
first_meets k (c ∷ cs) t e = by_key (tested (same_key (key_of c) k)) (first_meets k cs (after_change c t) (applies_rest c cs t e)) (applies_first c cs t e)
  where
    here : (d : Change) → same_key (key_of d) k ≡ true → refusal d t ≡ None → Meets k (Some d) (row_at t k)
    here (Change.Insert j r) p q = let m : j ≡ k = same_key_eq j k p in rw (← m) (absent_none j (row_at t j) q)
    here (Change.Update j v r) p q =
        let m : j ≡ k = same_key_eq j k p in
        let g : (d : Row) × (row_at t j ≡ Some d) × (same_version v d.version ≡ true) = expected_some j v (row_at t j) q in
        (g.0, rw (← m) g.1)
    here (Change.Delete j v) p q =
        let m : j ≡ k = same_key_eq j k p in
        let g : (d : Row) × (row_at t j ≡ Some d) × (same_version v d.version ≡ true) = expected_some j v (row_at t j) q in
        (g.0, rw (← m) g.1)

    by_key : Tested (same_key (key_of c) k) → Meets k (first_on k cs) (row_at (after_change c t) k) → refusal c t ≡ None →
        Meets k (first_on k (c ∷ cs)) (row_at t k)
    by_key (inl p) m q = rw p (here c p q)
    by_key (inr p) m q = rw p (subst (λ o. Meets k (first_on k cs) o) (row_at_other_change c t k p) m)

-- a key that no change inserts, whose updates go up by one version
abbrev pub IsStep : Key → Change → Type 0
IsStep k (Change.Insert j r) = same_key j k ≡ false
IsStep k (Change.Update j v r) = same_key j k ≡ true → r.version ≡ next_version v
IsStep k (Change.Delete j v) = Unit {0}

abbrev pub AreSteps : Key → List Change → Type 0
AreSteps k [] = Unit {0}
AreSteps k (c ∷ cs) = IsStep k c × AreSteps k cs

pub same_version_eq : (v w : Option ℕ) → same_version v w ≡ true → v ≡ w
same_version_eq None None e = refl
same_version_eq None (Some n) e = absurd (false≢true e)
same_version_eq (Some n) None e = absurd (false≢true e)
same_version_eq (Some n) (Some m) e = ap Some (eqb-true n m e)

-- the next version is not below what the last one was not below
up_by_one : (v w : ℕ) → ltb v w ≡ false → ltb (cond (v == 4294967295) v (v + 1)) w ≡ false
up_by_one v w e = by_end (tested (v == 4294967295))
  where
    by_end : Tested (v == 4294967295) → ltb (cond (v == 4294967295) v (v + 1)) w ≡ false
    by_end (inl p) = rw p e
    by_end (inr p) = rw p (le-ltb (v + 1) w (omega (arith, ltb-false v w e)))

pub next_not_below : (v w : Option ℕ) → is_below v w ≡ false → is_below (next_version v) w ≡ false
next_not_below None w e = e
next_not_below (Some v) None e = refl
next_not_below (Some v) (Some w) e = up_by_one v w e

-- a row that is gone stays gone if nothing inserts it
pub stays_gone : (k : Key) (cs : List Change) (t : Tables) → commit_answer cs t ≡ Commit.Committed → AreSteps k cs → row_at t k ≡ None →
    row_at (after_changes cs t) k ≡ None
stays_gone k [] t e s n = n
stays_gone k (c ∷ cs) t e s n =
    stays_gone k cs (after_change c t) (applies_rest c cs t e) s.1 (by_key (tested (same_key (key_of c) k)) c refl)
  where
    no_row : {P : Type 0} (j : Key) (v : Option ℕ) → j ≡ k → unless_expected j v (row_at t j) ≡ None → P
    no_row j v m q =
        let g : (d : Row) × (row_at t j ≡ Some d) × (same_version v d.version ≡ true) = expected_some j v (row_at t j) q in
        let w : row_at t j ≡ None = rw m n in
        none_some (sym w ∙ g.1)

    fails : (d : Change) → same_key (key_of d) k ≡ true → IsStep k d → refusal d t ≡ None → row_at (after_change d t) k ≡ None
    fails (Change.Insert j r) p z q = absurd (true≢false (sym p ∙ z))
    fails (Change.Update j v r) p z q = no_row j v (same_key_eq j k p) q
    fails (Change.Delete j v) p z q = no_row j v (same_key_eq j k p) q

    by_key : Tested (same_key (key_of c) k) → (d : Change) → c ≡ d → row_at (after_change c t) k ≡ None
    by_key (inl p) d m = fails c p s.0 (applies_first c cs t e)
    by_key (inr p) d m = row_at_other_change c t k p ∙ n

-- what steps leave of a row that is there
pub record IsUp (k : Key) (cs : List Change) (r : Row) (after : Option Row) : Type 0 where
  pub newer : (d : Row) → after ≡ Some d → (w : Option ℕ) → is_below r.version w ≡ false → is_below d.version w ≡ false
  pub gone : after ≡ None → list_any (deletes_key k) cs ≡ true

pub goes_up : (k : Key) (cs : List Change) (t : Tables) (r : Row) → commit_answer cs t ≡ Commit.Committed → AreSteps k cs → row_at t k ≡ Some r →
    IsUp k cs r (row_at (after_changes cs t) k)
goes_up k [] t r e s n = record {
  newer = λ d p w b. let g : r ≡ d = some_same (sym n ∙ p) in subst (λ z. is_below z.version w ≡ false) g b;
  gone = λ p. none_some (sym p ∙ n);
}
goes_up k (c ∷ cs) t r e s n = by_key (tested (same_key (key_of c) k))
    (λ d m. goes_up k cs (after_change c t) d (applies_rest c cs t e) s.1 m)
    (stays_gone k cs (after_change c t) (applies_rest c cs t e) s.1)
  where
    any_more : (b : Bool) → list_any (deletes_key k) cs ≡ true → (b || list_any (deletes_key k) cs) ≡ true
    any_more b h = or_right b (list_any (deletes_key k) cs) h

    passes : IsUp k cs r (row_at (after_changes cs (after_change c t)) k) → IsUp k (c ∷ cs) r (row_at (after_changes cs (after_change c t)) k)
    passes u = record { newer = u.newer; gone = λ p. any_more (deletes_key k c) (u.gone p) }

    by_kind : (d : Change) → c ≡ d → same_key (key_of d) k ≡ true → IsStep k d → refusal d t ≡ None →
        ((d : Row) → row_at (after_change c t) k ≡ Some d → IsUp k cs d (row_at (after_changes cs (after_change c t)) k)) →
        (row_at (after_change c t) k ≡ None → row_at (after_changes cs (after_change c t)) k ≡ None) →
        IsUp k (c ∷ cs) r (row_at (after_changes cs (after_change c t)) k)
    by_kind (Change.Insert j x) m p z q f g = absurd (true≢false (sym p ∙ z))
    by_kind (Change.Update j v x) m p z q f g =
        let k_j : j ≡ k = same_key_eq j k p in
        let y : (d : Row) × (row_at t j ≡ Some d) × (same_version v d.version ≡ true) = expected_some j v (row_at t j) q in
        let r_d : r ≡ y.0 = some_same (sym n ∙ (ap (row_at t) (sym k_j) ∙ y.1)) in
        let v_r : v ≡ r.version = same_version_eq v y.0.version y.2 ∙ ap (λ a. a.version) (sym r_d) in
        let here : row_at (after_change c t) k ≡ Some x = rw m (row_at_change (Change.Update j v x) t k p) in
        let u : IsUp k cs x (row_at (after_changes cs (after_change c t)) k) = f x here in
        record {
          newer = λ d a w b. u.newer d a w (rw (z p, v_r) (next_not_below r.version w b));
          gone = λ a. any_more (deletes_key k c) (u.gone a);
        }
    by_kind (Change.Delete j v) m p z q f g =
        let here : row_at (after_change c t) k ≡ None = rw m (row_at_change (Change.Delete j v) t k p) in
        let after : row_at (after_changes cs (after_change c t)) k ≡ None = g here in
        let del : deletes_key k c ≡ true = rw m p in
        record { newer = λ d a. none_some (sym after ∙ a); gone = λ a. or_left (deletes_key k c) (list_any (deletes_key k) cs) del }

    by_key : Tested (same_key (key_of c) k) →
        ((d : Row) → row_at (after_change c t) k ≡ Some d → IsUp k cs d (row_at (after_changes cs (after_change c t)) k)) →
        (row_at (after_change c t) k ≡ None → row_at (after_changes cs (after_change c t)) k ≡ None) →
        IsUp k (c ∷ cs) r (row_at (after_changes (c ∷ cs) t) k)
    by_key (inl p) f g = by_kind c refl p s.0 (applies_first c cs t e) f g
    by_key (inr p) f g = passes (f r (row_at_other_change c t k p ∙ n))
