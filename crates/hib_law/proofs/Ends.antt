-- The end of a transaction, as one read-write key sees it.
use Rattle.std.specs.Prelude.{option_and_then, cond}
use Rattle.std.proofs.Common.{◌≡◌, ℕ, inl, inr, Bool, true, false, not, ◌&&◌, List, [], ◌∷◌, ◌++◌, Some, None, Option, refl, ap, sym, ◌∙◌, subst}
use Rattle.std.proofs.lemmas.Bool.{true≢false, or_parts, or_right}
use Rattle.std.specs.List.{list_any, flat_map, filter}
use Rattle.hib_journal.specs.Types.{Key, Row, Change, Commit, Strategy, Mode, Script, Act, Reply, Entry}
use Rattle.hib_base.specs.Keys.{same_key}
use Rattle.hib_base.specs.Tables.{key_of, first_on, last_on, row_left}
use Rattle.hib_journal.specs.Sessions.{Journal, floor_in, changes_in, is_begun, begun_after}
use Rattle.hib_journal.specs.Next.{strategy, mode_puts, complete_insert, complete_update, complete_by, complete, release_of, lock_id, keys_of, is_committed_reply, stamps_of, tables_in, completion, commit, rollback}
use Rattle.hib_journal.specs.Coherence.{done_in, done_after}
use Rattle.hib_base.proofs.Tables.{Tested, tested, same_key_eq}
use Rattle.hib_journal.proofs.Plans.{Allows, allows_join, runs_each}
use Rattle.hib_law.proofs.Pending.{IsFair}
use Rattle.hib_law.proofs.Working.{IsReadyIn, IsFreeIn, IsSettled, Allowed, Right, Goes, holds}
use Rattle.hib_law.proofs.Basics.{none_some}

-- after Commit or Rollback: the changes, and whether they are committed
pub record IsEnding (k : Key) (cs : List Change) (d : Bool) (f i : ℕ) (m : Journal) : Type 0 where
  pub begun : is_begun m ≡ true
  pub fair : IsFair k m
  pub same : changes_in m ≡ cs
  pub done : done_in m ≡ d
  pub floor : floor_in m ≡ f
  pub id : lock_id k m ≡ i

-- the lock is held exactly if the first change on k is no insert
abbrev pub IsHeldFor : Key → Journal → Option Change → Type 0
IsHeldFor k m None = holds k m ≡ false
IsHeldFor k m (Some (Change.Insert j r)) = holds k m ≡ false
IsHeldFor k m (Some c) = holds k m ≡ true

held_ready : (k : Key) (m : Journal) (o : Option Change) → IsReadyIn k m o → IsFreeIn k m o → IsHeldFor k m o
held_ready k m None r f = f
held_ready k m (Some (Change.Insert j x)) r f = f
held_ready k m (Some (Change.Update j v x)) r f = r.1
held_ready k m (Some (Change.Delete j v)) r f = r.1

held_same : (k : Key) (m n : Journal) (o : Option Change) → holds k n ≡ holds k m → IsHeldFor k m o → IsHeldFor k n o
held_same k m n None p r = p ∙ r
held_same k m n (Some (Change.Insert j x)) p r = p ∙ r
held_same k m n (Some (Change.Update j v x)) p r = p ∙ r
held_same k m n (Some (Change.Delete j v)) p r = p ∙ r

pub put_back : (d x : Bool) (c : Option Change) (r : Row) → cond (d && x) (option_and_then row_left c) None ≡ Some r → (d ≡ true) × (option_and_then row_left c ≡ Some r)
put_back true true None r e = none_some e
put_back true true (Some c) r e = (refl, e)
put_back true false c r e = none_some e
put_back false x c r e = none_some e

module _ (script : Script) (k : Key) (rw_k : strategy script k.entity ≡ Strategy.ReadWrite) (mode : Mode) (start : Journal)
    (cs : List Change) (d : Bool) where
  abbrev Ending : Journal → Type 0
  Ending = IsEnding k cs d (floor_in start) (lock_id k start)

  abbrev Allow : List Act → Journal → (Journal → Type 0) → Type 0
  Allow = Allows (Allowed script k) (Right k)

  -- an act on j leaves the lock of k, unless j is k; then it is given back
  abbrev After : Key → Journal → Journal → Type 0
  After j m n = Ending n × (same_key j k ≡ false → holds k n ≡ holds k m) × (same_key j k ≡ true → holds k n ≡ false)

  allow_one : (a : Act) (j : Key) (m : Journal) → Ending m → Allowed script k m a →
      ((e : Entry) → e.act ≡ a → Right k m e → After j m (e ∷ m)) → Allow (a ∷ []) m (After j m)
  allow_one a j m w x f = (x, f)

  allow_insert : (j : Key) (g : Strategy) (r : Option Row) (m : Journal) → Ending m → (same_key j k ≡ true → holds k m ≡ false) →
      cond (d && mode_puts mode) (option_and_then row_left (last_on j cs)) None ≡ r → Allow (complete_insert g j r (floor_in start)) m (After j m)
  allow_insert j g None m w z p = allow_nothing g
    where
      allow_nothing : (g : Strategy) → Allow (complete_insert g j None (floor_in start)) m (After j m)
      allow_nothing Strategy.ReadOnly = (w, λ x. refl, z)
      allow_nothing Strategy.ReadWrite = (w, λ x. refl, z)
      allow_nothing Strategy.Nonstrict = (w, λ x. refl, z)
      allow_nothing Strategy.Uncached = (w, λ x. refl, z)
  allow_insert j g (Some r) m w z p = by_strategy g
    where
      back : (d ≡ true) × (option_and_then row_left (last_on j cs) ≡ Some r)
      back = put_back d (mode_puts mode) (last_on j cs) r p

      act : Allow (Act.AfterInsert j r (floor_in start) ∷ []) m (After j m)
      act = allow_one (Act.AfterInsert j r (floor_in start)) j m w
          (λ s. (w.done ∙ back.0, rw w.same (subst (λ y. option_and_then row_left (last_on y cs) ≡ Some r) (same_key_eq j k s) back.1), sym w.floor, w.begun))
          (λ e q t. (record { begun = rw q (w.begun); fair = (t, w.fair); same = rw q (w.same); done = rw q (w.done); floor = rw q (w.floor); id = rw q (w.id) }, λ s. rw q refl, λ s. rw q (z s)))

      by_strategy : (g : Strategy) → Allow (complete_insert g j (Some r) (floor_in start)) m (After j m)
      by_strategy Strategy.ReadOnly = act
      by_strategy Strategy.ReadWrite = act
      by_strategy Strategy.Nonstrict = (w, λ x. refl, z)
      by_strategy Strategy.Uncached = (w, λ x. refl, z)

  -- the id that a release names is that of the session's last lock on the key
  id_now : (j : Key) (i : ℕ) (m : Journal) → Ending m → i ≡ lock_id j start → same_key j k ≡ true → i ≡ lock_id k m
  id_now j i m w p s = subst (λ y. i ≡ lock_id y start) (same_key_eq j k s) p ∙ sym w.id

  allow_release : (j : Key) (i : ℕ) (r : Option Row) (m : Journal) → Ending m → i ≡ lock_id j start → cond (d && mode_puts mode) (option_and_then row_left (last_on j cs)) None ≡ r →
      (same_key j k ≡ true → holds k m ≡ true) → Allow (release_of j i r) m (After j m)
  allow_release j i None m w n p h = allow_one (Act.Unlock j i) j m w (λ s. (h s, w.begun, id_now j i m w n s))
      (λ e q t. (record { begun = rw q (w.begun); fair = (t, w.fair); same = rw q (w.same); done = rw q (w.done); floor = rw q (w.floor); id = rw q (w.id) }, λ s. rw (q, s) refl, λ s. rw (q, s) refl))
  allow_release j i (Some r) m w n p h =
      let back : (d ≡ true) × (option_and_then row_left (last_on j cs) ≡ Some r) = put_back d (mode_puts mode) (last_on j cs) r p in
      allow_one (Act.AfterUpdate j i r) j m w
      (λ s. (h s, w.done ∙ back.0, rw w.same (subst (λ y. option_and_then row_left (last_on y cs) ≡ Some r) (same_key_eq j k s) back.1), w.begun, id_now j i m w n s))
      (λ e q t. (record { begun = rw q (w.begun); fair = (t, w.fair); same = rw q (w.same); done = rw q (w.done); floor = rw q (w.floor); id = rw q (w.id) }, λ s. rw (q, s) refl, λ s. rw (q, s) refl))

  not_k : (j : Key) (g : Strategy) → strategy script j.entity ≡ g → (Strategy.ReadWrite ≡ g → ⊥) → same_key j k ≡ true → ⊥
  not_k j g p f s = f (sym rw_k ∙ (ap (λ y. strategy script y.entity) (sym (same_key_eq j k s)) ∙ p))

  allow_update : (j : Key) (i : ℕ) (g : Strategy) (r : Option Row) (m : Journal) → strategy script j.entity ≡ g → Ending m → i ≡ lock_id j start →
      cond (d && mode_puts mode) (option_and_then row_left (last_on j cs)) None ≡ r → (same_key j k ≡ true → holds k m ≡ true) → Allow (complete_update g j i r) m (After j m)
  allow_update j i Strategy.ReadWrite r m e w n p h = allow_release j i r m w n p h
  allow_update j i Strategy.Uncached r m e w n p h = (w, λ x. refl, λ x. absurd (not_k j Strategy.Uncached e (λ y. cc) x))
  allow_update j i Strategy.ReadOnly r m e w n p h = allow_one (Act.RegionRemove j) j m w (λ x. let y : Strategy.ReadWrite ≡ Strategy.ReadOnly = sym x ∙ e in absurd (cc))
      (λ z q t. (record { begun = rw q (w.begun); fair = (t, w.fair); same = rw q (w.same); done = rw q (w.done); floor = rw q (w.floor); id = rw q (w.id) }, λ s. rw q refl, λ x. absurd (not_k j Strategy.ReadOnly e (λ y. cc) x)))
  allow_update j i Strategy.Nonstrict r m e w n p h = allow_one (Act.RegionRemove j) j m w (λ x. let y : Strategy.ReadWrite ≡ Strategy.Nonstrict = sym x ∙ e in absurd (cc))
      (λ z q t. (record { begun = rw q (w.begun); fair = (t, w.fair); same = rw q (w.same); done = rw q (w.done); floor = rw q (w.floor); id = rw q (w.id) }, λ s. rw q refl, λ x. absurd (not_k j Strategy.Nonstrict e (λ y. cc) x)))

  at_k : (j : Key) (m : Journal) (o : Option Change) → first_on j cs ≡ o → (same_key j k ≡ true → IsHeldFor k m (first_on k cs)) → same_key j k ≡ true → IsHeldFor k m o
  at_k j m o p h s = subst (λ x. IsHeldFor k m x) (subst (λ y. first_on y cs ≡ o) (same_key_eq j k s) p) (h s)

  allow_key : (j : Key) (o : Option Change) (m : Journal) → first_on j cs ≡ o → Ending m → (same_key j k ≡ true → IsHeldFor k m (first_on k cs)) →
      Allow (complete_by o (strategy script j.entity) j (lock_id j start) (floor_in start) (cond (d && mode_puts mode) (option_and_then row_left (last_on j cs)) None)) m (After j m)
  allow_key j None m p w h = (w, λ x. refl, at_k j m None p h)
  allow_key j (Some (Change.Insert i x)) m p w h =
      allow_insert j (strategy script j.entity) (cond (d && mode_puts mode) (option_and_then row_left (last_on j cs)) None) m w (at_k j m (Some (Change.Insert i x)) p h) refl
  allow_key j (Some (Change.Update i v x)) m p w h =
      allow_update j (lock_id j start) (strategy script j.entity) (cond (d && mode_puts mode) (option_and_then row_left (last_on j cs)) None) m refl w refl refl (at_k j m (Some (Change.Update i v x)) p h)
  allow_key j (Some (Change.Delete i v)) m p w h =
      allow_update j (lock_id j start) (strategy script j.entity) (cond (d && mode_puts mode) (option_and_then row_left (last_on j cs)) None) m refl w refl refl (at_k j m (Some (Change.Delete i v)) p h)

-- whether a commit is answered Committed
pub done_reply : (r : Reply) → done_after Act.Commit r false ≡ is_committed_reply r
done_reply (Reply.Commit Commit.Committed) = refl
done_reply (Reply.Commit (Commit.Stale j v)) = refl
done_reply (Reply.Commit (Commit.Duplicate j)) = refl
done_reply (Reply.Commit Commit.Fault) = refl
done_reply _ = refl

-- before a Begin: no lock is held
abbrev pub IsOver : Key → Journal → Type 0
IsOver k m = IsFair k m × (holds k m ≡ false)

-- each key is completed once

abbrev pub IsOnce : Key → List Key → Type 0
IsOnce k [] = Unit {0}
IsOnce k (j ∷ ks) = (same_key j k ≡ true → list_any (λ i. same_key i k) ks ≡ false) × IsOnce k ks

filter_less : (k : Key) (p : Key → Bool) (ks : List Key) → list_any (λ i. same_key i k) ks ≡ false → list_any (λ i. same_key i k) (filter p ks) ≡ false
filter_less k p [] h = refl
filter_less k p (j ∷ ks) h =
    let q : (same_key j k ≡ false) × (list_any (λ i. same_key i k) ks ≡ false) = or_parts (same_key j k) (list_any (λ i. same_key i k) ks) h in
    by_test (tested (p j)) q.0 (filter_less k p ks q.1)
  where
    by_test : Tested (p j) → same_key j k ≡ false → list_any (λ i. same_key i k) (filter p ks) ≡ false → list_any (λ i. same_key i k) (filter p (j ∷ ks)) ≡ false
    by_test (inl t) a b = rw (t, a) b
    by_test (inr t) a b = rw t b

filter_gone : (k : Key) (ks : List Key) → list_any (λ i. same_key i k) (filter (λ i. not (same_key i k)) ks) ≡ false
filter_gone k [] = refl
filter_gone k (j ∷ ks) = by_test (tested (same_key j k)) (filter_gone k ks)
  where
    by_test : Tested (same_key j k) → list_any (λ i. same_key i k) (filter (λ i. not (same_key i k)) ks) ≡ false →
        list_any (λ i. same_key i k) (filter (λ i. not (same_key i k)) (j ∷ ks)) ≡ false
    by_test (inl t) b = rw t b
    by_test (inr t) b = rw (t, t) b

once_filter : (k : Key) (p : Key → Bool) (ks : List Key) → IsOnce k ks → IsOnce k (filter p ks)
once_filter k p [] h = tt
once_filter k p (j ∷ ks) h = by_test (tested (p j)) (once_filter k p ks h.1)
  where
    by_test : Tested (p j) → IsOnce k (filter p ks) → IsOnce k (filter p (j ∷ ks))
    by_test (inl t) a = rw t (λ s. filter_less k p ks (h.0 s), a)
    by_test (inr t) a = rw t a

keys_once : (k : Key) (cs : List Change) → IsOnce k (keys_of cs)
keys_once k [] = tt
keys_once k (c ∷ cs) = (
  λ s. subst (λ j. list_any (λ i. same_key i k) (filter (λ i. not (same_key i j)) (keys_of cs)) ≡ false) (sym (same_key_eq (key_of c) k s)) (filter_gone k (keys_of cs)),
  once_filter k (λ i. not (same_key i (key_of c))) (keys_of cs) (keys_once k cs),
)

module _ (script : Script) (k : Key) (rw_k : strategy script k.entity ≡ Strategy.ReadWrite) (mode : Mode) where
  module _ (start : Journal) (cs : List Change) (d : Bool) where
    -- the lock of k is held only while k is still to be completed
    allow_keys : (ks : List Key) (m : Journal) → IsOnce k ks → IsEnding k cs d (floor_in start) (lock_id k start) m →
        (list_any (λ j. same_key j k) ks ≡ true → IsHeldFor k m (first_on k cs)) → (list_any (λ j. same_key j k) ks ≡ false → holds k m ≡ false) →
        Allows (Allowed script k) (Right k) (flat_map (λ j. complete script mode start d cs j) ks) m
        (λ n. IsEnding k cs d (floor_in start) (lock_id k start) n × (holds k n ≡ false))
    allow_keys [] m o w h z = (w, z refl)
    allow_keys (j ∷ ks) m o w h z =
        allows_join (Allowed script k) (Right k) (complete script mode start d cs j) (flat_map (λ i. complete script mode start d cs i) ks) m
        (After script k rw_k mode start cs d j m) (λ n. IsEnding k cs d (floor_in start) (lock_id k start) n × (holds k n ≡ false))
        (allow_key script k rw_k mode start cs d j (first_on j cs) m refl w (λ s. h (rw s refl)))
        (λ n x. allow_keys ks n o.1 x.0 (λ a. by_key n x.1 a (tested (same_key j k))) (λ a. none_left n x.1 x.2 a (tested (same_key j k))))
      where
        by_key : (n : Journal) → (same_key j k ≡ false → holds k n ≡ holds k m) → list_any (λ i. same_key i k) ks ≡ true → Tested (same_key j k) → IsHeldFor k n (first_on k cs)
        by_key n x a (inl s) = absurd (true≢false (sym a ∙ o.0 s))
        by_key n x a (inr s) = held_same k m n (first_on k cs) (x s) (h (or_right (same_key j k) (list_any (λ i. same_key i k) ks) a))

        none_left : (n : Journal) → (same_key j k ≡ false → holds k n ≡ holds k m) → (same_key j k ≡ true → holds k n ≡ false) →
            list_any (λ i. same_key i k) ks ≡ false → Tested (same_key j k) → holds k n ≡ false
        none_left n x y a (inl s) = y s
        none_left n x y a (inr s) = x s ∙ z (rw (s, a) refl)

  -- a key that is in no change has no first one
  add_names : (k j : Key) (ks : List Key) → list_any (λ i. same_key i k) (filter (λ i. not (same_key i j)) ks) ≡ false → same_key j k ≡ false →
      list_any (λ i. same_key i k) ks ≡ false
  add_names k j [] e n = refl
  add_names k j (i ∷ ks) e n = by_test (tested (same_key i j)) (tested (same_key i k)) e (λ x. add_names k j ks x n)
    where
      by_test : Tested (same_key i j) → Tested (same_key i k) → list_any (λ i. same_key i k) (filter (λ i. not (same_key i j)) (i ∷ ks)) ≡ false →
          (list_any (λ i. same_key i k) (filter (λ i. not (same_key i j)) ks) ≡ false → list_any (λ i. same_key i k) ks ≡ false) →
          list_any (λ i. same_key i k) (i ∷ ks) ≡ false
      by_test (inl x) (inl y) e f =
          let g : same_key j k ≡ true = subst (λ z. same_key z k ≡ true) (same_key_eq i j x) y in absurd (true≢false (sym g ∙ n))
      by_test (inl x) (inr y) e f = let g : list_any (λ i. same_key i k) (filter (λ i. not (same_key i j)) ks) ≡ false = rw x at e in rw y (f g)
      by_test (inr x) (inl y) e f = let g : true ≡ false = rw (x, y) at e in absurd (true≢false g)
      by_test (inr x) (inr y) e f = let g : list_any (λ i. same_key i k) (filter (λ i. not (same_key i j)) ks) ≡ false = rw (x, y) at e in rw y (f g)

  no_first : (cs : List Change) → list_any (λ j. same_key j k) (keys_of cs) ≡ false → first_on k cs ≡ None
  no_first [] e = refl
  no_first (c ∷ cs) e =
      let p : (same_key (key_of c) k ≡ false) × (list_any (λ i. same_key i k) (filter (λ i. not (same_key i (key_of c))) (keys_of cs)) ≡ false) =
      or_parts (same_key (key_of c) k) (list_any (λ i. same_key i k) (filter (λ i. not (same_key i (key_of c))) (keys_of cs))) e in
      rw p.0 (no_first cs (add_names k (key_of c) (keys_of cs) p.1 p.0))

  -- before the completion, by whether the changes are committed
  pub record IsDone (d : Bool) (m : Journal) : Type 0 where
    pub begun : is_begun m ≡ true
    pub fair : IsFair k m
    pub done : done_in m ≡ d
    pub held : IsHeldFor k m (first_on k (changes_in m))

  abbrev Free : List Change → Bool → ℕ → ℕ → Journal → Type 0
  Free cs d f i m = IsEnding k cs d f i m × (holds k m ≡ false)

  allow_stamps : (ts : List ℕ) (cs : List Change) (d : Bool) (f i : ℕ) (m : Journal) → Free cs d f i m →
      Allows (Allowed script k) (Right k) (stamps_of ts) m (Free cs d f i)
  allow_stamps [] cs d f i m w = w
  allow_stamps (t ∷ ts) cs d f i m w = (
    tt,
    λ e q r.
        (record { begun = rw q (w.0.begun); fair = (r, w.0.fair); same = rw q (w.0.same); done = rw q (w.0.done); floor = rw q (w.0.floor); id = rw q (w.0.id) }, rw q (w.1)),
  )

  allow_completion : (d : Bool) (m : Journal) → IsDone d m → Allows (Allowed script k) (Right k) (completion script mode d m) m (IsOver k)
  allow_completion d m w =
      allows_join (Allowed script k) (Right k)
      (flat_map (λ j. complete script mode m d (changes_in m) j) (keys_of (changes_in m)) ++ stamps_of (tables_in script (changes_in m))) (Act.End ∷ []) m
      (Free (changes_in m) d (floor_in m) (lock_id k m)) (IsOver k)
      (allows_join (Allowed script k) (Right k) (flat_map (λ j. complete script mode m d (changes_in m) j) (keys_of (changes_in m))) (stamps_of (tables_in script (changes_in m))) m
      (Free (changes_in m) d (floor_in m) (lock_id k m)) (Free (changes_in m) d (floor_in m) (lock_id k m))
      (allow_keys m (changes_in m) d (keys_of (changes_in m)) m (keys_once k (changes_in m))
      (record { begun = w.begun; fair = w.fair; same = refl; done = w.done; floor = refl; id = refl }) (λ a. w.held)
      (λ a. subst (λ o. IsHeldFor k m o) (no_first (changes_in m) a) w.held))
      (λ n x. allow_stamps (tables_in script (changes_in m)) (changes_in m) d (floor_in m) (lock_id k m) n x))
      (λ n x. (tt, λ e p r. ((r, x.0.fair), rw p (x.1))))

  is_done : (m : Journal) (e : Entry) (d : Bool) → IsSettled k m → Right k m e → begun_after e.act true ≡ true → changes_in (e ∷ m) ≡ changes_in m →
      holds k (e ∷ m) ≡ holds k m → done_in (e ∷ m) ≡ d → IsDone d (e ∷ m)
  is_done m e d w r b c h p = record {
    begun = rw (w.working.begun) b;
    fair = (r, w.working.fair);
    done = p;
    held = subst (λ cs. IsHeldFor k (e ∷ m) (first_on k cs)) (sym c)
        (held_same k m (e ∷ m) (first_on k (changes_in m)) h (held_ready k m (first_on k (changes_in m)) w.working.ready w.free));
  }

  pub goes_commit : Goes script k (commit script mode) (IsSettled k) (IsOver k)
  goes_commit m w go g = (
    (w.working.undone, w.working.ready, w.working.begun),
    λ e p r.
        runs_each (Allowed script k) (Right k) (completion script mode (is_committed_reply e.reply) (e ∷ m)) (e ∷ m) (IsOver k)
        (allow_completion (is_committed_reply e.reply) (e ∷ m)
        (is_done m e (is_committed_reply e.reply) w r (rw p refl) (rw p refl) (rw p refl) (rw (p, w.working.undone) (done_reply e.reply)))) go g,
  )

  pub goes_rollback : Goes script k (rollback script mode) (IsSettled k) (IsOver k)
  goes_rollback m w go g = (
    tt,
    λ e p r.
        runs_each (Allowed script k) (Right k) (completion script mode false (e ∷ m)) (e ∷ m) (IsOver k)
        (allow_completion false (e ∷ m) (is_done m e false w r (rw p refl) (rw p refl) (rw p refl) (rw (p, w.working.undone) refl))) go g,
  )
