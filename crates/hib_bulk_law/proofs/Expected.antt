-- The version that a session may change, by its own entries alone: that of its copy when the flush began that took the lock. One pass over the blocks
-- of a session.
use Rattle.std.specs.Prelude.{option_and_then, option_map}
use Rattle.std.proofs.Common.{◌≡◌, ℕ, ◌⊎◌, inl, inr, Bool, true, false, cond, not, ◌&&◌, List, [], ◌∷◌, ◌++◌, Some, None, Option, refl, ap, sym, ◌∙◌, subst}
use Rattle.std.proofs.lemmas.Bool.{true≢false, false≢true}
use Rattle.std.specs.List.{flat_map}
use Rattle.hib_journal.specs.Types.{Key, Row, Change, Strategy, Mode, Script, Act, Entry}
use Rattle.hib_base.specs.Keys.{same_key}
use Rattle.hib_base.specs.Tables.{key_of, first_on}
use Rattle.hib_journal.specs.Sessions.{Journal, changes_in, deferred, floor_in}
use Rattle.hib_journal.specs.Held.{held, pending, Instance, is_fresh}
use Rattle.hib_journal.specs.Plan.{Block, InOrder}
use Rattle.hib_journal.specs.Next.{strategy, plan_of, next, is_in, tables_in, before_key, before_write, before_cached, writes, flush_of, flush, stamps_of, keys_of, complete, completion, commit, rollback, is_committed_reply}
use Rattle.hib_base.proofs.Tables.{Tested, tested, same_key_eq}
use Rattle.hib_journal.proofs.Plans.{Allows, allows_join, runs_each, AllRight}
use Rattle.hib_law.proofs.Walks
use Rattle.hib_law.proofs.Walks.{AreGood, AllKeep, Keeps, goes_find, goes_answer, allow_keys, allows_as, is_find_act, is_list_act, is_own_act, is_end_act, allowed_own}
use Rattle.hib_law.proofs.Working.{holds}
use Rattle.hib_law.proofs.Pending.{PendingBy}
use Rattle.hib_law.proofs.Flushing.{first_append_other, first_append_some, first_append_none, not_in_first}
use Rattle.hib_law.proofs.Flushes.{Names, AllPending, IsOnceIn, all_pending, once_pending}
use Rattle.hib_law.proofs.Basics.{none_some}

abbrev pub is_pre : Act → Bool
is_pre (Act.Pre ts) = true
is_pre _ = false

abbrev pub is_unchanged : Option Change → Bool
is_unchanged None = true
is_unchanged (Some c) = false

-- the version of the base of what is held
abbrev pub copy_version : Option Instance → Option (Option ℕ)
copy_version i = option_map (λ b. b.version) (option_and_then (λ z. z.base) i)

-- the version of the session's copy of k when its last flush began that found k unchanged and not locked
abbrev pub expected : Key → Journal → Option (Option ℕ)
expected k [] = None
expected k (e ∷ m) = cond (is_pre e.act && (is_unchanged (first_on k (changes_in m)) && not (holds k m))) (copy_version (held m k)) (expected k m)

-- the first change on a key is of the version that is expected
abbrev pub IsExpected : Key → Journal → Option Change → Type 0
IsExpected k m None = Unit {0}
IsExpected k m (Some (Change.Insert j r)) = Unit {0}
IsExpected k m (Some (Change.Update j v r)) = expected k m ≡ Some v
IsExpected k m (Some (Change.Delete j v)) = expected k m ≡ Some v

-- what is known of acts besides: what the store defers, when a lock is held, and which version is named and changed
abbrev pub Allowed : Key → Journal → Act → Type 0
Allowed k m Act.Begin = deferred m ≡ []
Allowed k m (Act.Load j) = deferred m ≡ changes_in m
Allowed k m (Act.Pre ts) = (deferred m ≡ changes_in m) × (first_on k (changes_in m) ≡ None → holds k m ≡ false)
Allowed k m (Act.Lock j v f) = same_key j k ≡ true → (v ≡ None) ⊎ (expected k m ≡ Some v)
Allowed k m Act.Commit = (deferred m ≡ changes_in m) × IsExpected k m (first_on k (changes_in m))
Allowed k m _ = Unit {0}

-- a transaction begins without the lock
abbrev pub Right : Key → Journal → Entry → Type 0
Right k m e = e.act ≡ Act.Begin → holds k m ≡ false

-- within a transaction, between statements and between the changes of a flush
pub record IsOpen (k : Key) (m : Journal) : Type 0 where
  pub same : deferred m ≡ changes_in m
  pub free : first_on k (changes_in m) ≡ None → holds k m ≡ false
  pub ready : IsExpected k m (first_on k (changes_in m))

-- after a transaction
abbrev pub IsOver : Journal → Type 0
IsOver m = deferred m ≡ []

expected_same : (k : Key) (m n : Journal) (o : Option Change) → expected k n ≡ expected k m → IsExpected k m o → IsExpected k n o
expected_same k m n None p h = tt
expected_same k m n (Some (Change.Insert j r)) p h = tt
expected_same k m n (Some (Change.Update j v r)) p h = p ∙ h
expected_same k m n (Some (Change.Delete j v)) p h = p ∙ h

-- an entry that leaves all of it
open_same : (k : Key) (m n : Journal) → deferred n ≡ deferred m → changes_in n ≡ changes_in m → holds k n ≡ holds k m → expected k n ≡ expected k m → IsOpen k m → IsOpen k n
open_same k m n d c h x w = record {
  same = d ∙ (w.same ∙ sym c);
  free = λ p. h ∙ w.free (subst (λ cs. first_on k cs ≡ None) c p);
  ready = subst (λ cs. IsExpected k n (first_on k cs)) (sym c) (expected_same k m n (first_on k (changes_in m)) x w.ready);
}

module _ (k : Key) where
  keeps_find : (a : Act) → is_find_act a ≡ true → Keeps (Allowed k) (Right k) (IsOpen k) a
  keeps_find (Act.Find j) p m w = (tt, λ e q r. open_same k m (e ∷ m) (rw q refl) (rw q refl) (rw q refl) (rw q refl) w)
  keeps_find (Act.Get j t) p m w = (tt, λ e q r. open_same k m (e ∷ m) (rw q refl) (rw q refl) (rw q refl) (rw q refl) w)
  keeps_find (Act.Load j) p m w = (w.same, λ e q r. open_same k m (e ∷ m) (rw q refl) (rw q refl) (rw q refl) (rw q refl) w)
  keeps_find (Act.Put j x t f) p m w = (tt, λ e q r. open_same k m (e ∷ m) (rw q refl) (rw q refl) (rw q refl) (rw q refl) w)
  keeps_find _ p m w = absurd (false≢true p)

  keeps_list : (a : Act) → is_list_act a ≡ true → Keeps (Allowed k) (Right k) (IsOpen k) a
  keeps_list (Act.Look q) p m w = (tt, λ e q r. open_same k m (e ∷ m) (rw q refl) (rw q refl) (rw q refl) (rw q refl) w)
  keeps_list (Act.Check q t) p m w = (tt, λ e q r. open_same k m (e ∷ m) (rw q refl) (rw q refl) (rw q refl) (rw q refl) w)
  keeps_list (Act.List q) p m w = (tt, λ e q r. open_same k m (e ∷ m) (rw q refl) (rw q refl) (rw q refl) (rw q refl) w)
  keeps_list (Act.Keep q t l) p m w = (tt, λ e q r. open_same k m (e ∷ m) (rw q refl) (rw q refl) (rw q refl) (rw q refl) w)
  keeps_list _ p m w = absurd (false≢true p)

  keeps_persist : (j : Key) (x : Row) → Keeps (Allowed k) (Right k) (IsOpen k) (Act.Persist j x)
  keeps_persist j x m w = (tt, λ e q r. open_same k m (e ∷ m) (rw q refl) (rw q refl) (rw q refl) (rw q refl) w)

  keeps_own : (a : Act) → is_own_act a ≡ true → Keeps (Allowed k) (Right k) (IsOpen k) a
  keeps_own (Act.Set j cells) p m w = (tt, λ e q r. open_same k m (e ∷ m) (rw q refl) (rw q refl) (rw q refl) (rw q refl) w)
  keeps_own (Act.Remove j) p m w = (tt, λ e q r. open_same k m (e ∷ m) (rw q refl) (rw q refl) (rw q refl) (rw q refl) w)
  keeps_own Act.Clear p m w = (tt, λ e q r. open_same k m (e ∷ m) (rw q refl) (rw q refl) (rw q refl) (rw q refl) w)
  keeps_own _ p m w = absurd (false≢true p)

  keeps_end : (a : Act) → is_end_act a ≡ true → Keeps (Allowed k) (Right k) IsOver a
  keeps_end (Act.AfterInsert j x f) p m w = (tt, λ e q r. rw q w)
  keeps_end (Act.AfterUpdate j i x) p m w = (tt, λ e q r. rw q w)
  keeps_end (Act.Unlock j i) p m w = (tt, λ e q r. rw q w)
  keeps_end (Act.RegionRemove j) p m w = (tt, λ e q r. rw q w)
  keeps_end _ p m w = absurd (false≢true p)

module _ (script : Script) (k : Key) (rw_k : strategy script k.entity ≡ Strategy.ReadWrite) where
  abbrev Goes : Block → (Journal → Type 0) → (Journal → Type 0) → Type 0
  Goes = Walks.Goes (Allowed k) (Right k)

  abbrev Allow : List Act → Journal → (Journal → Type 0) → Type 0
  Allow = Allows (Allowed k) (Right k)

  -- a flush that began at start

  module _ (start : Journal) where
    -- with these changes left
    pub record IsAt (cs : List Change) (m : Journal) : Type 0 where
      pub open_at : IsOpen k m
      pub named : first_on k (changes_in m) ≡ None → expected k m ≡ copy_version (held start k)
      pub still : Names k start cs ≡ true → first_on k (changes_in m) ≡ first_on k (changes_in start)

    -- before the write of c, and perhaps under its lock
    pub record IsMid (c : Change) (cs : List Change) (m : Journal) : Type 0 where
      pub same : deferred m ≡ changes_in m
      pub free : same_key (key_of c) k ≡ false → first_on k (changes_in m) ≡ None → holds k m ≡ false
      pub ready : IsExpected k m (first_on k (changes_in m))
      pub named : first_on k (changes_in m) ≡ None → expected k m ≡ copy_version (held start k)
      pub still : Names k start (c ∷ cs) ≡ true → first_on k (changes_in m) ≡ first_on k (changes_in start)

    to_mid : (c : Change) (cs : List Change) (m : Journal) → IsAt (c ∷ cs) m → IsMid c cs m
    to_mid c cs m w = record { same = w.open_at.same; free = λ a. w.open_at.free; ready = w.open_at.ready; named = w.named; still = w.still }

    mid_same : (c : Change) (cs : List Change) (m n : Journal) → deferred n ≡ deferred m → changes_in n ≡ changes_in m →
        (same_key (key_of c) k ≡ false → holds k n ≡ holds k m) → expected k n ≡ expected k m → IsMid c cs m → IsMid c cs n
    mid_same c cs m n d q h x w = record {
      same = d ∙ (w.same ∙ sym q);
      free = λ a p. h a ∙ w.free a (subst (λ ds. first_on k ds ≡ None) q p);
      ready = subst (λ ds. IsExpected k n (first_on k ds)) (sym q) (expected_same k m n (first_on k (changes_in m)) x w.ready);
      named = λ p. x ∙ w.named (subst (λ ds. first_on k ds ≡ None) q p);
      still = λ a. ap (λ ds. first_on k ds) q ∙ w.still a;
    }

    -- the version of the copy is the one that the change expects
    copied : (j : Key) (v : Option ℕ) (z : Instance) (b : Row) → same_key j k ≡ true → held start j ≡ Some z → z.base ≡ Some b → b.version ≡ v →
        copy_version (held start k) ≡ Some v
    copied j v z b s h p q =
        let g : held start k ≡ Some z = subst (λ y. held start y ≡ Some z) (same_key_eq j k s) h in
        rw (g, p) (ap Some q)

    changed : (c : Change) (m : Journal) → same_key (key_of c) k ≡ true → PendingBy (held start (key_of c)) c →
        expected k m ≡ copy_version (held start k) → IsExpected k m (Some c)
    changed (Change.Insert j r) m s b x = tt
    changed (Change.Update j v r) m s b x = x ∙ copied j v b.0 b.1 s b.2 b.4 b.5
    changed (Change.Delete j v) m s b x = x ∙ copied j v b.0 b.1 s b.2 b.4 b.5

    written : (c : Change) (cs : List Change) (m : Journal) (e : Entry) → IsMid c cs m → PendingBy (held start (key_of c)) c →
        (same_key (key_of c) k ≡ true → Names k start cs ≡ false) → e.act ≡ Act.Write c → IsAt cs (e ∷ m)
    written c cs m e w b o p = by_key (tested (same_key (key_of c) k))
      where
        q : changes_in (e ∷ m) ≡ changes_in m ++ c ∷ []
        q = rw p refl

        d : deferred (e ∷ m) ≡ changes_in (e ∷ m)
        d = rw p (ap (λ ds. ds ++ c ∷ []) w.same)

        x : expected k (e ∷ m) ≡ expected k m
        x = rw p refl

        h : holds k (e ∷ m) ≡ holds k m
        h = rw p refl

        other : same_key (key_of c) k ≡ false → IsAt cs (e ∷ m)
        other s =
            let f : first_on k (changes_in (e ∷ m)) ≡ first_on k (changes_in m) = ap (λ ds. first_on k ds) q ∙ first_append_other k (changes_in m) c s in
            record {
              open_at = record {
                same = d;
                free = λ a. h ∙ w.free s (sym f ∙ a);
                ready = subst (λ u. IsExpected k (e ∷ m) u) (sym f) (expected_same k m (e ∷ m) (first_on k (changes_in m)) x w.ready);
              };
              named = λ a. x ∙ w.named (sym f ∙ a);
              still = λ a. f ∙ w.still (rw s a);
            }

        here : same_key (key_of c) k ≡ true → (u : Option Change) → first_on k (changes_in m) ≡ u → IsAt cs (e ∷ m)
        here s None u =
            let f : first_on k (changes_in (e ∷ m)) ≡ Some c = ap (λ ds. first_on k ds) q ∙ first_append_none k (changes_in m) c u s in
            record {
              open_at = record {
                same = d;
                free = λ a. none_some (sym a ∙ f);
                ready = subst (λ y. IsExpected k (e ∷ m) y) (sym f) (changed c (e ∷ m) s b (x ∙ w.named u));
              };
              named = λ a. none_some (sym a ∙ f);
              still = λ a. absurd (true≢false (sym a ∙ o s));
            }
        here s (Some y) u =
            let f : first_on k (changes_in (e ∷ m)) ≡ Some y = ap (λ ds. first_on k ds) q ∙ first_append_some k (changes_in m) c y u in
            record {
              open_at = record {
                same = d;
                free = λ a. none_some (sym a ∙ f);
                ready = subst (λ z. IsExpected k (e ∷ m) z) (sym f) (expected_same k m (e ∷ m) (Some y) x (subst (λ z. IsExpected k m z) u w.ready));
              };
              named = λ a. none_some (sym a ∙ f);
              still = λ a. absurd (true≢false (sym a ∙ o s));
            }

        by_key : Tested (same_key (key_of c) k) → IsAt cs (e ∷ m)
        by_key (inl s) = here s (first_on k (changes_in m)) refl
        by_key (inr s) = other s

    allow_write : (c : Change) (cs : List Change) (m : Journal) → IsMid c cs m → PendingBy (held start (key_of c)) c →
        (same_key (key_of c) k ≡ true → Names k start cs ≡ false) → Allow (Act.Write c ∷ []) m (IsAt cs)
    allow_write c cs m w b o = (tt, λ e p r. written c cs m e w b o p)

    -- the version that a lock names
    names : (j : Key) (v : Option ℕ) (m : Journal) (z : Instance) (b : Row) → held start j ≡ Some z → z.base ≡ Some b → b.version ≡ v →
        first_on k (changes_in m) ≡ None → (first_on k (changes_in m) ≡ None → expected k m ≡ copy_version (held start k)) → same_key j k ≡ true →
        (x : Bool) → (cond x v None ≡ None) ⊎ (expected k m ≡ Some (cond x v None))
    names j v m z b h p q n g s false = inl refl
    names j v m z b h p q n g s true = inr (g n ∙ copied j v z b s h p q)

    unchanged : (j : Key) → same_key j k ≡ true → is_in j (changes_in start) ≡ false → first_on k (changes_in start) ≡ None
    unchanged j s n = not_in_first k (changes_in start) (subst (λ y. is_in y (changes_in start) ≡ false) (same_key_eq j k s) n)

    allow_before : (j : Key) (v : Option ℕ) (c : Change) (cs : List Change) (m : Journal) (z : Instance) (b : Row) → key_of c ≡ j → IsMid c cs m →
        held start j ≡ Some z → z.base ≡ Some b → b.version ≡ v → Allow (before_key script start j v) m (IsMid c cs)
    allow_before j v c cs m z b k_c w h p q = by_changes (is_in j (changes_in start)) refl
      where
        lock_other : (e : Entry) → e.act ≡ Act.Lock j (cond (is_fresh j start) v None) (floor_in start) → same_key (key_of c) k ≡ false → holds k (e ∷ m) ≡ holds k m
        lock_other e u s = let s2 : same_key j k ≡ false = subst (λ y. same_key y k ≡ false) k_c s in rw (u, s2) refl

        first_none : is_in j (changes_in start) ≡ false → same_key j k ≡ true → first_on k (changes_in m) ≡ None
        first_none n s = w.still (rw (k_c, s) refl) ∙ unchanged j s n

        by_strategy : (g : Strategy) → is_in j (changes_in start) ≡ false → Allow (before_cached g j (cond (is_fresh j start) v None) (floor_in start)) m (IsMid c cs)
        by_strategy Strategy.ReadWrite n = (
          λ s. names j v m z b h p q (first_none n s) w.named s (is_fresh j start),
          λ e u r. mid_same c cs m (e ∷ m) (rw u refl) (rw u refl) (lock_other e u) (rw u refl) w,
        )
        by_strategy Strategy.Uncached n = w
        by_strategy Strategy.ReadOnly n = (tt, λ e u r. mid_same c cs m (e ∷ m) (rw u refl) (rw u refl) (λ s. rw u refl) (rw u refl) w)
        by_strategy Strategy.Nonstrict n = (tt, λ e u r. mid_same c cs m (e ∷ m) (rw u refl) (rw u refl) (λ s. rw u refl) (rw u refl) w)

        by_changes : (x : Bool) → is_in j (changes_in start) ≡ x →
            Allow (cond x [] (before_cached (strategy script j.entity) j (cond (is_fresh j start) v None) (floor_in start))) m (IsMid c cs)
        by_changes true n = w
        by_changes false n = by_strategy (strategy script j.entity) n

    allow_change : (c : Change) (cs : List Change) (m : Journal) → IsAt (c ∷ cs) m → PendingBy (held start (key_of c)) c →
        (same_key (key_of c) k ≡ true → Names k start cs ≡ false) → Allow (before_write script start c ++ Act.Write c ∷ []) m (IsAt cs)
    allow_change (Change.Insert j r) cs m w b o = allow_write (Change.Insert j r) cs m (to_mid (Change.Insert j r) cs m w) b o
    allow_change (Change.Update j v r) cs m w b o =
        allows_join (Allowed k) (Right k) (before_key script start j v) (Act.Write (Change.Update j v r) ∷ []) m (IsMid (Change.Update j v r) cs) (IsAt cs)
        (allow_before j v (Change.Update j v r) cs m b.0 b.1 refl (to_mid (Change.Update j v r) cs m w) b.2 b.4 b.5)
        (λ n x. allow_write (Change.Update j v r) cs n x b o)
    allow_change (Change.Delete j v) cs m w b o =
        allows_join (Allowed k) (Right k) (before_key script start j v) (Act.Write (Change.Delete j v) ∷ []) m (IsMid (Change.Delete j v) cs) (IsAt cs)
        (allow_before j v (Change.Delete j v) cs m b.0 b.1 refl (to_mid (Change.Delete j v) cs m w) b.2 b.4 b.5)
        (λ n x. allow_write (Change.Delete j v) cs n x b o)

    allow_writes : (cs : List Change) (m : Journal) → AllPending k start cs → IsOnceIn k start cs → IsAt cs m → Allow (writes script start cs) m (IsAt [])
    allow_writes [] m a o w = w
    allow_writes (c ∷ cs) m a o w =
        allows_join (Allowed k) (Right k) (before_write script start c ++ Act.Write c ∷ []) (writes script start cs) m (IsAt cs) (IsAt [])
        (allow_change c cs m w a.0 o.0) (λ n x. allow_writes cs n a.1 o.1 x)

    began : (cs : List Change) (e : Entry) (ts : List ℕ) → IsOpen k start → e.act ≡ Act.Pre ts → IsAt cs (e ∷ start)
    began cs e ts w p = record {
      open_at = record { same = rw p (w.same); free = rw p (w.free); ready = subst (λ ds. IsExpected k (e ∷ start) (first_on k ds)) (sym same) (ready (first_on k (changes_in start)) refl w.ready) };
      named = λ a. let n : first_on k (changes_in start) ≡ None = subst (λ ds. first_on k ds ≡ None) same a in rw (p, n, w.free n) refl;
      still = λ a. ap (λ ds. first_on k ds) same;
    }
      where
        same : changes_in (e ∷ start) ≡ changes_in start
        same = rw p refl

        ready : (o : Option Change) → first_on k (changes_in start) ≡ o → IsExpected k start o → IsExpected k (e ∷ start) o
        ready None n x = tt
        ready (Some c) n x = expected_same k start (e ∷ start) (Some c) (rw (p, n) refl) x

  goes_flush : Goes (flush script) (IsOpen k) (IsOpen k)
  goes_flush m w = runs_each (Allowed k) (Right k) (flush_of script m (pending m)) m (IsOpen k)
      (by_pending (pending m) (all_pending k m) (once_pending k m))
    where
      by_pending : (cs : List Change) → AllPending k m cs → IsOnceIn k m cs → Allow (flush_of script m cs) m (IsOpen k)
      by_pending [] a o = w
      by_pending (c ∷ cs) a o = (
        (w.same, w.free),
        λ e p r. allows_as (Allowed k) (Right k) (writes script m (c ∷ cs)) (e ∷ m) (IsAt m []) (IsOpen k) (λ n x. x.open_at)
            (allow_writes m (c ∷ cs) (e ∷ m) a o (began m (c ∷ cs) e (tables_in script (c ∷ cs)) w p)),
      )

  allow_stamps : (ts : List ℕ) (m : Journal) → IsOver m → Allow (stamps_of ts) m IsOver
  allow_stamps [] m w = w
  allow_stamps (t ∷ ts) m w = (tt, λ e p r. rw p w)

  allow_completion : (mode : Mode) (d : Bool) (m : Journal) → IsOver m → Allow (completion script mode d m) m IsOver
  allow_completion mode d m w =
      allows_join (Allowed k) (Right k) (flat_map (λ j. complete script mode m d (changes_in m) j) (keys_of (changes_in m)) ++ stamps_of (tables_in script (changes_in m)))
      (Act.End ∷ []) m IsOver IsOver
      (allows_join (Allowed k) (Right k) (flat_map (λ j. complete script mode m d (changes_in m) j) (keys_of (changes_in m))) (stamps_of (tables_in script (changes_in m))) m IsOver IsOver
      (allow_keys (Allowed k) (Right k) IsOver script mode (keeps_end k) m d (changes_in m) (keys_of (changes_in m)) m w)
      (λ n x. allow_stamps (tables_in script (changes_in m)) n x))
      (λ n x. (tt, λ e p r. rw p x))

  goes_commit : (mode : Mode) → Goes (commit script mode) (IsOpen k) IsOver
  goes_commit mode m w go g = (
    (w.same, w.ready),
    λ e p r. runs_each (Allowed k) (Right k) (completion script mode (is_committed_reply e.reply) (e ∷ m)) (e ∷ m) IsOver
        (allow_completion mode (is_committed_reply e.reply) (e ∷ m) (rw p refl)) go g,
  )

  goes_rollback : (mode : Mode) → Goes (rollback script mode) (IsOpen k) IsOver
  goes_rollback mode m w go g = (
    tt,
    λ e p r. runs_each (Allowed k) (Right k) (completion script mode false (e ∷ m)) (e ∷ m) IsOver (allow_completion mode false (e ∷ m) (rw p refl)) go g,
  )

  good : AreGood (Allowed k) (Right k) script IsOver (IsOpen k)
  good = record {
    find = λ mode j. goes_find (Allowed k) (Right k) (IsOpen k) script mode (keeps_find k) j;
    persist = λ j x v. keeps_persist k j x;
    own = keeps_own k;
    flush = goes_flush;
    answer = λ mode q. goes_answer (Allowed k) (Right k) (IsOpen k) script mode (keeps_list k) q;
    commit = goes_commit;
    rollback = goes_rollback;
    begins = λ m w go g. (w, λ e p r. g (e ∷ m) (record { same = rw p w; free = λ a. rw p (r p); ready = rw p tt }));
  }

  -- of a session's entries that follow the plan, the next act is allowed
  pub expected_own : (s : ℕ) (m : Journal) (a : Act) → InOrder (plan_of script s) m → AllRight (Allowed k) (Right k) m → next script s m ≡ Some a → Allowed k m a
  expected_own s m a i r n = allowed_own (Allowed k) (Right k) script IsOver (IsOpen k) good refl s m a i r n
