-- What a session has seen by the time that it commits, and other facts of one entry.
use Rattle.std.specs.Prelude.{option_and_then}
use Rattle.std.proofs.Common.{◌≡◌, ℕ, suc, ◌⊎◌, inl, inr, Bool, true, false, cond, ◌&&◌, ◌==◌, nat_le, List, [], ◌∷◌, Some, None, Option, refl, ap, sym, ◌∙◌, subst, eq-eqb}
use Rattle.std.proofs.lemmas.Bool.{true≢false, false≢true, eqb-true}
use Rattle.hib_base.specs.Keys.{same_key}
use Rattle.hib_base.specs.Tables.{Tables, row_at, key_of, row_left, first_on, last_on, after_change, after_changes, commit_answer, refusal, same_version, in_order}
use Rattle.hib_base.proofs.Tables.{Tested, tested, same_key_eq, same_key_refl, row_at_changes, row_at_other_change, left_by}
use Rattle.hib_journal.specs.Types.{Key, Row, Change, Commit, Strategy, Script, Act, Reply, Unlocked, Updated}
use Rattle.hib_journal.specs.Sessions.{Journal, own, is_by, is_open, is_begun, changes, changes_in, time_in, floor_in}
use Rattle.hib_journal.specs.Slot.{LockState, Slot, key_in, is_positive}
use Rattle.hib_journal.specs.Regions
use Rattle.hib_journal.specs.Held
use Rattle.hib_journal.specs.Next.{strategy, is_in}
use Rattle.hib_journal.specs.Coherence.{is_done, done_in, done_after, last_row}
use Rattle.hib_law.proofs.Effects.{floor_named}
use Rattle.hib_law.proofs.Commits.{applies_first, applies_rest, expected_some, same_version_eq}
use Rattle.hib_law.proofs.HeldRows.{HasRead}
use Rattle.hib_law.proofs.Orderly.{Kind, kind}
use Rattle.hib_law.proofs.Working
use Rattle.hib_law.proofs.Working.{holds, IsReadyIn}
use Rattle.hib_law.proofs.Basics.{none_some, some_same}
use Rattle.hib_bulk_law.specs.Types.{BulkDef, BulkAct, BulkReply, BulkEntry}
use Rattle.hib_bulk_law.specs.Plain.{Bulked, plain, plain_reply}
use Rattle.hib_bulk_law.specs.Rows.{committed, row_now}
use Rattle.hib_bulk_law.specs.Wide.{wide_holders, wide_unlock, is_shut}
use Rattle.hib_bulk_law.specs.Legal.{IsLegal, offered, given_back}
use Rattle.hib_bulk_law.proofs.Expected.{expected}
use Rattle.hib_bulk_law.proofs.Entries.{Shape, shape, is_wide, plain_of, plain_does, plain_sweeps, plain_rests}
use Rattle.hib_bulk_law.proofs.Owns.{allowed}
use Rattle.hib_bulk_law.proofs.Turned.{rows_commit}
use Rattle.hib_bulk_law.proofs.Views.{is_begin, begins, Seen, Was, seen_on, seen_now}

-- small facts

pub offered_none : (n t : ℕ) (h : Bulked) → offered n h t ≡ None → is_shut n h t ≡ false
offered_none n t h p = by_holders (tested (is_positive (wide_holders n h))) p
  where
    by_time : Tested (nat_le t (wide_unlock n h)) → cond (nat_le t (wide_unlock n h)) (Some (BulkReply.WideEarly (wide_unlock n h))) None ≡ None →
        nat_le t (wide_unlock n h) ≡ false
    by_time (inl x) p = let g : Some (BulkReply.WideEarly (wide_unlock n h)) ≡ None = rw x at p in none_some (sym g)
    by_time (inr x) p = x

    by_holders : Tested (is_positive (wide_holders n h)) → offered n h t ≡ None → is_shut n h t ≡ false
    by_holders (inl x) p = let g : Some (BulkReply.Wide (wide_holders n h)) ≡ None = rw x at p in none_some (sym g)
    by_holders (inr x) p =
        let g : cond (nat_le t (wide_unlock n h)) (Some (BulkReply.WideEarly (wide_unlock n h))) None ≡ None = rw x at p in rw x (by_time (tested (nat_le t (wide_unlock n h))) g)

pub cond_none : (b : Bool) (r : BulkReply) → cond b (Some r) None ≡ None → b ≡ false
cond_none true r p = none_some (sym p)
cond_none false r p = refl

-- a stored update is of the lock with that number
pub update_id : (s : Slot) (i : ℕ) → Regions.after_update s i ≡ Updated.Stored → (l : LockState) × (s ≡ Slot.Lock l) × (l.shared ≡ false) × (l.id ≡ i)
update_id Slot.Vacant i e = absurd (cc)
update_id (Slot.Item x u) i e = absurd (cc)
update_id (Slot.Lock l) i e = by_id (tested (l.id == i)) e
  where
    alone : (x : Bool) (m : ℕ) → Regions.updated_by x m ≡ Updated.Stored → x ≡ false
    alone x ℕ.zero e = absurd (cc)
    alone true (suc m) e = absurd (cc)
    alone false (suc m) e = refl

    by_id : Tested (l.id == i) → cond (l.id == i) (Regions.updated_by l.shared l.holders) Updated.Expired ≡ Updated.Stored →
        (k : LockState) × (Slot.Lock l ≡ Slot.Lock k) × (k.shared ≡ false) × (k.id ≡ i)
    by_id (inl x) e = let g : Regions.updated_by l.shared l.holders ≡ Updated.Stored = rw x at e in (l, refl, alone l.shared l.holders g, eqb-true l.id i x)
    by_id (inr x) e = let g : Updated.Expired ≡ Updated.Stored = rw x at e in absurd (cc)

pub not_given : (u : Unlocked) → given_back u ≡ Updated.Stored → ⊥
not_given (Unlocked.Released n) e = absurd (cc)
not_given Unlocked.Expired e = absurd (cc)

pub and_none : (p u : Bool) → (p && (u && false)) ≡ false
and_none true true = refl
and_none true false = refl
and_none false u = refl

-- the floor that an act names to a read-write region
pub floor_own : (script : Script) (j : Key) (f : ℕ) (m : Journal) (a : Act) → key_in a ≡ Some j → floor_named a ≡ Some f → Working.Allowed script j m a → (f ≡ floor_in m) × (is_begun m ≡ true)
floor_own script j f m (Act.Put i r u g) p q w =
    let a : HasRead j r m × (u ≡ time_in m) × (g ≡ floor_in m) × (is_begun m ≡ true) × (is_in j (changes_in m) ≡ false) = w (rw (some_same p) (same_key_refl j)) in
    (sym (some_same q) ∙ a.2, a.3)
floor_own script j f m (Act.Lock i v g) p q w =
    let a : (done_in m ≡ false) × (g ≡ floor_in m) × (is_begun m ≡ true) × ((v ≡ None) ⊎ ((b : Row) × HasRead j b m × (b.version ≡ v)))
    × (is_in j (changes_in m) ≡ false) × (holds j m ≡ false) = w (rw (some_same p) (same_key_refl j)) in
    (sym (some_same q) ∙ a.1, a.2)
floor_own script j f m (Act.AfterInsert i r g) p q w =
    let a : (done_in m ≡ true) × (option_and_then row_left (last_on j (changes_in m)) ≡ Some r) × (g ≡ floor_in m) × (is_begun m ≡ true) = w (rw (some_same p) (same_key_refl j)) in
    (sym (some_same q) ∙ a.2, a.3)
floor_own script j f m _ p q w = none_some q

-- the first change on a key expects the version of the row that is there
abbrev pub Expects : Option Change → Option Row → Type 0
Expects None o = Unit {0}
Expects (Some (Change.Insert j r)) o = Unit {0}
Expects (Some (Change.Update j v r)) o = (d : Row) × (o ≡ Some d) × (v ≡ d.version)
Expects (Some (Change.Delete j v)) o = (d : Row) × (o ≡ Some d) × (v ≡ d.version)

pub first_expects : (k : Key) (cs : List Change) (t : Tables) → commit_answer cs t ≡ Commit.Committed → Expects (first_on k cs) (row_at t k)
first_expects k [] t e = tt
first_expects k (c ∷ cs) t e = by_key (tested (same_key (key_of c) k)) (first_expects k cs (after_change c t) (applies_rest c cs t e)) (applies_first c cs t e)
  where
    version : (j : Key) (v : Option ℕ) → j ≡ k → Rattle.hib_base.specs.Tables.unless_expected j v (row_at t j) ≡ None → (d : Row) × (row_at t k ≡ Some d) × (v ≡ d.version)
    version j v m q =
        let g : (d : Row) × (row_at t j ≡ Some d) × (same_version v d.version ≡ true) = expected_some j v (row_at t j) q in
        (g.0, subst (λ z. row_at t z ≡ Some g.0) m g.1, same_version_eq v g.0.version g.2)

    here : (d : Change) → same_key (key_of d) k ≡ true → refusal d t ≡ None → Expects (Some d) (row_at t k)
    here (Change.Insert j r) p q = tt
    here (Change.Update j v r) p q = version j v (same_key_eq j k p) q
    here (Change.Delete j v) p q = version j v (same_key_eq j k p) q

    by_key : Tested (same_key (key_of c) k) → Expects (first_on k cs) (row_at (after_change c t) k) → refusal c t ≡ None → Expects (first_on k (c ∷ cs)) (row_at t k)
    by_key (inl p) m q = rw p (here c p q)
    by_key (inr p) m q = rw p (subst (λ o. Expects (first_on k cs) o) (row_at_other_change c t k p) m)

module _ (script : Script) (lines : List BulkDef) (start : Tables) (k : Key) where
  -- what an open session has read of a key that is not in its changes, it has seen; and the version that it may change is that of a
  -- row that was committed once
  abbrev pub Reads : Bulked → Type 0
  Reads h = (s : ℕ) (b : Row) → is_open s (plain h) ≡ true → HasRead k b (own s (plain h)) → is_in k (changes s (plain h)) ≡ false → Seen script lines start k s b h

  abbrev pub Copied : Bulked → Type 0
  Copied h = (s : ℕ) (w : Option ℕ) → expected k (own s (plain h)) ≡ Some w → (b : Row) × Was script lines start k b h × (b.version ≡ w)

pub and_false : (x : Bool) → (x && false) ≡ false
and_false true = refl
and_false false = refl

pub begins_not : (s : ℕ) (e : BulkEntry) → is_begin e.act ≡ false → begins s e ≡ false
begins_not s e p = rw p (and_false (e.session == s))

pub begins_other : (s : ℕ) (e : BulkEntry) → (e.session == s) ≡ false → begins s e ≡ false
begins_other s e p = rw p refl

pub commit_reply : (r : BulkReply) → plain_reply Act.Commit r ≡ Reply.Commit Commit.Committed → r ≡ BulkReply.Plain (Reply.Commit Commit.Committed)
commit_reply (BulkReply.Plain x) p = ap (λ z. BulkReply.Plain z) p
commit_reply BulkReply.Swept p = absurd (cc)
commit_reply (BulkReply.Held m) p = absurd (cc)
commit_reply (BulkReply.Released m) p = absurd (cc)
commit_reply (BulkReply.Changed m) p = absurd (cc)
commit_reply (BulkReply.Wide m) p = absurd (cc)
commit_reply (BulkReply.WideEarly m) p = absurd (cc)

-- a session that has committed has seen what its last change left
module _ (script : Script) (lines : List BulkDef) (start : Tables) (k : Key) (rw_k : strategy script k.entity ≡ Strategy.ReadWrite) where
  pub done_seen : (s : ℕ) (r : Row) (h : Bulked) → IsLegal script lines (Some start) h → is_done s (plain h) ≡ true → last_row k s (plain h) ≡ Some r → Seen script lines start k s r h
  done_seen s r [] l d p = absurd (false≢true d)
  done_seen s r (e ∷ h) l d p = by_shape (shape e.act) (done_seen s r h l.0)
    where
      IH : Type 0
      IH = is_done s (plain h) ≡ true → last_row k s (plain h) ≡ Some r → Seen script lines start k s r h

      left_some : (o : Option Change) (x : Option Row) → option_and_then row_left o ≡ Some r → left_by o x ≡ Some r
      left_some None x p = none_some p
      left_some (Some c) x p = p

      same : plain (e ∷ h) ≡ plain h → is_begin e.act ≡ false → IH → Seen script lines start k s r (e ∷ h)
      same u b i = seen_on script lines start k s r e h (begins_not s e b) (i (subst (λ z. is_done s z ≡ true) u d) (subst (λ z. last_row k s z ≡ Some r) u p))

      mine : (a : Act) → e.act ≡ BulkAct.Plain a → e.session ≡ s → done_in (plain_of e a ∷ own s (plain h)) ≡ true →
          option_and_then row_left (last_on k (changes_in (plain_of e a ∷ own s (plain h)))) ≡ Some r → Working.Allowed script k (own s (plain h)) a →
          Kind a (plain_reply a e.reply) → IH → Seen script lines start k s r (e ∷ h)
      mine a q u d p w (Kind.Begins x) i = let g : false ≡ true = rw x at d in absurd (false≢true g)
      mine a q u d p w (Kind.Writes c x) i =
          let g : done_in (own s (plain h)) ≡ true = rw x at d in
          let f : Working.Allowed script k (own s (plain h)) (Act.Write c) = subst (λ y. Working.Allowed script k (own s (plain h)) y) x w in
          absurd (true≢false (sym g ∙ f.0))
      mine a q u d p w (Kind.Commits x y) i =
          let a2 : e.act ≡ BulkAct.Plain Act.Commit = q ∙ ap (λ z. BulkAct.Plain z) x in
          let r2 : e.reply ≡ BulkReply.Plain (Reply.Commit Commit.Committed) = commit_reply e.reply (subst (λ z. plain_reply z e.reply ≡ Reply.Commit Commit.Committed) x y) in
          let f : option_and_then row_left (last_on k (changes s (plain h))) ≡ Some r = rw x at p in
          let c : row_now script lines start k (e ∷ h) ≡ left_by (last_on k (changes s (plain h))) (row_now script lines start k h) =
          ap (λ z. row_at z k) (rows_commit script lines start h e a2 r2) ∙ (ap (λ z. row_at (after_changes (changes z (plain h)) (committed script lines start h)) k) u
          ∙ row_at_changes (changes s (plain h)) (committed script lines start h) k) in
          seen_now script lines start k s r e h (begins_not s e (ap is_begin a2)) (eq-eqb e.session s u) (c ∙ left_some (last_on k (changes s (plain h))) (row_now script lines start k h) f)
      mine a q u d p w (Kind.Other x y z) i = by_begin (tested (Held.is_begin a))
        where
          begin_not : (a : Act) (r : Reply) (d : Bool) → Held.is_begin a ≡ true → done_after a r d ≡ false
          begin_not Act.Begin r d p = refl
          begin_not _ r d p = absurd (false≢true p)

          by_begin : Tested (Held.is_begin a) → Seen script lines start k s r (e ∷ h)
          by_begin (inl b) = absurd (false≢true (sym (begin_not a (plain_reply a e.reply) (done_in (own s (plain h))) b) ∙ d))
          by_begin (inr b) =
              let g : is_done s (plain h) ≡ true = sym (x (done_in (own s (plain h)))) ∙ d in
              let f : last_row k s (plain h) ≡ Some r = sym (ap (λ cs. option_and_then row_left (last_on k cs)) (y (changes_in (own s (plain h))))) ∙ p in
              seen_on script lines start k s r e h (begins_not s e (ap is_begin q ∙ b)) (i g f)

      does : (a : Act) → e.act ≡ BulkAct.Plain a → Tested (is_by s (plain_of e a)) → is_done s (plain_of e a ∷ plain h) ≡ true → last_row k s (plain_of e a ∷ plain h) ≡ Some r →
          IH → Seen script lines start k s r (e ∷ h)
      does a q (inr b) d p i =
          let g : is_done s (plain h) ≡ true = rw b at d in
          let f : last_row k s (plain h) ≡ Some r = rw b at p in
          seen_on script lines start k s r e h (begins_other s e b) (i g f)
      does a q (inl b) d p i =
          let g : done_in (plain_of e a ∷ own s (plain h)) ≡ true = rw b at d in
          let f : option_and_then row_left (last_on k (changes_in (plain_of e a ∷ own s (plain h)))) ≡ Some r = rw b at p in
          let u : e.session ≡ s = eqb-true e.session s b in
          mine a q u g f (subst (λ z. Working.Allowed script k (own z (plain h)) a) u (allowed script lines start k rw_k h e a l.0 l.1 q)) (kind a (plain_reply a e.reply)) i

      by_shape : Shape e.act → IH → Seen script lines start k s r (e ∷ h)
      by_shape (Shape.Does a q) i =
          does a q (tested (is_by s (plain_of e a))) (subst (λ z. is_done s z ≡ true) (plain_does e h a q) d) (subst (λ z. last_row k s z ≡ Some r) (plain_does e h a q) p) i
      by_shape (Shape.Sweeps j q) i =
          seen_on script lines start k s r e h (begins_not s e (ap is_begin q))
          (i (subst (λ z. is_done s z ≡ true) (plain_sweeps e h j q) d) (subst (λ z. last_row k s z ≡ Some r) (plain_sweeps e h j q) p))
      by_shape (Shape.Wide w) i = same (plain_rests e h w) (wide_begin e.act w) i
        where
          wide_begin : (x : BulkAct) → is_wide x ≡ true → is_begin x ≡ false
          wide_begin (BulkAct.Plain a) w = absurd (false≢true w)
          wide_begin _ w = refl
