-- A sound read-write key that is coherent stays so by an entry of a legal journal whose session keeps to its rules.
use Rattle.std.specs.Prelude.{option_and_then, unwrap_or}
use Rattle.std.specs.Option.{option_map_or}
use Rattle.std.proofs.Common.{◌≡◌, ℕ, ◌⊎◌, inl, inr, Bool, true, false, cond, not, ◌&&◌, ◌||◌, ◌==◌, List, [], ◌∷◌, Some, None, Option, refl, sym, ◌∙◌, subst}
use Rattle.std.proofs.lemmas.Bool.{true≢false, false≢true, and_parts, or_parts, or_right, not-true, ne_eqb, or_left}
use Rattle.std.proofs.Common.{eq-eqb}
use Rattle.std.specs.List.{list_any, list_all}
use Rattle.hib_journal.specs.Types.{Key, Row, Change, Commit, Strategy, Script, Act, Reply, Entry}
use Rattle.hib_base.specs.Keys.{same_key}
use Rattle.hib_base.specs.Tables.{Tables, row_at, key_of, row_left, first_on, last_on, after_changes, commit_answer}
use Rattle.hib_journal.specs.Sessions.{Journal, is_by, is_session, changes, is_open, open_after, is_restart, time, committed, committer, is_empty}
use Rattle.hib_journal.specs.Slot.{Touch, Slot, slot, slot_from, history, touch, key_in, touch_at}
use Rattle.hib_journal.specs.Held.{is_begin}
use Rattle.hib_journal.specs.Next.{strategy}
use Rattle.hib_journal.specs.Legal.{IsLegal, IsReply, reply_of, fault_of}
use Rattle.hib_journal.specs.Sound.{is_sound, is_calm, was_deleted, was_reused, commits, inserts_key, deletes_key}
use Rattle.hib_journal.specs.Coherence.{holders, takes, gives_back, last_row, Seen}
use Rattle.hib_base.proofs.Tables.{Tested, tested, row_at_changes, left_by}
use Rattle.hib_journal.proofs.Slots.{IsKept}
use Rattle.hib_journal.proofs.Sessions.{IsOrdered, time_same, seen_before}
use Rattle.hib_law.proofs.Guarded.{In, IsCoherent, Follows, IsQuiet, Move, IsCommit, Commits}
use Rattle.hib_law.proofs.Protocol.{kept, kept_commit}
use Rattle.hib_law.proofs.Commits.{AreSteps, Meets, first_meets, IsUp, goes_up}
use Rattle.hib_law.proofs.Effects.{Effect, effect, is_remove}
use Rattle.hib_law.proofs.Views.{view_of, IsOrderly, IsReady, to_move, to_kept, to_rest, untouched, slot_touched, slot_rests, holders_same, history_step}
use Rattle.hib_law.proofs.Basics.{none_some, some_same}

-- who is open after an entry was so before, or begins

pub open_before : (s : ℕ) (by : Option ℕ) (a : Act) (o : Bool) → (is_session s by && is_begin a) ≡ false → open_after s by a o ≡ true → o ≡ true
open_before s by Act.Begin o p q = begun (is_session s by) p q
  where
    begun : (b : Bool) → (b && true) ≡ false → (b || o) ≡ true → o ≡ true
    begun true p q = absurd (true≢false p)
    begun false p q = q
open_before s by Act.End o p q = ended (is_session s by) q
  where
    ended : (b : Bool) → cond b false o ≡ true → o ≡ true
    ended true q = absurd (false≢true q)
    ended false q = q
open_before s by (Act.Kill n) o p q = killed (n == s) q
  where
    killed : (b : Bool) → cond b false o ≡ true → o ≡ true
    killed true q = absurd (false≢true q)
    killed false q = q
open_before s by Act.Restart o p q = absurd (false≢true q)
open_before s by _ o p q = q

pub closed : (s : ℕ) (by : Option ℕ) (a : Act) (o : Bool) → is_restart a ≡ true → open_after s by a o ≡ true → ⊥
closed s by Act.Restart o p q = false≢true q
closed s by _ o p q = false≢true p

-- soundness at an entry says that the entry is calm, that the key was sound before, and that it was not reused
pub or_false : (a b : Bool) → not (a || b) ≡ true → (a ≡ false) × (b ≡ false)
or_false a b e = or_parts a b (not-true (a || b) e)

pub record WasSound (k : Key) (h : Journal) (e : Entry) : Type 0 where
  pub before : is_sound k h ≡ true
  pub calm : (x : Touch) → touch k e ≡ Some x → is_calm x ≡ true
  pub once : (commits (inserts_key k) h e && was_deleted k h) ≡ false

pub was_sound : (k : Key) (h : Journal) (e : Entry) → is_restart e.act ≡ false → is_sound k (e ∷ h) ≡ true → WasSound k h e
unfolding is_sound
was_sound k h e n s =
    let p : (list_all (λ t. is_calm t.0) (history k (e ∷ h)) ≡ true) × (not (was_reused k (e ∷ h)) ≡ true) = and_parts (list_all (λ t. is_calm t.0) (history k (e ∷ h))) (not (was_reused k (e ∷ h))) s in
    let q : not ((commits (inserts_key k) h e && was_deleted k h) || was_reused k h) ≡ true = rw n at p.1 in
    let r : ((commits (inserts_key k) h e && was_deleted k h) ≡ false) × (was_reused k h ≡ false) =
    or_false (commits (inserts_key k) h e && was_deleted k h) (was_reused k h) q in
    let c : list_all (λ t. is_calm t.0) (history k (e ∷ h)) ≡ true = p.0 in
    let d : (list_all (λ t. is_calm t.0) (history k h) ≡ true) × ((x : Touch) → touch k e ≡ Some x → is_calm x ≡ true) =
    by_touch (touch k e) refl (rw (history_step k e h n) at c) in
    record { before = rw (d.0, r.1); calm = d.1; once = r.0 }
  where
    by_touch : (t : Option Touch) → touch k e ≡ t → list_all (λ x. is_calm x.0) (option_map_or (λ t. (t, e.tick) ∷ (history k h)) (touch k e) (history k h)) ≡ true →
        (list_all (λ t. is_calm t.0) (history k h) ≡ true) × ((x : Touch) → touch k e ≡ Some x → is_calm x ≡ true)
    by_touch None p c = (rw p at c, λ x q. none_some (sym p ∙ q))
    by_touch (Some y) p c =
        let g : (is_calm y && list_all (λ t. is_calm t.0) (history k h)) ≡ true = rw p at c in
        let w : (is_calm y ≡ true) × (list_all (λ t. is_calm t.0) (history k h) ≡ true) = and_parts (is_calm y) (list_all (λ t. is_calm t.0) (history k h)) g in
        (w.1, λ x q. subst (λ z. is_calm z ≡ true) (some_same (sym p ∙ q)) w.0)

-- lists of changes

pub first_none : (k : Key) (cs : List Change) → first_on k cs ≡ None → last_on k cs ≡ None
first_none k [] e = refl
first_none k (c ∷ cs) e = by_key (tested (same_key (key_of c) k)) e (first_none k cs)
  where
    by_key : Tested (same_key (key_of c) k) → first_on k (c ∷ cs) ≡ None → (first_on k cs ≡ None → last_on k cs ≡ None) → last_on k (c ∷ cs) ≡ None
    by_key (inl p) e f = let g : Some c ≡ None = rw p at e in none_some (sym g)
    by_key (inr p) e f = let g : first_on k cs ≡ None = rw p at e in rw (p, f g)

pub first_some : (k : Key) (cs : List Change) (d : Change) → first_on k cs ≡ Some d → (z : Change) × (last_on k cs ≡ Some z)
first_some k [] d e = none_some e
first_some k (c ∷ cs) d e = by_key (tested (same_key (key_of c) k)) e (first_some k cs d) (last_on k cs) refl
  where
    by_key : Tested (same_key (key_of c) k) → first_on k (c ∷ cs) ≡ Some d → (first_on k cs ≡ Some d → (z : Change) × (last_on k cs ≡ Some z)) →
        (l : Option Change) → last_on k cs ≡ l → (z : Change) × (last_on k (c ∷ cs) ≡ Some z)
    by_key (inl p) e f None q = (c, rw (q, p))
    by_key (inl p) e f (Some z) q = (z, rw q)
    by_key (inr p) e f l q =
        let g : first_on k cs ≡ Some d = rw p at e in
        let m : (z : Change) × (last_on k cs ≡ Some z) = f g in
        (m.0, rw m.1)

pub first_inserts : (k : Key) (cs : List Change) (j : Key) (r : Row) → first_on k cs ≡ Some (Change.Insert j r) → list_any (inserts_key k) cs ≡ true
first_inserts k [] j r e = none_some e
first_inserts k (c ∷ cs) j r e = by_key (tested (same_key (key_of c) k)) e (first_inserts k cs j r)
  where
    here : (d : Change) → d ≡ Change.Insert j r → same_key (key_of d) k ≡ true → inserts_key k d ≡ true
    here (Change.Insert i x) q p = p
    here (Change.Update i v x) q p = absurd (cc)
    here (Change.Delete i v) q p = absurd (cc)

    by_key : Tested (same_key (key_of c) k) → first_on k (c ∷ cs) ≡ Some (Change.Insert j r) →
        (first_on k cs ≡ Some (Change.Insert j r) → list_any (inserts_key k) cs ≡ true) → list_any (inserts_key k) (c ∷ cs) ≡ true
    by_key (inl p) e f = let g : Some c ≡ Some (Change.Insert j r) = rw p at e in rw (here c (some_same g) p)
    by_key (inr p) e f = let g : first_on k cs ≡ Some (Change.Insert j r) = rw p at e in or_right (inserts_key k c) (list_any (inserts_key k) cs) (f g)

-- what an entry's reply is

no_fault : (k : Key) (a : Act) (r d : Reply) (cs : List Change) (x : Touch) {P : Type 0} → option_and_then (λ j. touch_at k j a r) (key_in a) ≡ Some x → fault_of cs a ≡ Some d → P
no_fault k (Act.Load j) r d cs x t f = none_some t
no_fault k (Act.List q) r d cs x t f = none_some t
no_fault k Act.Commit r d cs x t f = none_some t
no_fault k _ r d cs x t f = none_some f

fault_quiet : (k : Key) (a : Act) (d : Reply) (cs : List Change) → fault_of cs a ≡ Some d → (takes k a ≡ false) × (gives_back k a ≡ false)
fault_quiet k (Act.Load j) d cs f = (refl, refl)
fault_quiet k (Act.List q) d cs f = (refl, refl)
fault_quiet k Act.Commit d cs f = (refl, refl)
fault_quiet k _ d cs f = none_some f

pub record IsCommitBy (a : Act) (r : Reply) (by : Option ℕ) (s : ℕ) : Type 0 where
  pub act : a ≡ Act.Commit
  pub reply : r ≡ Reply.Commit Commit.Committed
  pub session : by ≡ Some s

pub commit_act : (a : Act) (r : Reply) (by : Option ℕ) (s : ℕ) → committer a r by ≡ Some s → IsCommitBy a r by s
commit_act Act.Commit (Reply.Commit Commit.Committed) by s e = record { act = refl; reply = refl; session = e }
commit_act _ _ by s e = none_some e

module _ (script : Script) (start : Tables) (k : Key) (h : Journal) (e : Entry) (rw_k : strategy script k.entity ≡ Strategy.ReadWrite)
    (n : is_restart e.act ≡ false) (reply : IsReply script (Some start) h e) (removes : (x : Touch) → touch k e ≡ Some x → is_remove e.act ≡ false) where
  pub effect_of : (x : Touch) → touch k e ≡ Some x → Effect script.timeout k h e.act x
  effect_of x t = elim reply [
    | inl q ↦ effect script start k h rw_k (unwrap_or e.session 0) e.tick e.act x (removes x t)
        (subst (λ z. option_and_then (λ j. touch_at k j e.act z) (key_in e.act) ≡ Some x) q t)
    | inr f ↦ no_fault k e.act e.reply e.reply (changes (unwrap_or e.session 0) h) x t f
  ]

  pub rest_of : touch k e ≡ None → (takes k e.act ≡ false) × (gives_back k e.act ≡ false)
  rest_of t = elim reply [
    | inl q ↦ untouched script start k h (unwrap_or e.session 0) e.tick e.act (subst (λ z. option_and_then (λ j. touch_at k j e.act z) (key_in e.act) ≡ None) q t)
    | inr f ↦ fault_quiet k e.act e.reply (changes (unwrap_or e.session 0) h) f
  ]

  pub kept_of : (t : Option Touch) → touch k e ≡ t → IsKept script.timeout (history k h) → IsKept script.timeout (history k (e ∷ h))
  kept_of None p w = rw (history_step k e h n, p) w
  kept_of (Some x) p w = rw (history_step k e h n, p) (to_kept script k h e x (effect_of x p), w)

module _ (script : Script) (start : Tables) (k : Key) (h : Journal) (e : Entry) (rw_k : strategy script k.entity ≡ Strategy.ReadWrite)
    (n : is_restart e.act ≡ false) (reply : IsReply script (Some start) h e) (o : IsOrderly start k h e) where
  pub move_of : (t : Option Touch) → touch k e ≡ t → ((x : Touch) → touch k e ≡ Some x → is_calm x ≡ true) → IsKept script.timeout (history k h) →
      Move script.timeout e.tick (view_of script start k h) (view_of script start k (e ∷ h))
  move_of None p c w = let r : (takes k e.act ≡ false) × (gives_back k e.act ≡ false) = rest_of script start k h e rw_k n reply o.removes p in to_rest script start k h e n o p r.0 r.1
  move_of (Some x) p c w =
      to_move script start k h e n o x (c x p)
      (slot_touched script k e h x n p (to_kept script k h e x (effect_of script start k h e rw_k n reply o.removes x p), w))
      (effect_of script start k h e rw_k n reply o.removes x p)

  pub follows : IsOrdered (e ∷ h) → Follows e.tick (view_of script start k h) (view_of script start k (e ∷ h))
  follows ord = record {
    known = λ s b a z. by_begin s b (tested (is_by s e && is_begin e.act)) a z;
    later = λ s b a z. seen_before start k s b e h ord z;
    deleted = λ d. rw n (or_right (commits (deletes_key k) h e) (was_deleted k h) d);
  }
    where
      by_begin : (s : ℕ) (b : Row) → Tested (is_by s e && is_begin e.act) → is_open s (e ∷ h) ≡ true → Seen start k s b (e ∷ h) →
          (row_at (committed start (e ∷ h)) k ≡ Some b) ⊎ ((is_open s h ≡ true) × Seen start k s b h × (time s (e ∷ h) ≡ time s h))
      by_begin s b (inl p) a z = let g : ⊥ = rw p at z in absurd g
      by_begin s b (inr p) a z =
          let g : ((is_by s e ≡ true) × (row_at (committed start (e ∷ h)) k ≡ Some b)) ⊎ Seen start k s b h = rw p at z in
          elim g [ inl x ↦ inl x.1 | inr x ↦ inr (open_before s e.session e.act (is_open s h) p a, x, time_same s e h p) ]

  pub quiet : committer e.act e.reply e.session ≡ None → IsQuiet (view_of script start k h) (view_of script start k (e ∷ h))
  quiet c = record {
    row = rw c;
    done = λ s i. (o.steady c s i).0;
    last = λ s i. (o.steady c s i).1;
  }

  module _ (s : ℕ) (c : committer e.act e.reply e.session ≡ Some s) where
    said : IsCommitBy e.act e.reply e.session s
    said = commit_act e.act e.reply e.session s c

    by_s : is_by s e ≡ true
    by_s = rw said.session (eq-eqb s s refl)

    by_other : (t : ℕ) → (t ≡ s → ⊥) → is_by t e ≡ false
    by_other t d = rw said.session (ne_eqb s t (λ q. d (sym q)))

    no_touch : touch k e ≡ None
    no_touch = rw said.act refl

    not_free : (b : Bool) → cond b None (Some (Reply.Commit Commit.Fault)) ≡ Some (Reply.Commit Commit.Committed) → ⊥
    not_free true f = none_some f
    not_free false f = let g : Reply.Commit Commit.Fault ≡ Reply.Commit Commit.Committed = some_same f in absurd (cc)

    applied : commit_answer (changes s h) (committed start h) ≡ Commit.Committed
    applied = elim reply [
      | inl q ↦ let g : Reply.Commit Commit.Committed ≡ reply_of script start h (unwrap_or (Some s) 0) e.tick Act.Commit =
          subst (λ r. r ≡ reply_of script start h (unwrap_or (Some s) 0) e.tick Act.Commit) said.reply
          (subst (λ a. e.reply ≡ reply_of script start h (unwrap_or (Some s) 0) e.tick a) said.act
          (subst (λ b. e.reply ≡ reply_of script start h (unwrap_or b 0) e.tick e.act) said.session q)) in
          same_commit g
      | inr f ↦ let g : fault_of (changes (unwrap_or e.session 0) h) Act.Commit ≡ Some (Reply.Commit Commit.Committed) =
          subst (λ r. fault_of (changes (unwrap_or e.session 0) h) Act.Commit ≡ Some r) said.reply
          (subst (λ a. fault_of (changes (unwrap_or e.session 0) h) a ≡ Some e.reply) said.act f) in
          absurd (not_free (is_empty (changes (unwrap_or e.session 0) h)) g)
    ]
      where
        same_commit : {x : Commit} → Reply.Commit Commit.Committed ≡ Reply.Commit x → x ≡ Commit.Committed
        same_commit g = cc

    row_is : row_at (committed start (e ∷ h)) k ≡ left_by (last_on k (changes s h)) (row_at (committed start h) k)
    row_is = rw c (row_at_changes (changes s h) (committed start h) k)

    last_is : last_row k s (e ∷ h) ≡ option_and_then row_left (last_on k (changes s h))
    last_is = rw (by_s, said.act) refl

    left_same : (z : Change) → last_on k (changes s h) ≡ Some z → row_at (committed start (e ∷ h)) k ≡ last_row k s (e ∷ h)
    left_same z p =
        let a : row_at (committed start (e ∷ h)) k ≡ row_left z = row_is ∙ rw p refl in
        let b : last_row k s (e ∷ h) ≡ row_left z = last_is ∙ rw p refl in
        a ∙ sym b

    commits_here : (p : Change → Bool) → commits p h e ≡ list_any p (changes s h)
    commits_here p = rw c refl

    changed : (d : Change) → first_on k (changes s h) ≡ Some d → (r : Row) → row_at (committed start h) k ≡ Some r →
        AreSteps k (changes s h) → In s (holders k h) → Commits s (view_of script start k h) (view_of script start k (e ∷ h))
    changed d p r m st i =
        let z : (z : Change) × (last_on k (changes s h) ≡ Some z) = first_some k (changes s h) d p in
        let u : IsUp k (changes s h) r (row_at (after_changes (changes s h) (committed start h)) k) =
        goes_up k (changes s h) (committed start h) r applied st m in
        let same : row_at (committed start (e ∷ h)) k ≡ row_at (after_changes (changes s h) (committed start h)) k = rw c refl in
        Commits.Changes r m i (left_same z.0 z.1) (λ x q. u.newer x (sym same ∙ q))
        (λ q. rw n (or_left (commits (deletes_key k) h e) (was_deleted k h) (commits_here (deletes_key k) ∙ u.gone (sym same ∙ q))))

    row_of_commit : (commits (inserts_key k) h e && was_deleted k h) ≡ false → (d : Option Change) → first_on k (changes s h) ≡ d →
        Meets k d (row_at (committed start h) k) → IsReady k h s d → Commits s (view_of script start k h) (view_of script start k (e ∷ h))
    row_of_commit once None p m r =
        let z : last_on k (changes s h) ≡ None = first_none k (changes s h) p in
        Commits.Passes (row_is ∙ rw z refl) (last_is ∙ rw z refl)
    row_of_commit once (Some (Change.Insert j x)) p m r =
        let z : (z : Change) × (last_on k (changes s h) ≡ Some z) = first_some k (changes s h) (Change.Insert j x) p in
        let i : commits (inserts_key k) h e ≡ true = commits_here (inserts_key k) ∙ first_inserts k (changes s h) j x p in
        let w : was_deleted k h ≡ false = rw i at once in
        Commits.Adds m w (left_same z.0 z.1)
    row_of_commit once (Some (Change.Update j v x)) p m r = changed (Change.Update j v x) p m.0 m.1 r.0 r.1
    row_of_commit once (Some (Change.Delete j v)) p m r = changed (Change.Delete j v) p m.0 m.1 r.0 r.1

    pub commit_of : (commits (inserts_key k) h e && was_deleted k h) ≡ false → IsCommit s (view_of script start k h) (view_of script start k (e ∷ h))
    commit_of once = record {
      slot = slot_rests script k e h n no_touch;
      holders = holders_same k e h n (rw said.act refl) (rw said.act refl);
      not_yet = (o.commits s c).0;
      now = rw (by_s, said.act, said.reply) refl;
      done = λ t d. rw (by_other t d) refl;
      last = λ t i d w. rw (by_other t d) refl;
      row = row_of_commit once (first_on k (changes s h)) refl (first_meets k (changes s h) (committed start h) applied) (o.commits s c).1;
    }

-- the whole

pub ordered : (script : Script) (start : Tables) (h : Journal) → IsLegal script (Some start) h → IsOrdered h
ordered script start [] l = tt
ordered script start (e ∷ h) l = (l.1.tick, ordered script start h l.0)

nobody : (script : Script) (start : Tables) (k : Key) (h : Journal) → slot script.timeout k h ≡ Slot.Vacant → holders k h ≡ [] →
    ((s : ℕ) → is_open s h ≡ true → ⊥) → IsCoherent (view_of script start k h)
nobody script start k h v w f = record {
  holding = rw (v, w) (record { item = tt; count = refl; single = tt; lone = tt });
  grown = λ s b a z. absurd (f s a);
  safe = λ s b a z. absurd (f s a);
}

pub vacant_at_first : (timeout : ℕ) → slot_from timeout [] ≡ Slot.Vacant
unfolding slot_from
vacant_at_first timeout = refl

module _ (script : Script) (start : Tables) (k : Key) (rw_k : strategy script k.entity ≡ Strategy.ReadWrite) where
  -- the history is kept, if no item of the key is removed
  pub kept_history : ((h : Journal) (e : Entry) → IsLegal script (Some start) (e ∷ h) → (x : Touch) → touch k e ≡ Some x → is_remove e.act ≡ false) →
      (h : Journal) → IsLegal script (Some start) h → IsKept script.timeout (history k h)
  kept_history f [] l = tt
  kept_history f (e ∷ h) l = by_restart (tested (is_restart e.act)) (kept_history f h l.0)
    where
      by_restart : Tested (is_restart e.act) → IsKept script.timeout (history k h) → IsKept script.timeout (history k (e ∷ h))
      by_restart (inl r) w = rw r tt
      by_restart (inr n) w = kept_of script start k h e rw_k n l.1.reply (f h e l) (touch k e) refl w

  pub coherent_at_first : IsCoherent (view_of script start k [])
  coherent_at_first = nobody script start k [] (vacant_at_first script.timeout) refl (λ u a. false≢true a)

  -- after a restart
  pub coherent_anew : (h : Journal) (e : Entry) → is_restart e.act ≡ true → IsCoherent (view_of script start k (e ∷ h))
  coherent_anew h e r = nobody script start k (e ∷ h) (rw r (vacant_at_first script.timeout)) (rw r refl)
      (λ u a. closed u e.session e.act (is_open u h) r a)

  -- a sound key stays coherent by an orderly entry
  pub coherent_next : (h : Journal) (e : Entry) → IsLegal script (Some start) (e ∷ h) → is_restart e.act ≡ false → IsOrderly start k h e → WasSound k h e →
      IsKept script.timeout (history k h) → IsCoherent (view_of script start k h) → IsCoherent (view_of script start k (e ∷ h))
  coherent_next h e l n o w i c = goes_on (committer e.act e.reply e.session) refl
    where
      goes_on : (b : Option ℕ) → committer e.act e.reply e.session ≡ b → IsCoherent (view_of script start k (e ∷ h))
      goes_on None p =
          kept script.timeout e.tick (view_of script start k h) (view_of script start k (e ∷ h))
          (follows script start k h e rw_k n l.1.reply o (ordered script start (e ∷ h) l)) (quiet script start k h e rw_k n l.1.reply o p) c
          (move_of script start k h e rw_k n l.1.reply o (touch k e) refl w.calm i)
      goes_on (Some t) p =
          kept_commit e.tick t (view_of script start k h) (view_of script start k (e ∷ h))
          (follows script start k h e rw_k n l.1.reply o (ordered script start (e ∷ h) l))
          (commit_of script start k h e rw_k n l.1.reply o t p w.once) c
