-- Each entry of a legal journal with bulk lines is a step of the key's protocol.
use Rattle.std.specs.Prelude.{option_and_then}
use Rattle.std.proofs.Common.{◌≡◌, ℕ, ◌≤◌, ◌⊎◌, inl, inr, Bool, true, false, cond, ◌&&◌, List, ◌∷◌, Some, None, Option, refl, ap, sym, ◌∙◌, subst, eq-eqb}
use Rattle.std.proofs.lemmas.Bool.{true≢false, false≢true, or_left, eqb-true, ne_eqb}
use Rattle.std.specs.List.{list_all, list_any}
use Rattle.hib_base.specs.Tables.{Tables, row_at, row_left, first_on, last_on, after_changes, commit_answer}
use Rattle.hib_base.proofs.Tables.{Tested, tested, same_key_refl, row_at_changes, left_by}
use Rattle.hib_journal.specs.Types.{Key, Row, Change, Commit, Strategy, Script, Act, Reply, Updated, Entry}
use Rattle.hib_journal.specs.Sessions.{Journal, own, is_by, is_session, is_open, is_begun, changes, changes_in, time, time_in, floor_in, is_restart}
use Rattle.hib_journal.specs.Slot.{Touch, LockState, Slot, slot, history, touch_at, touch_here, key_in, evicted_in}
use Rattle.hib_journal.specs.Regions
use Rattle.hib_journal.specs.Next.{strategy, is_cached, is_in}
use Rattle.hib_journal.specs.Legal
use Rattle.hib_journal.specs.Legal.{is_outside}
use Rattle.hib_journal.specs.Coherence.{holders, takes, gives_back, is_done, done_in, last_row}
use Rattle.hib_journal.specs.Sound.{is_calm, inserts_key, deletes_key}
use Rattle.hib_journal.proofs.Open.{begun_open}
use Rattle.hib_journal.proofs.Slots.{touched}
use Rattle.hib_law.proofs.Guarded.{In}
use Rattle.hib_law.proofs.Touches.{here_or_victim}
use Rattle.hib_law.proofs.Effects.{Effect, floor_named}
use Rattle.hib_law.proofs.Views.{slot_touched, slot_rests, holders_same, holders_more, holders_less, takes_not_back, gives_back_act, to_kept}
use Rattle.hib_law.proofs.Coherent.{first_none, first_inserts}
use Rattle.hib_law.proofs.Commits.{AreSteps, Meets, first_meets, IsUp, goes_up}
use Rattle.hib_law.proofs.Floors.{floors_le_by}
use Rattle.hib_law.proofs.HeldRows.{HasRead}
use Rattle.hib_law.proofs.Holders.{holds_holder_by, holder_holds_by}
use Rattle.hib_law.proofs.Orderly.{Kind, kind}
use Rattle.hib_law.proofs.Working
use Rattle.hib_law.proofs.Working.{holds, IsReadyIn}
use Rattle.hib_law.proofs.Basics.{none_some, some_same}
use Rattle.hib_bulk_law.specs.Types.{BulkDef, BulkAct, BulkReply, BulkEntry}
use Rattle.hib_bulk_law.specs.Plain.{Bulked, plain, plain_reply, refusal_of}
use Rattle.hib_bulk_law.specs.Rows.{line, committed, row_now, bulked}
use Rattle.hib_bulk_law.specs.Wide.{is_shut, is_item_shut, is_old}
use Rattle.hib_bulk_law.specs.Acts.{swept_for, steps_of}
use Rattle.hib_bulk_law.specs.Legal.{IsStep, IsLegal, bulk_answer, offered, given_back}
use Rattle.hib_bulk_law.specs.Sound.{was_deleted, deletes, commits}
use Rattle.hib_bulk_law.proofs.Sight.{Sight, IsStill, Move, AreOthers, Commits, Step}
use Rattle.hib_bulk_law.proofs.Expected
use Rattle.hib_bulk_law.proofs.Expected.{expected, is_pre, is_unchanged, IsExpected}
use Rattle.hib_bulk_law.proofs.Entries.{plain_of, Doer, doer, ComesAs, act_is}
use Rattle.hib_bulk_law.proofs.Owns.{allowed, are_allowed, are_floored, are_ordered, expected_allowed, line_act, line_plain, plain_next}
use Rattle.hib_bulk_law.proofs.Touching.{Answer, answered, wide_answer, WideAnswer, offered_refused, effect_of, rest_of}
use Rattle.hib_bulk_law.proofs.Turned.{RowKind, row_kind, rows_commit, rows_rest}
use Rattle.hib_bulk_law.proofs.Views.{sight_at, sight, not_outside, unkilled, inside_runs, kept_history, calm_touch}
use Rattle.hib_bulk_law.proofs.Committing.{offered_none, cond_none, update_id, not_given, and_none, floor_own, Expects, first_expects, Reads, Copied, commit_reply, done_seen}

-- an act of a session or of a line

module _ (script : Script) (lines : List BulkDef) (start : Tables) (k : Key) (rw_k : strategy script k.entity ≡ Strategy.ReadWrite) (h : Bulked) (e : BulkEntry)
    (l : IsLegal script lines (Some start) h) (t : IsStep script lines (Some start) h e) (a : Act) (q : e.act ≡ BulkAct.Plain a)
    (reads : Reads script lines start k h) (copied : Copied script lines start k h) where
  abbrev G : Journal
  G = plain h

  abbrev D : Entry
  D = plain_of e a

  abbrev S : ℕ
  S = e.session

  abbrev M : Journal
  M = own S G

  abbrev X : Sight
  X = sight script lines start k h

  abbrev Y : Sight
  Y = sight_at script lines start k (e ∷ h) (D ∷ G)

  abbrev Here : Act → Option Touch
  Here b = option_and_then (λ j. touch_at k j b (plain_reply b e.reply)) (key_in b)

  n : is_restart a ≡ false
  n = inside_runs a (not_outside script lines (Some start) h e a l t q)

  al : (b : Act) → a ≡ b → Working.Allowed script k M b
  al b p = subst (λ z. Working.Allowed script k M z) p (allowed script lines start k rw_k h e a l t q)

  acts : (b : Act) → a ≡ b → e.act ≡ BulkAct.Plain b
  acts b p = q ∙ ap (λ z. BulkAct.Plain z) p

  pub answer : (b : Act) → a ≡ b → Answer script lines (committed script lines start h) h e b
  answer b p = answered script lines (committed script lines start h) h e b t.reply (acts b p)

  by_s : is_by S D ≡ true
  by_s = eq-eqb S S refl

  by_other : (u : ℕ) → (u ≡ S → ⊥) → is_by u D ≡ false
  by_other u d = ne_eqb S u (λ p. d (sym p))

  open_now : is_begun M ≡ true → is_open S G ≡ true
  open_now b = begun_open S G (unkilled script lines (Some start) S h l) ∙ b

  holder : is_begun M ≡ true → holds k M ≡ true → In S (holders k G)
  holder b w = holds_holder_by script k S G (are_allowed script lines start k rw_k h l) (open_now b) w

  -- only a session does anything but begin and end
  by_session : (b : Act) → a ≡ b → (b ≡ Act.Begin → ⊥) → (b ≡ Act.End → ⊥) → line script lines S ≡ None
  by_session b p x y = by_doer (doer script lines h e t.act)
    where
      no_line : (a ≡ Act.Begin) ⊎ (a ≡ Act.End) → ⊥
      no_line (inl z) = x (sym p ∙ z)
      no_line (inr z) = y (sym p ∙ z)

      by_doer : Doer script lines h e → line script lines S ≡ None
      by_doer (Doer.Session c v w z) = z
      by_doer (Doer.Line d v w) = absurd (no_line (line_plain (is_cached script d.entity) d.entity S (steps_of S h) e.act a (line_act script S (steps_of S h) d e.act w) q))

  pub ex : (b : Act) → a ≡ b → (b ≡ Act.Begin → ⊥) → (b ≡ Act.End → ⊥) → Expected.Allowed k M b
  ex b p x y = subst (λ z. Expected.Allowed k M z) p (expected_allowed script lines start k rw_k h e a l t q (by_session b p x y))

  -- no act comes over an old item of its key
  pub not_old : (j : Key) → swept_for a ≡ Some j → is_old script j h ≡ false
  not_old j p = by_doer (doer script lines h e t.act)
    where
      none : (a ≡ Act.Begin) ⊎ (a ≡ Act.End) → is_old script j h ≡ false
      none (inl z) = none_some (sym (ap swept_for z) ∙ p)
      none (inr z) = none_some (sym (ap swept_for z) ∙ p)

      swept : (b : Act) → ComesAs script h b e.act → a ≡ b → is_old script j h ≡ false
      swept b (ComesAs.Itself u f) z = f j (sym (ap swept_for z) ∙ p)
      swept b (ComesAs.Sweep i u f) z = let g : BulkAct.Plain a ≡ BulkAct.Sweep i = sym q ∙ u in absurd (cc)

      by_doer : Doer script lines h e → is_old script j h ≡ false
      by_doer (Doer.Session b v w z) = let c : ComesAs script h b e.act = act_is script h b e.act w in swept b c (plain_next script h a b e.act c q)
      by_doer (Doer.Line d v w) = none (line_plain (is_cached script d.entity) d.entity S (steps_of S h) e.act a (line_act script S (steps_of S h) d e.act w) q)

  pub item_free : (r : Row) (u : ℕ) → swept_for a ≡ Some k → slot script.timeout k G ≡ Slot.Item r u → X.shut u → ⊥
  item_free r u p z w =
      let f : is_item_shut k.entity h (slot script.timeout k G) ≡ false = not_old k p in
      let g : is_shut k.entity h u ≡ false = subst (λ o. is_item_shut k.entity h o ≡ false) z f in
      true≢false (sym w.1 ∙ g)

  -- what is stored is not shut out

  refused : (b : Act) (x : Touch) (u : ℕ) → a ≡ b → key_in b ≡ Some k → Here b ≡ Some x → bulk_answer script lines h S b ≡ offered k.entity h u →
      touch_here b (refusal_of b) ≡ None → evicted_in (refusal_of b) ≡ None → Legal.fault_of (changes S G) b ≡ None → is_shut k.entity h u ≡ false
  refused b x u p i z w y v f = by_answer (answer b p)
    where
      by_answer : Answer script lines (committed script lines start h) h e b → is_shut k.entity h u ≡ false
      by_answer (Answer.ByPlain m r) = offered_none k.entity u h (sym w ∙ m)
      by_answer (Answer.ByFault r m c) = none_some (sym f ∙ m)
      by_answer (Answer.ByWide r m c) =
          let o : plain_reply b r ≡ refusal_of b = offered_refused k.entity u h b r (sym w ∙ m) in
          let g : option_and_then (λ j. touch_at k j b (plain_reply b e.reply)) (Some k) ≡ Some x =
          subst (λ s. option_and_then (λ j. touch_at k j b (plain_reply b e.reply)) s ≡ Some x) i z in
          let s : touch_at k k b (refusal_of b) ≡ Some x = subst (λ s. touch_at k k b s ≡ Some x) (ap (plain_reply b) c ∙ o) g in
          elim (here_or_victim k k b (refusal_of b) x s) [ inl d ↦ none_some (sym y ∙ d.1) | inr d ↦ none_some (sym v ∙ d.1) ]

  stored_update : (i : ℕ) (r r2 : Row) (late : Bool) → a ≡ Act.AfterUpdate k i r → Here (Act.AfterUpdate k i r) ≡ Some (Touch.Stores r2 late) →
      (is_shut k.entity h i ≡ false) × (Regions.after_update (slot script.timeout k G) i ≡ Updated.Stored)
  stored_update i r r2 late p z = by_answer (answer (Act.AfterUpdate k i r) p)
    where
      is_stored : (u : Updated) → touch_here (Act.AfterUpdate k i r) (Reply.Updated u) ≡ Some (Touch.Stores r2 late) → u ≡ Updated.Stored
      is_stored Updated.Stored w = refl
      is_stored (Updated.Shared m) w = let g : Touch.Releases m ≡ Touch.Stores r2 late = some_same w in absurd (cc)
      is_stored Updated.Expired w = let g : Touch.Expires ≡ Touch.Stores r2 late = some_same w in absurd (cc)

      here : (u : Updated) → plain_reply (Act.AfterUpdate k i r) e.reply ≡ Reply.Updated u → u ≡ Updated.Stored
      here u y =
          let g : touch_at k k (Act.AfterUpdate k i r) (Reply.Updated u) ≡ Some (Touch.Stores r2 late) = subst (λ s. touch_at k k (Act.AfterUpdate k i r) s ≡ Some (Touch.Stores r2 late)) y z in
          elim (here_or_victim k k (Act.AfterUpdate k i r) (Reply.Updated u) (Touch.Stores r2 late) g) [ inl d ↦ is_stored u d.1 | inr d ↦ none_some d.1 ]

      wide : (o : WideAnswer script h (Act.AfterUpdate k i r) e.reply) → (is_shut k.entity h i ≡ false) × (Regions.after_update (slot script.timeout k G) i ≡ Updated.Stored)
      wide (WideAnswer.Ends c) = absurd (cc)
      wide (WideAnswer.Gets j u c d) = absurd (cc)
      wide (WideAnswer.Puts j x u v c d) = absurd (cc)
      wide (WideAnswer.Inserts j x u c d) = absurd (cc)
      wide (WideAnswer.Updates j m x c d) =
          absurd (not_given (Regions.unlock (slot script.timeout j G) m) (here (given_back (Regions.unlock (slot script.timeout j G) m)) (ap (plain_reply (Act.AfterUpdate k i r)) d)))

      by_answer : Answer script lines (committed script lines start h) h e (Act.AfterUpdate k i r) →
          (is_shut k.entity h i ≡ false) × (Regions.after_update (slot script.timeout k G) i ≡ Updated.Stored)
      by_answer (Answer.ByPlain m y) = (
        cond_none (is_shut k.entity h i) (BulkReply.Plain (Reply.Updated (given_back (Regions.unlock (slot script.timeout k G) i)))) m,
        here (Regions.after_update (slot script.timeout k G) i) (ap (plain_reply (Act.AfterUpdate k i r)) y),
      )
      by_answer (Answer.ByFault y m c) = none_some m
      by_answer (Answer.ByWide y m c) =
          wide (subst (λ z. WideAnswer script h (Act.AfterUpdate k i r) z) (sym c) (wide_answer script lines h S (Act.AfterUpdate k i r) y m))

  -- a touch of a calm key is a move

  abbrev Moves : Type 0
  Moves = Move script.timeout e.tick X Y

  same_holders : (b : Act) → a ≡ b → takes k b ≡ false → gives_back k b ≡ false → holders k (D ∷ G) ≡ holders k G
  same_holders b p y z = holders_same k D G n (rw p y) (rw p z)

  at_act : (b : Act) (x : Touch) → a ≡ b → Here a ≡ Some x → Here b ≡ Some x
  at_act b x p z = subst (λ o. Here o ≡ Some x) p z

  move_stores : (r : Row) (late : Bool) → late ≡ false → Here a ≡ Some (Touch.Stores r late) → slot script.timeout k (D ∷ G) ≡ Slot.Item r e.tick →
      Effect script.timeout k G a (Touch.Stores r late) → Moves
  move_stores r late c z w (inl (u, f, p, (o, v, y))) =
      let b : HasRead k r M × (u ≡ time_in M) × (f ≡ floor_in M) × (is_begun M ≡ true) × (is_in k (changes_in M) ≡ false) = al (Act.Put k r u f) p (same_key_refl k) in
      let shut : is_shut k.entity h u ≡ false = refused (Act.Put k r u f) (Touch.Stores r late) u p refl (at_act (Act.Put k r u f) (Touch.Stores r late) p z) refl refl refl refl in
      Move.Puts S r o v w (same_holders (Act.Put k r u f) p refl refl) (open_now b.3) (reads S r (open_now b.3) b.0 b.4)
      (λ x. true≢false (sym x.1 ∙ subst (λ m. is_shut k.entity h m ≡ false) b.1 shut)) (rw (← b.1) (rw c at y))
  move_stores r late c z w (inr (inl (f, p, y))) =
      let b : (done_in M ≡ true) × (option_and_then row_left (last_on k (changes_in M)) ≡ Some r) × (f ≡ floor_in M) × (is_begun M ≡ true) = al (Act.AfterInsert k r f) p (same_key_refl k) in
      let shut : is_shut k.entity h (time S G) ≡ false =
      refused (Act.AfterInsert k r f) (Touch.Stores r late) (time S G) p refl (at_act (Act.AfterInsert k r f) (Touch.Stores r late) p z) refl refl refl refl in
      Move.Inserts S r w (same_holders (Act.AfterInsert k r f) p refl refl) (open_now b.3) (done_seen script lines start k rw_k S r h l b.0 b.1)
      (λ x. true≢false (sym x.1 ∙ shut)) y
  move_stores r late c z w (inr (inr (i, p, y))) =
      let b : (holds k M ≡ true) × (done_in M ≡ true) × (option_and_then row_left (last_on k (changes_in M)) ≡ Some r) × (is_begun M ≡ true)
      × (i ≡ Rattle.hib_journal.specs.Next.lock_id k M) = al (Act.AfterUpdate k i r) p (same_key_refl k) in
      let s : (is_shut k.entity h i ≡ false) × (Regions.after_update (slot script.timeout k G) i ≡ Updated.Stored) =
      stored_update i r r late p (at_act (Act.AfterUpdate k i r) (Touch.Stores r late) p z) in
      let u : (l : LockState) × (slot script.timeout k G ≡ Slot.Lock l) × (l.shared ≡ false) × (l.id ≡ i) = update_id (slot script.timeout k G) i s.1 in
      let v : In S (holders k G) = holder b.3 b.0 in
      Move.Updates S r u.0 w (holders_less k D G S n (rw p refl) (rw p (same_key_refl k)) refl) u.1 u.2 v b.1 b.2
      (λ x. true≢false (sym x.1 ∙ subst (λ m. is_shut k.entity h m ≡ false) (sym u.3) s.0))

  holder_of : gives_back k a ≡ true → In S (holders k G)
  holder_of g = elim (gives_back_act k a g) [
    | inl x ↦
        let b : (holds k M ≡ true) × (is_begun M ≡ true) × (x.0 ≡ Rattle.hib_journal.specs.Next.lock_id k M) = al (Act.Unlock k x.0) x.1 (same_key_refl k) in holder b.1 b.0
    | inr x ↦
        let b : (holds k M ≡ true) × (done_in M ≡ true) × (option_and_then row_left (last_on k (changes_in M)) ≡ Some x.1) × (is_begun M ≡ true)
        × (x.0 ≡ Rattle.hib_journal.specs.Next.lock_id k M) = al (Act.AfterUpdate k x.0 x.1) x.2 (same_key_refl k) in holder b.3 b.0
  ]

  floors : (j : Key) (f : ℕ) → key_in a ≡ Some j → j.entity ≡ k.entity → floor_named a ≡ Some f → (u : ℕ) → is_open u G ≡ true → f ≤ time u G
  floors j f p y g u o =
      let rw_j : strategy script j.entity ≡ Strategy.ReadWrite = subst (λ z. strategy script z ≡ Strategy.ReadWrite) (sym y) rw_k in
      let b : (f ≡ floor_in M) × (is_begun M ≡ true) = floor_own script j f M a p g (allowed script lines start j rw_j h e a l t q) in
      subst (λ z. z ≤ time u G) (sym b.0) (floors_le_by G (are_ordered script lines start k h l) (are_floored script lines start k h l) S u (open_now b.1) o)

  to_move : (x : Touch) → is_calm x ≡ true → Here a ≡ Some x → slot script.timeout k (D ∷ G) ≡ touched script.timeout x e.tick (slot script.timeout k G) →
      Effect script.timeout k G a x → Moves
  to_move (Touch.Stores r true) c z w f = absurd (false≢true c)
  to_move (Touch.Stores r false) c z w f = move_stores r false refl z w f
  to_move (Touch.Locks v) c z w f =
      let b : (done_in M ≡ false) × (f.0 ≡ floor_in M) × (is_begun M ≡ true) × ((v ≡ None) ⊎ ((b : Row) × HasRead k b M × (b.version ≡ v)))
      × (is_in k (changes_in M) ≡ false) × (holds k M ≡ false) = al (Act.Lock k v f.0) f.1 (same_key_refl k) in
      let x : (v ≡ None) ⊎ (expected k M ≡ Some v) = ex (Act.Lock k v f.0) f.1 (λ y. cc) (λ y. cc) (same_key_refl k) in
      Move.Locks S v w (holders_more k D G S n (rw (f.1) (same_key_refl k)) refl) (rw (by_s, f.1) (b.0))
      (λ r u y. (λ s. item_free r u (ap swept_for (f.1)) y s, λ o s. copied S o (still o s)))
      (λ y. elim x [ inl z ↦ inl z | inr z ↦ inr (λ u s. some_same (sym (still u s) ∙ z)) ])
    where
      still : (u : Option ℕ) → expected k (own S (D ∷ G)) ≡ Some u → expected k M ≡ Some u
      still u y = rw (by_s, f.1) at y
  to_move (Touch.Releases m) c z w f =
      Move.Releases S m w (holders_less k D G S n (takes_not_back k a f.0) f.0 refl) f.1 (holder_of f.0)
  to_move Touch.Evicts c z w f = absurd (true≢false (sym (ap is_outside (f.0)) ∙ not_outside script lines (Some start) h e a l t q))
  to_move Touch.Expires c z w f = absurd (false≢true c)
  to_move Touch.Leaves c z w f = Move.Leaves f.0 w (holders_same k D G n f.3 f.4) f.2 (floors f.5.0 f.0 f.5.1 f.5.2 f.1)

  move_of : (o : Option Touch) → Here a ≡ o → list_all (λ x. is_calm x.0) (history k (D ∷ G)) ≡ true → Moves
  move_of None p c =
      let r : (takes k a ≡ false) × (gives_back k a ≡ false) = rest_of script lines start k rw_k h e l t a q p in
      Move.Rests (slot_rests script k D G n p) (holders_same k D G n r.0 r.1)
  move_of (Some x) p c =
      let f : Effect script.timeout k G a x = effect_of script lines start k rw_k h e l t a x q p in
      to_move x (calm_touch k D G n c x p) p
      (slot_touched script k D G x n p (to_kept script k G D x f, kept_history script lines start k rw_k h l)) f

  -- of the holders nothing changes, if nothing is committed
  expected_on : (u : ℕ) → holds k (own u G) ≡ true → expected k (D ∷ own u G) ≡ expected k (own u G)
  expected_on u w = rw (w, and_none (is_pre a) (is_unchanged (first_on k (changes_in (own u G))))) refl

  still : Rattle.hib_bulk_law.specs.Rows.committer S e.act e.reply ≡ None → (u : ℕ) → In u (holders k G) → IsStill X Y u
  still c u i = by_session (tested (is_by u D))
    where
      held : holds k (own u G) ≡ true
      held = holder_holds_by script k u G (are_allowed script lines start k rw_k h l) i

      mine : is_by u D ≡ true → Working.Allowed script k (own u G) a → Kind a (plain_reply a e.reply) → IsStill X Y u
      mine b w (Kind.Begins x) = absurd (true≢false (sym held ∙ subst (λ z. Working.Allowed script k (own u G) z) x w))
      mine b w (Kind.Writes d x) = record {
        done = rw (b, x) refl;
        last = λ y.
            let f : Working.Allowed script k (own u G) (Act.Write d) = subst (λ z. Working.Allowed script k (own u G) z) x w in
            absurd (true≢false (sym y ∙ f.0));
        expects = λ y v z. sym (expected_on u held) ∙ rw b at z;
      }
      mine b w (Kind.Commits x y) =
          let r2 : e.reply ≡ BulkReply.Plain (Reply.Commit Commit.Committed) = commit_reply e.reply (subst (λ z. plain_reply z e.reply ≡ Reply.Commit Commit.Committed) x y) in
          let g : ◌≡◌ {A = Option ℕ} (Some S) None = rw (acts Act.Commit x, r2) at c in none_some (sym g)
      mine b w (Kind.Other x y z) = record {
        done = rw b (x (is_done u G));
        last = λ v. rw b (ap (λ cs. option_and_then row_left (last_on k cs)) (y (changes u G)));
        expects = λ v o s. sym (expected_on u held) ∙ rw b at s;
      }

      by_session : Tested (is_by u D) → IsStill X Y u
      by_session (inr b) = record { done = rw b refl; last = λ y. rw b refl; expects = λ y v z. rw b at z }
      by_session (inl b) =
          mine b (subst (λ z. Working.Allowed script k (own z G) a) (eqb-true e.session u b) (al a refl)) (kind a (plain_reply a e.reply))

  quiet : Rattle.hib_bulk_law.specs.Rows.changer e.act e.reply ≡ None → Rattle.hib_bulk_law.specs.Rows.committer S e.act e.reply ≡ None →
      list_all (λ x. is_calm x.0) (history k (D ∷ G)) ≡ true → Step script.timeout e.tick X Y
  quiet c d w = Step.Quiet (ap (λ z. row_at z k) (rows_rest script lines start h e c d)) (still d) (move_of (Here a) refl w)

  -- a commit

  module _ (p : a ≡ Act.Commit) (r : e.reply ≡ BulkReply.Plain (Reply.Commit Commit.Committed)) where
    applied : commit_answer (changes S G) (committed script lines start h) ≡ Commit.Committed
    applied = by_answer (answer Act.Commit p)
      where
        not_fault : (b : Bool) (y : Reply) → cond b None (Some (Reply.Commit Commit.Fault)) ≡ Some y → y ≡ Reply.Commit Commit.Committed → ⊥
        not_fault true y c f = none_some c
        not_fault false y c f = let g : Reply.Commit Commit.Fault ≡ Reply.Commit Commit.Committed = some_same c ∙ f in absurd (cc)

        same_plain : {x y : Reply} → BulkReply.Plain x ≡ BulkReply.Plain y → x ≡ y
        same_plain g = cc

        same_commit : {x y : Commit} → Reply.Commit x ≡ Reply.Commit y → x ≡ y
        same_commit g = cc

        by_answer : Answer script lines (committed script lines start h) h e Act.Commit → commit_answer (changes S G) (committed script lines start h) ≡ Commit.Committed
        by_answer (Answer.ByPlain m y) = same_commit (same_plain (sym y ∙ r))
        by_answer (Answer.ByFault y m c) = absurd (not_fault (Rattle.hib_journal.specs.Sessions.is_empty (changes S G)) y m (same_plain (sym c ∙ r)))
        by_answer (Answer.ByWide y m c) = none_some m

    rows_are : committed script lines start (e ∷ h) ≡ after_changes (changes S G) (committed script lines start h)
    rows_are = rows_commit script lines start h e (acts Act.Commit p) r

    row_is : row_now script lines start k (e ∷ h) ≡ left_by (last_on k (changes S G)) (row_now script lines start k h)
    row_is = ap (λ z. row_at z k) rows_are ∙ row_at_changes (changes S G) (committed script lines start h) k

    last_is : last_row k S (D ∷ G) ≡ option_and_then row_left (last_on k (changes S G))
    last_is = rw (by_s, p) refl

    left : (x : Row) → last_row k S (D ∷ G) ≡ Some x → row_now script lines start k (e ∷ h) ≡ Some x
    left x z = row_is ∙ left_some (last_on k (changes S G)) (row_now script lines start k h) (sym last_is ∙ z)
      where
        left_some : (o : Option Change) (y : Option Row) → option_and_then row_left o ≡ Some x → left_by o y ≡ Some x
        left_some None y z = none_some z
        left_some (Some c) y z = z

    commits_here : (f : Change → Bool) → commits f h e ≡ list_any f (changes S G)
    commits_here f = rw (acts Act.Commit p, r) refl

    deletes_here : deletes script lines start k h e ≡ list_any (deletes_key k) (changes S G)
    deletes_here = rw (acts Act.Commit p, r) refl

    b : (done_in M ≡ false) × IsReadyIn k M (first_on k (changes_in M)) × (is_begun M ≡ true)
    b = al Act.Commit p

    x : (Rattle.hib_journal.specs.Sessions.deferred M ≡ changes_in M) × IsExpected k M (first_on k (changes_in M))
    x = ex Act.Commit p (λ y. cc) (λ y. cc)

    changed : (d : Row) → row_now script lines start k h ≡ Some d → AreSteps k (changes S G) → holds k M ≡ true → expected k M ≡ Some d.version → Commits S X Y
    changed d m st w v =
        let u : IsUp k (changes S G) d (row_at (after_changes (changes S G) (committed script lines start h)) k) = goes_up k (changes S G) (committed script lines start h) d applied st m in
        let same : row_now script lines start k (e ∷ h) ≡ row_at (after_changes (changes S G) (committed script lines start h)) k = ap (λ z. row_at z k) rows_are in
        Commits.Changes d m (holder b.2 w) v (λ y z. u.newer y (sym same ∙ z))
        (λ z. or_left (deletes script lines start k h e) (was_deleted script lines start k h) (deletes_here ∙ u.gone (sym same ∙ z)))

    others : AreOthers S X Y
    others = λ u i d y w z. rw (by_other u d) at z

    row_of : (commits (inserts_key k) h e && was_deleted script lines start k h) ≡ false → (c : Option Change) → first_on k (changes S G) ≡ c →
        Meets k c (row_now script lines start k h) → Expects c (row_now script lines start k h) → IsReadyIn k M c → IsExpected k M c → Commits S X Y
    row_of once None f m v w y =
        Commits.Passes (row_is ∙ ap (λ o. left_by o (row_now script lines start k h)) (first_none k (changes S G) f)) others
    row_of once (Some (Change.Insert j z)) f m v w y =
        let i : commits (inserts_key k) h e ≡ true = commits_here (inserts_key k) ∙ first_inserts k (changes S G) j z f in
        let u : was_deleted script lines start k h ≡ false = rw i at once in
        Commits.Adds m u others
    row_of once (Some (Change.Update j o z)) f m v w y = changed v.0 v.1 w.0 w.1 (y ∙ ap Some v.2)
    row_of once (Some (Change.Delete j o)) f m v w y = changed v.0 v.1 w.0 w.1 (y ∙ ap Some v.2)

    commit : (commits (inserts_key k) h e && was_deleted script lines start k h) ≡ false → Step script.timeout e.tick X Y
    commit once = Step.Commit S (record {
      slot = slot_rests script k D G n (rw p refl);
      holders = holders_same k D G n (rw p refl) (rw p refl);
      not_yet = b.0;
      now = rw (by_s, p, r) refl;
      done = λ u i d. rw (by_other u d) refl;
      last = λ u i d y. rw (by_other u d) refl;
      left = left;
      row = row_of once (first_on k (changes S G)) refl (first_meets k (changes S G) (committed script lines start h) applied)
          (first_expects k (changes S G) (committed script lines start h) applied) b.1 x.1;
    })

  pub step_does : list_all (λ z. is_calm z.0) (history k (D ∷ G)) ≡ true → (commits (inserts_key k) h e && was_deleted script lines start k h) ≡ false → Step script.timeout e.tick X Y
  step_does c once = by_kind (row_kind S e.act e.reply)
    where
      by_kind : RowKind S e.act e.reply → Step script.timeout e.tick X Y
      by_kind (RowKind.Turns b m p r) = let g : BulkAct.Plain a ≡ BulkAct.Bulk b = sym q ∙ p in absurd (cc)
      by_kind (RowKind.Commits p r) = let g : BulkAct.Plain a ≡ BulkAct.Plain Act.Commit = sym q ∙ p in commit (cc) r once
      by_kind (RowKind.Rests p r) = quiet p r c
