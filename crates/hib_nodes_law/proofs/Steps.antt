-- A legal journal of two nodes as seen from one read-write key at one node: each entry is a move of the protocol, a fence, or a commit.
use Rattle.std.specs.Prelude.{option_and_then}
use Rattle.std.proofs.Common.{◌≡◌, ℕ, suc, ◌+◌, ◌≤◌, ◌⊎◌, inl, inr, Bool, true, false, cond, ◌==◌, ◌∷◌, Some, None, Option, refl, ap, sym, ◌∙◌, subst, arith}
use Rattle.std.proofs.lemmas.Bool.{true≢false, false≢true, eqb-true, ne_eqb}
use Rattle.hib_journal.specs.Types.{Key, Row, Change, Commit, Strategy, Script, Act, Reply, Unlocked, Locked}
use Rattle.hib_base.specs.Keys.{same_key}
use Rattle.hib_base.specs.Tables.{Tables, row_at, last_on, row_left}
use Rattle.hib_journal.specs.Sessions.{Journal, is_by, own, changes, changes_in, is_open, is_begun, time, time_in, floor, floor_in, committed, committer, is_restart}
use Rattle.hib_journal.specs.Slot.{Touch, Slot, slot, history, touch, key_in, touch_at}
use Rattle.hib_journal.specs.Regions
use Rattle.hib_journal.specs.Next.{strategy, is_in, lock_id}
use Rattle.hib_journal.specs.Legal.{is_outside, room_for}
use Rattle.hib_journal.specs.Sound.{is_calm, was_reused}
use Rattle.hib_journal.specs.Coherence.{holders, takes, gives_back, done_in, remove}
use Rattle.hib_base.proofs.Tables.{Tested, tested, same_key_refl, left_by, row_at_changes}
use Rattle.hib_journal.proofs.Slots.{touched, IsKept}
use Rattle.hib_law.specs.Locks.{holder_count}
use Rattle.hib_law.proofs.Basics.{none_some, some_same, replied}
use Rattle.hib_law.proofs.Guarded.{In}
use Rattle.hib_law.proofs.Effects.{Effect, floor_named}
use Rattle.hib_law.proofs.Touches.{here_or_victim}
use Rattle.hib_law.proofs.Views.{holders_more, holders_less, gives_back_act, takes_not_back}
use Rattle.hib_law.proofs.Coherent.{first_none}
use Rattle.hib_law.proofs.Floors.{floors_le_by, least_le, open_begun}
use Rattle.hib_law.proofs.Holders.{holds_holder_by}
use Rattle.hib_law.proofs.HeldRows.{HasRead}
use Rattle.hib_law.proofs.Working.{Allowed, holds}
use Rattle.hib_law.proofs.StoreRules.{AllowedStore, MayPut, MayStore}
use Rattle.hib_nodes_law.specs.Types.{NodeEntry, Noded, Nodings}
use Rattle.hib_nodes_law.specs.Nodes.{entries, of_node, changes_key, commit_count, is_fence, up_to, is_store, gave}
use Rattle.hib_nodes_law.specs.Legal.{node_of, second_half, AreNodesLegal}
use Rattle.hib_nodes_law.proofs.Sight.{View, Move, Commits, IsCommit, IsRecent, IsCoherent}
use Rattle.hib_nodes_law.proofs.Protocol.{kept, kept_fence, kept_commit}
use Rattle.hib_nodes_law.proofs.Rules.{Doer, doer, own_at, not_restart, ordered_at, floored_at, allowed_act, allowed_at}
use Rattle.hib_nodes_law.proofs.Rows.{WasRow, was_now, runs_on, applied_by, IsApplied, Step, step_of, grown, once}
use Rattle.hib_nodes_law.proofs.Queues.{known, known_le}
use Rattle.hib_nodes_law.proofs.Seen.{loads_by, commits_by, open_now, may_store, seen_load, seen_done}
use Rattle.hib_nodes_law.proofs.Views.{view_of, Reads, up_to_same, effect_at, rest_at, reply_at, slot_after, slot_same, since_same, since_stored, store_of, known_is, no_change, quiet, holders_rest, kept_after, follows, away}

module _ (script : Script) (start : Tables) (places : Nodings) (n : ℕ) (k : Key) (rw_k : strategy script k.entity ≡ Strategy.ReadWrite)
    (h : Noded) (e : NodeEntry) (l : AreNodesLegal script (Some start) places (e ∷ h)) where
  abbrev X : View
  X = view_of script start n k h

  abbrev Y : View
  Y = view_of script start n k (e ∷ h)

  nr : is_restart e.entry.act ≡ false
  nr = runs_on script start places k rw_k h e l

  who : Doer script places h e
  who = doer script (Some start) places h e l.1

  -- at the node itself

  module _ (q : (e.node == n) ≡ true) where
    at_n : e.node ≡ n
    at_n = eqb-true e.node n q

    of_is : of_node n (e ∷ h) ≡ e.entry ∷ of_node n h
    of_is = rw q refl

    -- an act of a session

    module _ (s : ℕ) (by_s : e.entry.session ≡ Some s) (mine : is_by s e.entry ≡ true) (home : node_of places s ≡ e.node) (z : second_half h ≡ None) where
      at : node_of places s ≡ n
      at = home ∙ at_n

      own_eq : own s (of_node n h) ≡ own s (entries h)
      own_eq = own_at script (Some start) places s n h l.0 at

      al : (a : Act) → e.entry.act ≡ a → Allowed script k (own s (entries h)) a
      al a p = subst (λ x. Allowed script k (own s (entries h)) x) p (allowed_act script start places k rw_k s h e l mine)

      st : (a : Act) → e.entry.act ≡ a → AllowedStore (own s (entries h)) a
      st a p = subst (λ x. AllowedStore (own s (entries h)) x) p (may_store script start places n k rw_k s h e l mine)

      fences_same : Y.fences ≡ X.fences
      fences_same = rw (by_s, z) refl

      no_fence : is_fence n e ≡ false
      no_fence = rw (q, by_s) refl

      known_same : committer e.entry.act e.entry.reply e.entry.session ≡ None → Y.known ≡ X.known
      known_same c = known_is script start places n k rw_k h e l q ∙ rw (no_change script start places n k rw_k h e l q c, no_fence) (omega arith)

      opens : is_begun (own s (entries h)) ≡ true → is_open s (of_node n h) ≡ true
      opens b = open_now script start places n k rw_k s h l.0 at b

      holding : is_begun (own s (entries h)) ≡ true → holds k (own s (entries h)) ≡ true → In s (holders k (of_node n h))
      holding b o = holds_holder_by script k s (of_node n h) (allowed_at script start places k rw_k n h l.0) (opens b) (ap (holds k) own_eq ∙ o)

      holders_put : takes k e.entry.act ≡ true → Y.holders ≡ s ∷ X.holders
      holders_put t = ap (holders k) of_is ∙ holders_more k e.entry (of_node n h) s nr t by_s

      holders_back : takes k e.entry.act ≡ false → gives_back k e.entry.act ≡ true → Y.holders ≡ remove s X.holders
      holders_back t g = ap (holders k) of_is ∙ holders_less k e.entry (of_node n h) s nr t g by_s

      gave_is : (a : Act) (p : NodeEntry → Bool) → e.entry.act ≡ a → ((d : NodeEntry) → gave k a (Some s) d ≡ p d) → is_store (touch k e.entry) ≡ true →
          Y.since ≡ commit_count k (up_to p h)
      gave_is a p x f t = ap (commit_count k) (since_stored script start places n k rw_k h e l q t
          ∙ (ap (λ b. up_to (gave k b e.entry.session) h) x ∙ (ap (λ o. up_to (gave k a o) h) by_s ∙ up_to_same (gave k a (Some s)) p f h)))

      stores_late : (r : Row) (late : Bool) → is_calm (Touch.Stores r late) ≡ true → late ≡ false
      stores_late r true c = absurd (false≢true c)
      stores_late r false c = refl

      abbrev M : Type 0
      M = Move script.timeout e.entry.tick X Y

      move_stores : (r : Row) (late : Bool) → late ≡ false → is_store (touch k e.entry) ≡ true → Y.slot ≡ Slot.Item r e.entry.tick →
          Effect script.timeout k (of_node n h) e.entry.act (Touch.Stores r late) → M
      move_stores r late c x w (inl (t, f, p, (o, v, u))) =
          let b : MayPut (own s (entries h)) k r = st (Act.Put k r t f) p in
          let d : HasRead k r (own s (entries h)) × (t ≡ time_in (own s (entries h))) × (f ≡ floor_in (own s (entries h))) × (is_begun (own s (entries h)) ≡ true) × (is_in k (changes s (entries h)) ≡ false) =
          al (Act.Put k r t f) p (same_key_refl k) in
          let m : t ≡ time s (of_node n h) = d.1 ∙ ap time_in (sym own_eq) in
          Move.Puts s r (commit_count k (up_to (loads_by s k) h)) o v w (gave_is (Act.Put k r t f) (loads_by s k) p (λ y. refl) x)
          (holders_rest script start places n k rw_k h e l q (rw p refl) (rw p refl)) fences_same (opens d.3) (seen_load script start places n k rw_k s r h l.0 at b)
          (rw (← m) (rw c at u))
      move_stores r late c x w (inr (inl (f, p, u))) =
          let b : MayStore (own s (entries h)) k r = st (Act.AfterInsert k r f) p in
          Move.Inserts s r (commit_count k (up_to (commits_by s) h)) w (gave_is (Act.AfterInsert k r f) (commits_by s) p (λ y. refl) x)
          (holders_rest script start places n k rw_k h e l q (rw p refl) (rw p refl)) fences_same (opens b.0) (seen_done script start places n k rw_k s r h l.0 at b.1 b.2) u
      move_stores r late c x w (inr (inr (i, p, (o, u, v)))) =
          let d : (holds k (own s (entries h)) ≡ true) × (done_in (own s (entries h)) ≡ true) × (option_and_then row_left (last_on k (changes s (entries h))) ≡ Some r)
          × (is_begun (own s (entries h)) ≡ true) × (i ≡ lock_id k (own s (entries h))) = al (Act.AfterUpdate k i r) p (same_key_refl k) in
          Move.Updates s r o w (gave_is (Act.AfterUpdate k i r) (commits_by s) p (λ y. refl) x)
          (holders_back (rw p refl) (rw p (same_key_refl k))) fences_same u v (holding d.3 d.0) (ap done_in own_eq ∙ d.1)
          (ap (λ y. option_and_then row_left (last_on k (changes_in y))) own_eq ∙ d.2)

      holder_of : gives_back k e.entry.act ≡ true → In s (holders k (of_node n h))
      holder_of g = elim (gives_back_act k e.entry.act g) [
        | inl x ↦
            let d : (holds k (own s (entries h)) ≡ true) × (is_begun (own s (entries h)) ≡ true) × (x.0 ≡ lock_id k (own s (entries h))) = al (Act.Unlock k x.0) x.1 (same_key_refl k) in
            holding d.1 d.0
        | inr x ↦
            let d : (holds k (own s (entries h)) ≡ true) × (done_in (own s (entries h)) ≡ true) × (option_and_then row_left (last_on k (changes s (entries h))) ≡ Some x.1)
            × (is_begun (own s (entries h)) ≡ true) × (x.0 ≡ lock_id k (own s (entries h))) = al (Act.AfterUpdate k x.0 x.1) x.2 (same_key_refl k) in
            holding d.3 d.0
      ]

      -- the floor that is named to a read-write region
      floor_own : (j : Key) (f : ℕ) (m : Journal) (a : Act) → key_in a ≡ Some j → floor_named a ≡ Some f → Allowed script j m a → (f ≡ floor_in m) × (is_begun m ≡ true)
      floor_own j f m (Act.Put i r u g) p x w =
          let a : HasRead j r m × (u ≡ time_in m) × (g ≡ floor_in m) × (is_begun m ≡ true) × (is_in j (changes_in m) ≡ false) = w (rw (some_same p) (same_key_refl j)) in
          (sym (some_same x) ∙ a.2, a.3)
      floor_own j f m (Act.Lock i v g) p x w =
          let a : (done_in m ≡ false) × (g ≡ floor_in m) × (is_begun m ≡ true) × ((v ≡ None) ⊎ ((b : Row) × HasRead j b m × (b.version ≡ v)))
          × (is_in j (changes_in m) ≡ false) × (holds j m ≡ false) = w (rw (some_same p) (same_key_refl j)) in
          (sym (some_same x) ∙ a.1, a.2)
      floor_own j f m (Act.AfterInsert i r g) p x w =
          let a : (done_in m ≡ true) × (option_and_then row_left (last_on j (changes_in m)) ≡ Some r) × (g ≡ floor_in m) × (is_begun m ≡ true) = w (rw (some_same p) (same_key_refl j)) in
          (sym (some_same x) ∙ a.2, a.3)
      floor_own j f m _ p x w = none_some x

      floor_low : (j : Key) (f : ℕ) → key_in e.entry.act ≡ Some j → j.entity ≡ k.entity → floor_named e.entry.act ≡ Some f → (u : ℕ) → is_open u (of_node n h) ≡ true →
          f ≤ time u (of_node n h)
      floor_low j f p d g u o =
          let rw_j : strategy script j.entity ≡ Strategy.ReadWrite = subst (λ x. strategy script x ≡ Strategy.ReadWrite) (sym d) rw_k in
          let a : (f ≡ floor_in (own s (entries h))) × (is_begun (own s (entries h)) ≡ true) =
          floor_own j f (own s (entries h)) e.entry.act p g (allowed_act script start places j rw_j s h e l mine) in
          subst (λ x. x ≤ time u (of_node n h)) (sym (a.0 ∙ ap floor_in (sym own_eq)))
          (floors_le_by (of_node n h) (ordered_at script (Some start) places n h l.0) (floored_at script start places n h l.0) s u (opens a.1) o)

      not_evict : e.entry.act ≡ Act.Evict k → ⊥
      not_evict p = true≢false (sym (ap is_outside p) ∙ not_restart script (Some start) places h e l)

      to_move : Reads start n k h → (x : Touch) → touch k e.entry ≡ Some x → is_calm x ≡ true → Y.slot ≡ touched script.timeout x e.entry.tick X.slot →
          Effect script.timeout k (of_node n h) e.entry.act x → M
      to_move i (Touch.Stores r late) t c w f = move_stores r late (stores_late r late c) (rw t refl) w f
      to_move i (Touch.Locks v) t c w f =
          let d : (done_in (own s (entries h)) ≡ false) × (f.0 ≡ floor_in (own s (entries h))) × (is_begun (own s (entries h)) ≡ true)
          × ((v ≡ None) ⊎ ((b : Row) × HasRead k b (own s (entries h)) × (b.version ≡ v)))
          × (is_in k (changes s (entries h)) ≡ false) × (holds k (own s (entries h)) ≡ false) = al (Act.Lock k v f.0) f.1 (same_key_refl k) in
          Move.Locks s v w (holders_put (rw f.1 (same_key_refl k))) fences_same (opens d.2) (rw (q, mine, f.1) (ap done_in own_eq ∙ d.0))
          (elim d.3 [ inl x ↦ inl x | inr x ↦ inr (x.0, (i s x.0 (opens d.2) x.1 d.4).0, (i s x.0 (opens d.2) x.1 d.4).1, x.2) ])
      to_move i (Touch.Releases m) t c w f = Move.Releases s m w (holders_back (takes_not_back k e.entry.act f.0) f.0) fences_same f.1 (holder_of f.0)
      to_move i Touch.Evicts t c w f = absurd (not_evict f.0)
      to_move i Touch.Expires t c w f = absurd (false≢true c)
      to_move i Touch.Leaves t c w f =
          Move.Leaves f.0 w (holders_rest script start places n k rw_k h e l q f.3 f.4) fences_same f.2 (floor_low f.5.0 f.0 f.5.1 f.5.2 f.1)

      move_of : Reads start n k h → ((x : Touch) → touch k e.entry ≡ Some x → is_calm x ≡ true) → IsKept script.timeout (history k (of_node n h)) → M
      move_of i c w = by_touch (touch k e.entry) refl
        where
          by_touch : (o : Option Touch) → touch k e.entry ≡ o → M
          by_touch None p =
              let r : (takes k e.entry.act ≡ false) × (gives_back k e.entry.act ≡ false) = rest_at script start places n k rw_k h e l q p in
              Move.Rests (slot_same script start places n k rw_k h e l q p) (holders_rest script start places n k rw_k h e l q r.0 r.1) fences_same (since_same script start places n k rw_k h e l q (store_of script start places n k rw_k h e l q None p refl))
          by_touch (Some x) p = to_move i x p (c x p) (slot_after script start places n k rw_k h e l q x p w) (effect_at script start places n k rw_k h e l q x p)

      -- a commit

      module _ (c : committer e.entry.act e.entry.reply e.entry.session ≡ Some s) (w : was_reused k (entries (e ∷ h)) ≡ false) where
        did : IsApplied start k s h e
        did = applied_by script start places k rw_k s h e l c

        no_touch : touch k e.entry ≡ None
        no_touch = rw did.said.act refl

        by_other : (t : ℕ) → (t ≡ s → ⊥) → is_by t e.entry ≡ false
        by_other t d = rw by_s (ne_eqb s t (λ x. d (sym x)))

        left_some : (r : Row) (o : Option Change) (x : Option Row) → option_and_then row_left o ≡ Some r → left_by o x ≡ Some r
        left_some r None x p = none_some p
        left_some r (Some d) x p = p

        last_is : Y.last s ≡ option_and_then row_left (last_on k (changes s (entries h)))
        last_is = rw (q, mine, did.said.act) (ap (λ y. option_and_then row_left (last_on k (changes_in y))) own_eq)

        own_now : Y.own s ≡ commit_count k (e ∷ h)
        own_now =
            let u : up_to (commits_by s) (e ∷ h) ≡ e ∷ h = rw (mine, did.said.act, did.said.reply, did.said.session) refl in
            ap (commit_count k) u

        left : (r : Row) → Y.last s ≡ Some r → IsRecent Y.was Y.known (Y.own s) r
        left r p =
            let a : row_at (committed start (entries (e ∷ h))) k ≡ left_by (last_on k (changes s (entries h))) (row_at (committed start (entries h)) k) =
            rw c (row_at_changes (changes s (entries h)) (committed start (entries h)) k) in
            let b : WasRow start k (commit_count k (e ∷ h)) r (e ∷ h) =
            was_now start k r (e ∷ h) (a ∙ left_some r (last_on k (changes s (entries h))) (row_at (committed start (entries h)) k) (sym last_is ∙ p)) in
            (subst (λ m. WasRow start k m r (e ∷ h)) (sym own_now) b, subst (λ m. known n k (e ∷ h) ≤ m) (sym own_now) (known_le script start places n k rw_k (e ∷ h) l))

        known_more : (b : Bool) → changes_key k h e ≡ b → Y.known ≡ cond b 1 0 + X.known
        known_more b p = known_is script start places n k rw_k h e l q ∙ rw (p, no_fence) (omega arith)

        row : Commits s X Y
        row = by_step (step_of script start places k rw_k s h e l w c)
          where
            by_step : Step script start places k rw_k s h e → Commits s X Y
            by_step (Step.Passes a b d) = Commits.Passes (known_more false d ∙ omega arith) (last_is ∙ rw (first_none k (changes s (entries h)) b) refl)
            by_step (Step.Adds a d) = Commits.Adds (λ m b r.
                true≢false (sym ((grown script start places k rw_k m b h l.0 (once script start places k rw_k h e l w).1 r).gone a) ∙ d))
            by_step (Step.Changes r a u d i y) = Commits.Changes (holding did.begun i) (known_more true y ∙ omega arith)

        commit : IsCommit s X Y
        commit = record {
          slot = slot_same script start places n k rw_k h e l q no_touch;
          holders = holders_rest script start places n k rw_k h e l q (rw did.said.act refl) (rw did.said.act refl);
          fences = fences_same;
          since = since_same script start places n k rw_k h e l q (store_of script start places n k rw_k h e l q None no_touch refl);
          not_yet = ap done_in own_eq ∙ did.undone;
          now = rw (q, mine, did.said.act, did.said.reply) refl;
          left = left;
          done = λ t d. rw (q, by_other t d) refl;
          last = λ t i d y. rw (q, by_other t d) refl;
          own = λ t i d y. ap (commit_count k) (rw (by_other t d) refl);
          row = row;
        }

      session_step : Reads start n k h → ((x : Touch) → touch k e.entry ≡ Some x → is_calm x ≡ true) → IsKept script.timeout (history k (of_node n h)) →
          was_reused k (entries (e ∷ h)) ≡ false → IsCoherent X → IsCoherent Y
      session_step i c w r g = by_committer (committer e.entry.act e.entry.reply e.entry.session) refl
        where
          same : (t : ℕ) → committer e.entry.act e.entry.reply e.entry.session ≡ Some t → t ≡ s
          same t p = some_same (sym (said e.entry.act e.entry.reply e.entry.session p) ∙ by_s)
            where
              said : (a : Act) (r : Reply) (by : Option ℕ) → committer a r by ≡ Some t → by ≡ Some t
              said Act.Commit (Reply.Commit Commit.Committed) by p = p
              said _ _ by p = none_some p

          by_committer : (o : Option ℕ) → committer e.entry.act e.entry.reply e.entry.session ≡ o → IsCoherent Y
          by_committer None p = kept script.timeout e.entry.tick X Y (follows script start places n k rw_k h e l r) g (quiet script start places n k rw_k h e l q p) (known_same p) (move_of i c w)
          by_committer (Some t) p =
              let p2 : committer e.entry.act e.entry.reply e.entry.session ≡ Some s = p ∙ ap Some (same t p) in
              kept_commit e.entry.tick s X Y (follows script start places n k rw_k h e l r) (commit p2 r) g

    -- a fence

    abbrev calm_at : Type 0
    calm_at = (x : Touch) → touch k e.entry ≡ Some x → is_calm x ≡ true

    module _ (by_none : e.entry.session ≡ None) where
      -- its first half: the lock
      module _ (j : Key) (z : second_half h ≡ None) (b : e.entry.act ≡ Act.Lock j None (floor (of_node e.node h) e.entry.tick)) where
        abbrev lock : Locked
        lock = Regions.lock script.timeout (slot script.timeout j (of_node n h)) (room_for script (of_node n h) j (floor (of_node e.node h) e.entry.tick)) e.entry.tick

        locked : e.entry.reply ≡ Reply.Locked lock
        locked = replied script start (of_node n h) e.entry (Act.Lock j None (floor (of_node e.node h) e.entry.tick)) (reply_at script start places n k rw_k h e l q j (rw b refl)) b (λ cs. refl)

        now_open : Y.fences ≡ cond (same_key j k) 1 0
        now_open = rw (by_none, b, locked, q) refl

        not_open : X.fences ≡ 0
        not_open = rw z refl

        no_commit : committer e.entry.act e.entry.reply e.entry.session ≡ None
        no_commit = rw b refl

        fence_here : is_fence n e ≡ true
        fence_here = rw (q, by_none, b) refl

        known_first : Y.known ≡ cond (same_key j k) 1 0 + X.known
        known_first =
            let t : takes k e.entry.act ≡ same_key j k = rw b refl in
            known_is script start places n k rw_k h e l q ∙ rw (no_change script start places n k rw_k h e l q no_commit, fence_here, t) (omega arith)

        holders_first : Y.holders ≡ X.holders
        holders_first = ap (holders k) of_is ∙ rw (nr, b, by_none) (by_test (same_key j k))
          where
            by_test : (x : Bool) → cond x (holders k (of_node n h)) (holders k (of_node n h)) ≡ holders k (of_node n h)
            by_test true = refl
            by_test false = refl

        first_here : same_key j k ≡ true → was_reused k (entries (e ∷ h)) ≡ false → IsKept script.timeout (history k (of_node n h)) → IsCoherent X → IsCoherent Y
        first_here s r w c =
            let t : touch k e.entry ≡ Some (Touch.Locks None) = rw (b, locked, s) refl in
            kept_fence script.timeout e.entry.tick X Y (follows script start places n k rw_k h e l r) c (record {
              slot = slot_after script start places n k rw_k h e l q (Touch.Locks None) t w;
              holders = holders_first;
              fences = now_open ∙ rw (s, not_open) refl;
              known = known_first ∙ rw s (omega arith);
            })

        floor_low_first : (u : ℕ) → is_open u (of_node n h) ≡ true → floor (of_node e.node h) e.entry.tick ≤ time u (of_node n h)
        floor_low_first u o =
            subst (λ m. floor (of_node m h) e.entry.tick ≤ time u (of_node n h)) (sym at_n)
            (least_le (of_node n h) (of_node n h) e.entry.tick u o refl (open_begun u (of_node n h) o))

        first_away : same_key j k ≡ false → was_reused k (entries (e ∷ h)) ≡ false → IsKept script.timeout (history k (of_node n h)) → IsCoherent X → IsCoherent Y
        first_away s r w c = by_touch (touch k e.entry) refl
          where
            fences_first : Y.fences ≡ X.fences
            fences_first = now_open ∙ rw (s, not_open) refl

            known_away : Y.known ≡ X.known
            known_away = known_first ∙ rw s (omega arith)

            leaves : (x : Touch) → touch k e.entry ≡ Some x → x ≡ Touch.Leaves
            leaves x t =
                let u : option_and_then (λ i. touch_at k i (Act.Lock j None (floor (of_node e.node h) e.entry.tick)) e.entry.reply) (Some j) ≡ Some x =
                subst (λ a. option_and_then (λ i. touch_at k i a e.entry.reply) (key_in a) ≡ Some x) b t in
                elim (here_or_victim k j (Act.Lock j None (floor (of_node e.node h) e.entry.tick)) e.entry.reply x u) [
                  | inl y ↦ absurd (true≢false (sym (ap (λ i. same_key i k) y.0 ∙ same_key_refl k) ∙ s))
                  | inr y ↦ y.2
                ]

            by_touch : (o : Option Touch) → touch k e.entry ≡ o → IsCoherent Y
            by_touch None p = kept script.timeout e.entry.tick X Y (follows script start places n k rw_k h e l r) c (quiet script start places n k rw_k h e l q no_commit) known_away
                (Move.Rests (slot_same script start places n k rw_k h e l q p) holders_first fences_first (since_same script start places n k rw_k h e l q (store_of script start places n k rw_k h e l q None p refl)))
            by_touch (Some x) p =
                let t : touch k e.entry ≡ Some Touch.Leaves = p ∙ ap Some (leaves x p) in
                let f : Effect script.timeout k (of_node n h) e.entry.act Touch.Leaves = effect_at script start places n k rw_k h e l q Touch.Leaves t in
                let g : floor (of_node e.node h) e.entry.tick ≡ f.0 = some_same (sym (ap floor_named b) ∙ f.1) in
                kept script.timeout e.entry.tick X Y (follows script start places n k rw_k h e l r) c (quiet script start places n k rw_k h e l q no_commit) known_away
                (Move.Leaves f.0 (slot_after script start places n k rw_k h e l q Touch.Leaves t w) holders_first fences_first f.2
                (λ u o. subst (λ m. m ≤ time u (of_node n h)) g (floor_low_first u o)))

      -- its second half: the lock is given back
      module _ (j : Key) (i : ℕ) (z : second_half h ≡ Some (e.node, Act.Unlock j i)) (b : e.entry.act ≡ Act.Unlock j i) where
        abbrev answer : Unlocked
        answer = Regions.unlock (slot script.timeout j (of_node n h)) i

        unlocked : e.entry.reply ≡ Reply.Unlocked answer
        unlocked = replied script start (of_node n h) e.entry (Act.Unlock j i) (reply_at script start places n k rw_k h e l q j (rw b refl)) b (λ cs. refl)

        now_closed : Y.fences ≡ 0
        now_closed = rw (by_none, b) refl

        was_held : X.fences ≡ cond (same_key j k) 1 0
        was_held = rw (z, q) refl

        no_commit_back : committer e.entry.act e.entry.reply e.entry.session ≡ None
        no_commit_back = rw b refl

        known_back : Y.known ≡ X.known
        known_back =
            let f : is_fence n e ≡ false = rw (q, by_none, b) refl in
            known_is script start places n k rw_k h e l q ∙ rw (no_change script start places n k rw_k h e l q no_commit_back, f) (omega arith)

        holders_second : Y.holders ≡ X.holders
        holders_second = ap (holders k) of_is ∙ rw (nr, b, by_none) (by_test (same_key j k))
          where
            by_test : (x : Bool) → cond x (holders k (of_node n h)) (holders k (of_node n h)) ≡ holders k (of_node n h)
            by_test true = refl
            by_test false = refl

        second_here : same_key j k ≡ true → calm_at → was_reused k (entries (e ∷ h)) ≡ false → IsKept script.timeout (history k (of_node n h)) → IsCoherent X → IsCoherent Y
        second_here s v r w c = by_answer answer unlocked
          where
            by_answer : (u : Unlocked) → e.entry.reply ≡ Reply.Unlocked u → IsCoherent Y
            by_answer (Unlocked.Released m) p =
                let t : touch k e.entry ≡ Some (Touch.Releases m) = rw (b, p, s) refl in
                let f : (gives_back k e.entry.act ≡ true) × (holder_count (slot script.timeout k (of_node n h)) ≡ suc m) = effect_at script start places n k rw_k h e l q (Touch.Releases m) t in
                kept script.timeout e.entry.tick X Y (follows script start places n k rw_k h e l r) c (quiet script start places n k rw_k h e l q no_commit_back) known_back
                (Move.Unfences m (slot_after script start places n k rw_k h e l q (Touch.Releases m) t w) holders_second (ap suc now_closed ∙ sym (was_held ∙ rw s refl)) f.1)
            by_answer Unlocked.Expired p =
                let t : touch k e.entry ≡ Some Touch.Expires = rw (b, p, s) refl in
                absurd (false≢true (v Touch.Expires t))

        second_away : same_key j k ≡ false → was_reused k (entries (e ∷ h)) ≡ false → IsCoherent X → IsCoherent Y
        second_away s r c = by_touch (touch k e.entry) refl
          where
            by_touch : (o : Option Touch) → touch k e.entry ≡ o → IsCoherent Y
            by_touch None p = kept script.timeout e.entry.tick X Y (follows script start places n k rw_k h e l r) c (quiet script start places n k rw_k h e l q no_commit_back) known_back
                (Move.Rests (slot_same script start places n k rw_k h e l q p) holders_second (now_closed ∙ sym (was_held ∙ rw s refl)) (since_same script start places n k rw_k h e l q (store_of script start places n k rw_k h e l q None p refl)))
            by_touch (Some x) p =
                let u : option_and_then (λ y. touch_at k y (Act.Unlock j i) (Reply.Unlocked answer)) (Some j) ≡ Some x =
                subst (λ y. option_and_then (λ g. touch_at k g (Act.Unlock j i) y) (Some j) ≡ Some x) unlocked
                (subst (λ a. option_and_then (λ g. touch_at k g a e.entry.reply) (key_in a) ≡ Some x) b p) in
                elim (here_or_victim k j (Act.Unlock j i) (Reply.Unlocked answer) x u) [
                  | inl y ↦ absurd (true≢false (sym (ap (λ g. same_key g k) y.0 ∙ same_key_refl k) ∙ s))
                  | inr y ↦ none_some y.1
                ]

    -- each entry at the node

    home_step : Reads start n k h → calm_at → IsKept script.timeout (history k (of_node n h)) → was_reused k (entries (e ∷ h)) ≡ false → IsCoherent X → IsCoherent Y
    home_step i v w r c = by_doer who
      where
        by_doer : Doer script places h e → IsCoherent Y
        by_doer (Doer.Session s p b m z a) = session_step s p b m z i v w r c
        by_doer (Doer.First j p z a b) = by_key (tested (same_key j k))
          where
            by_key : Tested (same_key j k) → IsCoherent Y
            by_key (inl s) = first_here p j z b s r w c
            by_key (inr s) = first_away p j z b s r w c
        by_doer (Doer.Second j y p z a) = by_key (tested (same_key j k))
          where
            by_key : Tested (same_key j k) → IsCoherent Y
            by_key (inl s) = second_here p j y z a s v r w c
            by_key (inr s) = second_away p j y z a s r c

  -- each entry: what is calm is asked of the node's own entries alone
  pub next_coherent : Reads start n k h → ((e.node == n) ≡ true → (x : Touch) → touch k e.entry ≡ Some x → is_calm x ≡ true) →
      IsKept script.timeout (history k (of_node n h)) → was_reused k (entries (e ∷ h)) ≡ false → IsCoherent X → IsCoherent Y
  next_coherent i v w r c = by_node (tested (e.node == n))
    where
      calm_here : (q : (e.node == n) ≡ true) → calm_at q
      calm_here q = v q

      by_node : Tested (e.node == n) → IsCoherent Y
      by_node (inl q) = home_step q i (calm_here q) w r c
      by_node (inr q) = away script start places n k rw_k h e l q r c

  pub next_kept : IsKept script.timeout (history k (of_node n h)) → IsKept script.timeout (history k (of_node n (e ∷ h)))
  next_kept w = by_node (tested (e.node == n))
    where
      by_node : Tested (e.node == n) → IsKept script.timeout (history k (of_node n (e ∷ h)))
      by_node (inl q) = kept_after script start places n k rw_k h e l q w
      by_node (inr q) = rw q w
