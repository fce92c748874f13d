-- One read-write key at one node, as the journal of two nodes shows it; and what an entry does to it.
use Rattle.std.specs.Prelude.{option_and_then, is_some}
use Rattle.std.proofs.Common.{◌≡◌, ℕ, ◌+◌, ◌≤◌, ◌⊎◌, inl, inr, Bool, true, false, cond, ◌&&◌, ◌==◌, [], ◌∷◌, Some, None, Option, refl, ap, sym, ◌∙◌, subst, arith}
use Rattle.std.proofs.lemmas.Bool.{true≢false, eqb-true, eqb-false}
use Rattle.hib_journal.specs.Types.{Key, Row, Strategy, Script, Act, Reply}
use Rattle.hib_base.specs.Keys.{same_key}
use Rattle.hib_base.specs.Tables.{Tables, last_on, row_left}
use Rattle.hib_journal.specs.Sessions.{Journal, is_by, own, changes, changes_in, is_open, time, committer, is_restart}
use Rattle.hib_journal.specs.Slot.{Touch, slot, history, touch, key_in, touch_at}
use Rattle.hib_journal.specs.Held.{is_begin}
use Rattle.hib_journal.specs.Next.{strategy, is_in}
use Rattle.hib_journal.specs.Legal.{IsReply}
use Rattle.hib_journal.specs.Sound.{was_reused}
use Rattle.hib_journal.specs.Coherence.{holders, takes, gives_back, is_done, done_in, last_row}
use Rattle.hib_base.proofs.Tables.{Tested, tested}
use Rattle.hib_journal.proofs.Slots.{touched, IsKept}
use Rattle.hib_journal.proofs.Sessions.{time_same, is_some_session}
use Rattle.hib_law.proofs.Basics.{none_some}
use Rattle.hib_law.proofs.Guarded.{In}
use Rattle.hib_law.proofs.Effects.{Effect, is_remove}
use Rattle.hib_law.proofs.Touches.{here_or_victim}
use Rattle.hib_law.proofs.Views.{slot_touched, slot_rests, holders_same, to_kept, history_step}
use Rattle.hib_law.proofs.Coherent.{open_before, effect_of, rest_of}
use Rattle.hib_law.proofs.HeldRows.{HasRead}
use Rattle.hib_law.proofs.Orderly.{Kind, kind}
use Rattle.hib_law.proofs.Working.{Allowed, holds}
use Rattle.hib_nodes_law.specs.Types.{NodeEntry, Noded, Nodings}
use Rattle.hib_nodes_law.specs.Nodes.{entries, of_node, changes_key, commit_count, is_fence, up_to, is_store, gave, since}
use Rattle.hib_nodes_law.specs.Legal.{unlock_after, second_half, AreNodesLegal}
use Rattle.hib_nodes_law.proofs.Sight.{View, Follows, IsQuiet, Move, IsRecent, IsCoherent}
use Rattle.hib_nodes_law.proofs.Protocol.{kept}
use Rattle.hib_nodes_law.proofs.Rules.{Doer, doer, region_reply, at_home, own_at, allowed_act}
use Rattle.hib_nodes_law.proofs.Rows.{WasRow, runs_on, growing}
use Rattle.hib_nodes_law.proofs.Queues.{known}
use Rattle.hib_nodes_law.proofs.Seen.{is_mine, SeenAt, commits_by, holder_holds, holder_home, time_before}

-- the locks of fences on k at n that are not released yet
abbrev pub fence_on : Key → Act → ℕ
fence_on k (Act.Unlock j i) = cond (same_key j k) 1 0
fence_on k _ = 0

abbrev pub open_fences : ℕ → Key → Option (ℕ × Act) → ℕ
open_fences n k None = 0
open_fences n k (Some half) = cond (half.0 == n) (fence_on k half.1) 0

abbrev pub view_of : Script → Tables → ℕ → Key → Noded → View
view_of script start n k h = record {
  slot = slot script.timeout k (of_node n h);
  known = known n k h;
  was = λ m b. WasRow start k m b h;
  since = commit_count k (since n k h);
  holders = holders k (of_node n h);
  fences = open_fences n k (second_half h);
  active = λ s. is_open s (of_node n h);
  time = λ s. time s (of_node n h);
  seen = λ s b m. SeenAt start n k s b m h;
  done = λ s. is_done s (of_node n h);
  last = λ s. last_row k s (of_node n h);
  own = λ s. commit_count k (up_to (commits_by s) h);
}

-- what an open session has read of a key that is not in its changes, it has seen
abbrev pub Reads : Tables → ℕ → Key → Noded → Type 0
Reads start n k h = (s : ℕ) (b : Row) → is_open s (of_node n h) ≡ true → HasRead k b (own s (entries h)) → is_in k (changes s (entries h)) ≡ false →
    (m : ℕ) × SeenAt start n k s b m h

-- small facts

pub up_to_same : (p q : NodeEntry → Bool) → ((d : NodeEntry) → p d ≡ q d) → (h : Noded) → up_to p h ≡ up_to q h
up_to_same p q f [] = refl
up_to_same p q f (e ∷ h) = by_test (tested (q e)) (up_to_same p q f h)
  where
    by_test : Tested (q e) → up_to p h ≡ up_to q h → up_to p (e ∷ h) ≡ up_to q (e ∷ h)
    by_test (inl t) i = rw (f e, t) refl
    by_test (inr t) i = rw (f e, t) i

away_fences : (n m : ℕ) (k : Key) (by : Option ℕ) (a : Act) (r : Reply) → (m == n) ≡ false → open_fences n k (unlock_after m by a r) ≡ 0
away_fences n m k None (Act.Lock j v f) (Reply.Locked l) p = rw p refl
away_fences n m k _ _ _ p = refl

and_false : (b : Bool) → (b && false) ≡ false
and_false true = refl
and_false false = refl

no_key : (k : Key) (a : Act) → key_in a ≡ None → (takes k a ≡ false) × (gives_back k a ≡ false)
no_key k (Act.Lock j v f) e = none_some (sym e)
no_key k (Act.Unlock j i) e = none_some (sym e)
no_key k (Act.AfterUpdate j i r) e = none_some (sym e)
no_key k _ e = (refl, refl)

touch_key : (o : Option Key) (f : Key → Option Touch) (x : Touch) → option_and_then f o ≡ Some x → (j : Key) × (o ≡ Some j)
touch_key None f x e = none_some e
touch_key (Some j) f x e = (j, refl)

not_stored : (x : Touch) → is_store (Some x) ≡ false → (o : Option Touch) → o ≡ Some x → is_store o ≡ false
not_stored x p o e = rw e p

module _ (script : Script) (start : Tables) (places : Nodings) (n : ℕ) (k : Key) (rw_k : strategy script k.entity ≡ Strategy.ReadWrite)
    (h : Noded) (e : NodeEntry) (l : AreNodesLegal script (Some start) places (e ∷ h)) where
  abbrev X : View
  X = view_of script start n k h

  abbrev Y : View
  Y = view_of script start n k (e ∷ h)

  nr : is_restart e.entry.act ≡ false
  nr = runs_on script start places k rw_k h e l

  who : Doer script places h e
  who = doer script (Some start) places h e l.1

  -- how the sessions go on

  pub was_open : (s : ℕ) → (is_mine n s e && is_begin e.entry.act) ≡ false → is_open s (of_node n (e ∷ h)) ≡ true → is_open s (of_node n h) ≡ true
  was_open s p a = by_node (tested (e.node == n))
    where
      by_node : Tested (e.node == n) → is_open s (of_node n h) ≡ true
      by_node (inr q) = rw q at a
      by_node (inl q) =
          let p2 : (is_by s e.entry && is_begin e.entry.act) ≡ false = rw q at p in
          let a2 : is_open s (e.entry ∷ of_node n h) ≡ true = rw q at a in
          open_before s e.entry.session e.entry.act (is_open s (of_node n h)) p2 a2

  same_time : (s : ℕ) → (is_mine n s e && is_begin e.entry.act) ≡ false → time s (of_node n (e ∷ h)) ≡ time s (of_node n h)
  same_time s p = by_node (tested (e.node == n))
    where
      by_node : Tested (e.node == n) → time s (of_node n (e ∷ h)) ≡ time s (of_node n h)
      by_node (inr q) = rw q refl
      by_node (inl q) =
          let p2 : (is_by s e.entry && is_begin e.entry.act) ≡ false = rw q at p in
          rw q (time_same s e.entry (of_node n h) p2)

  pub follows : was_reused k (entries (e ∷ h)) ≡ false → Follows e.entry.tick X Y
  follows w = record {
    seen = λ s b m a z. by_begin s b m a (tested (is_mine n s e && is_begin e.entry.act)) z;
    later = λ s b m a z. time_before script start places n k rw_k s h e l;
    was = λ m b z. inr z;
    growing = growing script start places k rw_k (e ∷ h) l w;
  }
    where
      by_begin : (s : ℕ) (b : Row) (m : ℕ) → is_open s (of_node n (e ∷ h)) ≡ true → Tested (is_mine n s e && is_begin e.entry.act) → SeenAt start n k s b m (e ∷ h) →
          IsRecent (λ i r. WasRow start k i r (e ∷ h)) (known n k (e ∷ h)) m b
          ⊎ ((is_open s (of_node n h) ≡ true) × SeenAt start n k s b m h × (time s (of_node n (e ∷ h)) ≡ time s (of_node n h)))
      by_begin s b m a (inl p) z = let g : ⊥ = rw p at z in absurd g
      by_begin s b m a (inr p) z =
          let g : ((is_mine n s e ≡ true) × WasRow start k m b (e ∷ h) × (known n k (e ∷ h) ≤ m)) ⊎ SeenAt start n k s b m h = rw p at z in
          elim g [ inl x ↦ inl (x.1, x.2) | inr x ↦ inr (was_open s p a, x, same_time s p) ]

  -- at the other node

  module _ (q : (e.node == n) ≡ false) where
    away_known : known n k (e ∷ h) ≡ known n k h
    away_known = rw q (omega arith)

    away_open : open_fences n k (second_half h) ≡ 0
    away_open = by_doer who
      where
        by_doer : Doer script places h e → open_fences n k (second_half h) ≡ 0
        by_doer (Doer.Session s p b m z a) = rw z refl
        by_doer (Doer.First j p z a b) = rw z refl
        by_doer (Doer.Second j i p z a) = rw (z, q) refl

    not_here : (s : ℕ) → In s (holders k (of_node n h)) → is_by s e.entry ≡ false
    not_here s i = by_test (tested (is_by s e.entry))
      where
        by_test : Tested (is_by s e.entry) → is_by s e.entry ≡ false
        by_test (inr b) = b
        by_test (inl b) = absurd (eqb-false e.node n q (sym (at_home script (Some start) places h e l.1 s b) ∙ holder_home script start places n k rw_k s h l.0 i))

    pub away : was_reused k (entries (e ∷ h)) ≡ false → IsCoherent X → IsCoherent Y
    away w c = kept script.timeout e.entry.tick X Y (follows w) c
        (record {
          done = λ s i. rw q refl;
          last = λ s i d. rw q refl;
          own = λ s i d. ap (commit_count k) (rw (not_here s i) refl);
        })
        away_known
        (Move.Rests (rw q refl) (rw q refl) (away_fences n e.node k e.entry.session e.entry.act e.entry.reply q ∙ sym away_open) (ap (commit_count k) (rw q refl)))

  -- at the node itself

  module _ (q : (e.node == n) ≡ true) where
    G : Journal
    G = of_node n h

    pub at_n : e.node ≡ n
    at_n = eqb-true e.node n q

    pub of_is : of_node n (e ∷ h) ≡ e.entry ∷ of_node n h
    of_is = rw q refl

    pub reply_at : (j : Key) → key_in e.entry.act ≡ Some j → IsReply script (Some start) (of_node n h) e.entry
    reply_at j p = subst (λ m. IsReply script (Some start) (of_node m h) e.entry) at_n (region_reply script start places h e l.1 j p)

    -- no item of the key is removed
    removes : (x : Touch) → touch k e.entry ≡ Some x → is_remove e.entry.act ≡ false
    removes x t = by_doer who
      where
        not_removed : (a : Act) (j : Key) (m : Journal) → e.entry.act ≡ a → Allowed script k m a → a ≡ Act.RegionRemove j → ⊥
        not_removed a j m p w y =
            let u : option_and_then (λ z. touch_at k z (Act.RegionRemove j) e.entry.reply) (Some j) ≡ Some x =
            subst (λ z. option_and_then (λ i. touch_at k i z e.entry.reply) (key_in z) ≡ Some x) (p ∙ y) t in
            let v : strategy script j.entity ≡ Strategy.ReadWrite → ⊥ = subst (λ z. Allowed script k m z) y w in
            elim (here_or_victim k j (Act.RegionRemove j) e.entry.reply x u) [
              | inl z ↦ v (subst (λ i. strategy script i.entity ≡ Strategy.ReadWrite) (sym z.0) rw_k)
              | inr z ↦ v (subst (λ i. strategy script i ≡ Strategy.ReadWrite) (sym z.0) rw_k)
            ]

        by_act : (a : Act) (m : Journal) → e.entry.act ≡ a → Allowed script k m a → is_remove a ≡ false
        by_act (Act.RegionRemove j) m p w = absurd (not_removed (Act.RegionRemove j) j m p w refl)
        by_act _ m p w = refl

        by_doer : Doer script places h e → is_remove e.entry.act ≡ false
        by_doer (Doer.Session s p b m z a) = by_act e.entry.act (own s (entries h)) refl (allowed_act script start places k rw_k s h e l b)
        by_doer (Doer.First j p z a b) = rw b refl
        by_doer (Doer.Second j i p z a) = rw a refl

    pub effect_at : (x : Touch) → touch k e.entry ≡ Some x → Effect script.timeout k (of_node n h) e.entry.act x
    effect_at x t =
        let j : (j : Key) × (key_in e.entry.act ≡ Some j) = touch_key (key_in e.entry.act) (λ i. touch_at k i e.entry.act e.entry.reply) x t in
        effect_of script start k (of_node n h) e.entry rw_k nr (reply_at j.0 j.1) removes x t

    pub rest_at : touch k e.entry ≡ None → (takes k e.entry.act ≡ false) × (gives_back k e.entry.act ≡ false)
    rest_at t = by_key (key_in e.entry.act) refl
      where
        by_key : (o : Option Key) → key_in e.entry.act ≡ o → (takes k e.entry.act ≡ false) × (gives_back k e.entry.act ≡ false)
        by_key None p = no_key k e.entry.act p
        by_key (Some j) p = rest_of script start k (of_node n h) e.entry rw_k nr (reply_at j p) removes t

    -- the slot after a touch
    pub slot_after : (x : Touch) → touch k e.entry ≡ Some x → IsKept script.timeout (history k (of_node n h)) →
        Y.slot ≡ touched script.timeout x e.entry.tick X.slot
    slot_after x t w =
        ap (slot script.timeout k) of_is ∙ slot_touched script k e.entry (of_node n h) x nr t (to_kept script k (of_node n h) e.entry x (effect_at x t), w)

    pub slot_same : touch k e.entry ≡ None → Y.slot ≡ X.slot
    slot_same t = ap (slot script.timeout k) of_is ∙ slot_rests script k e.entry (of_node n h) nr t

    pub kept_after : IsKept script.timeout (history k (of_node n h)) → IsKept script.timeout (history k (of_node n (e ∷ h)))
    kept_after w = subst (λ z. IsKept script.timeout (history k z)) (sym of_is) (by_touch (touch k e.entry) refl)
      where
        by_touch : (o : Option Touch) → touch k e.entry ≡ o → IsKept script.timeout (history k (e.entry ∷ of_node n h))
        by_touch None p = rw (history_step k e.entry (of_node n h) nr, p) w
        by_touch (Some x) p = rw (history_step k e.entry (of_node n h) nr, p) (to_kept script k (of_node n h) e.entry x (effect_at x p), w)

    pub since_same : is_store (touch k e.entry) ≡ false → Y.since ≡ X.since
    since_same p = ap (commit_count k) (rw (q, p) refl)

    pub since_stored : is_store (touch k e.entry) ≡ true → since n k (e ∷ h) ≡ up_to (gave k e.entry.act e.entry.session) h
    since_stored p = rw (q, p) refl

    pub store_of : (o : Option Touch) → touch k e.entry ≡ o → is_store o ≡ false → is_store (touch k e.entry) ≡ false
    store_of o p s = rw p s

    pub known_is : known n k (e ∷ h) ≡ cond (changes_key k h e) 1 0 + (cond (is_fence n e && takes k e.entry.act) 1 0 + known n k h)
    known_is = rw q (omega arith)

    -- an entry that commits nothing

    pub no_change : committer e.entry.act e.entry.reply e.entry.session ≡ None → changes_key k h e ≡ false
    no_change c = rw c refl

    own_same : (s : ℕ) → committer e.entry.act e.entry.reply e.entry.session ≡ None → Y.own s ≡ X.own s
    own_same s c = ap (commit_count k) (by_test (is_by s e.entry))
      where
        by_test : (b : Bool) → cond (b && is_some (committer e.entry.act e.entry.reply e.entry.session)) (e ∷ h) (up_to (commits_by s) h) ≡ up_to (commits_by s) h
        by_test true = rw c refl
        by_test false = refl

    own_list : (s : ℕ) → own s (of_node n (e ∷ h)) ≡ own s (e.entry ∷ of_node n h)
    own_list s = ap (own s) of_is

    steady : committer e.entry.act e.entry.reply e.entry.session ≡ None → (u : ℕ) → In u (holders k (of_node n h)) →
        (is_done u (of_node n (e ∷ h)) ≡ is_done u (of_node n h))
        × (is_done u (of_node n h) ≡ true → last_row k u (of_node n (e ∷ h)) ≡ last_row k u (of_node n h))
    steady c u i = by_session (tested (is_by u e.entry))
      where
        D : Type 0
        D = (is_done u (of_node n (e ∷ h)) ≡ is_done u (of_node n h))
            × (is_done u (of_node n h) ≡ true → last_row k u (of_node n (e ∷ h)) ≡ last_row k u (of_node n h))

        eq : own u (of_node n h) ≡ own u (entries h)
        eq = own_at script (Some start) places u n h l.0 (holder_home script start places n k rw_k u h l.0 i)

        mine : (b : is_by u e.entry ≡ true) → Allowed script k (own u (of_node n h)) e.entry.act → Kind e.entry.act e.entry.reply → D
        mine b a (Kind.Begins x) =
            let f : holds k (own u (of_node n h)) ≡ false = subst (λ z. Allowed script k (own u (of_node n h)) z) x a in
            absurd (true≢false (sym (holder_holds script start places n k rw_k u h l.0 i) ∙ f))
        mine b a (Kind.Writes d x) =
            let f : Allowed script k (own u (of_node n h)) (Act.Write d) = subst (λ z. Allowed script k (own u (of_node n h)) z) x a in
            (rw (q, b, x) refl, λ y. absurd (true≢false (sym y ∙ f.0)))
        mine b a (Kind.Commits x y) =
            let g : ◌≡◌ {A = Option ℕ} (Some u) None = rw (x, y, is_some_session u e.entry.session b) at c in none_some (sym g)
        mine b a (Kind.Other x y z) =
            (rw (q, b) (x (done_in (own u (of_node n h)))), λ w. rw (q, b) (ap (λ cs. option_and_then row_left (last_on k cs)) (y (changes_in (own u (of_node n h))))))

        by_session : Tested (is_by u e.entry) → D
        by_session (inr b) = (rw (q, b) refl, λ y. rw (q, b) refl)
        by_session (inl b) = mine b (subst (λ m. Allowed script k m e.entry.act) (sym eq) (allowed_act script start places k rw_k u h e l b)) (kind e.entry.act e.entry.reply)

    pub quiet : committer e.entry.act e.entry.reply e.entry.session ≡ None → IsQuiet X Y
    quiet c = record {
      done = λ s i. (steady c s i).0;
      last = λ s i. (steady c s i).1;
      own = λ s i d. own_same s c;
    }

    pub holders_rest : takes k e.entry.act ≡ false → gives_back k e.entry.act ≡ false → Y.holders ≡ X.holders
    holders_rest a b = ap (holders k) of_is ∙ holders_same k e.entry (of_node n h) nr a b
