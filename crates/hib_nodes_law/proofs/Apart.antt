-- A journal of two nodes is legal, if the list of each part, and that of each session, is legal by itself, and each entry comes in its turn.
use Rattle.std.specs.Prelude.{unwrap_or, option_map}
use Rattle.std.proofs.Common.{◌≡◌, ℕ, slice_get, inl, inr, Bool, true, false, cond, ◌||◌, ◌==◌, List, [], ◌∷◌, Some, None, Option, refl, ap, sym, ◌∙◌, subst, eq-eqb}
use Rattle.std.proofs.lemmas.Bool.{true≢false, false≢true, eqb-true}
use Rattle.hib_base.specs.Tables.{Tables}
use Rattle.hib_journal.specs.Types.{Key, Change, Script, Part, Act, Entry}
use Rattle.hib_journal.specs.Sessions.{Journal, own, is_by, changes, changes_in, deferred, committed, floor, same_part}
use Rattle.hib_journal.specs.Next.{next}
use Rattle.hib_journal.specs.Legal.{IsReply, IsAnswerBy, reply_by, reply_of, fault_of, is_told, part_of, is_outside}
use Rattle.hib_journal.specs.Lists.{of_part, seen_by, stops, unsaved, IsStoreReply}
use Rattle.hib_journal.specs.Due.{asks_store}
use Rattle.hib_journal.proofs.Due.{allowed_due}
use Rattle.hib_base.proofs.Tables.{Tested, tested}
use Rattle.hib_law.proofs.Basics.{none_some, some_same}
use Rattle.hib_split_law.specs.Apart.{is_own, is_of_session, IsPartStep, IsPartLegal, IsOwnStep, IsOwnLegal}
use Rattle.hib_split_law.proofs.Apart.{same_self}
use Rattle.hib_split_law.proofs.Local.{Fits, AllFit}
use Rattle.hib_split_law.proofs.Unsaved.{unsaved_step}
use Rattle.hib_split_law.proofs.Replies.{reply_out, mine_out}
use Rattle.hib_nodes_law.specs.Types.{NodeEntry, Noded, Nodings}
use Rattle.hib_nodes_law.specs.Nodes.{entries, of_node, queue}
use Rattle.hib_nodes_law.specs.Legal.{node_of, second_half, due_of, is_of_node, seen_at, IsNodeReply, IsNodeStep, AreNodesLegal}
use Rattle.hib_nodes_law.specs.Apart.{IsTurn, IsInTurn, AreInTurn, AreNodesApart}
use Rattle.hib_nodes_law.proofs.Rules.{Doer, doer, cond_some, second_is, in_order, own_at, not_restart}

-- plain journals without kills and restarts

abbrev pub AreQuiet : Journal → Type 0
AreQuiet [] = Unit {0}
AreQuiet (e ∷ h) = AreQuiet h × (stops e.act ≡ false)

pub seen_quiet : (p : Part) (h : Journal) → AreQuiet h → seen_by p h ≡ of_part p h
seen_quiet p [] a = refl
seen_quiet p (e ∷ h) a = rw a.1 (by (same_part p e.part) (seen_quiet p h a.0))
  where
    by : (b : Bool) → seen_by p h ≡ of_part p h → cond (b || false) (e ∷ seen_by p h) (seen_by p h) ≡ cond b (e ∷ of_part p h) (of_part p h)
    by true i = ap (λ l. e ∷ l) i
    by false i = i

unsaved_quiet : (n : ℕ) (h : Journal) → AreQuiet h → unsaved n h ≡ deferred (own n h)
unsaved_quiet n [] a = refl
unsaved_quiet n (e ∷ h) a = unsaved_step n e h a.1 (unsaved_quiet n h a.0)

quiet_act : (a : Act) → is_outside a ≡ false → stops a ≡ false
quiet_act (Act.Kill n) o = absurd (true≢false o)
quiet_act Act.Restart o = absurd (true≢false o)
quiet_act _ o = refl

not_own : (a : Act) (s : ℕ) → is_of_session a ≡ false → is_own (part_of a s) ≡ false
not_own (Act.Find k) s o = absurd (true≢false o)
not_own (Act.Persist k r) s o = absurd (true≢false o)
not_own (Act.Set k cells) s o = absurd (true≢false o)
not_own (Act.Remove k) s o = absurd (true≢false o)
not_own Act.Clear s o = absurd (true≢false o)
not_own _ s o = refl

-- what a node's own part answers hangs neither on the session's changes nor on committed rows
pub node_case : (script : Script) (cs ds : List Change) (rows others : Tables) (g : Journal) (s now : ℕ) (a : Act) → is_of_node (part_of a s) ≡ true →
    (reply_by script cs rows g s now a ≡ reply_by script ds others g s now a) × (fault_of cs a ≡ None) × (is_told cs a ≡ false)
node_case script cs ds rows others g s now Act.Begin p = (refl, refl, refl)
node_case script cs ds rows others g s now Act.End p = (refl, refl, refl)
node_case script cs ds rows others g s now (Act.Kill n) p = (refl, refl, refl)
node_case script cs ds rows others g s now Act.Restart p = (refl, refl, refl)
node_case script cs ds rows others g s now (Act.Get k t) p = (refl, refl, refl)
node_case script cs ds rows others g s now (Act.Put k r t f) p = (refl, refl, refl)
node_case script cs ds rows others g s now (Act.AfterInsert k r f) p = (refl, refl, refl)
node_case script cs ds rows others g s now (Act.AfterUpdate k i r) p = (refl, refl, refl)
node_case script cs ds rows others g s now (Act.Lock k v f) p = (refl, refl, refl)
node_case script cs ds rows others g s now (Act.Unlock k i) p = (refl, refl, refl)
node_case script cs ds rows others g s now (Act.RegionRemove k) p = (refl, refl, refl)
node_case script cs ds rows others g s now (Act.Evict k) p = (refl, refl, refl)
node_case script cs ds rows others g s now _ p = absurd (false≢true p)

module _ (script : Script) (h : Noded) (e : NodeEntry) (part : part_of e.entry.act (unwrap_or e.entry.session 0) ≡ e.entry.part) where
  S : ℕ
  S = unwrap_or e.entry.session 0

  -- a plain reply over what the part sees is the reply that is due
  answer_node : is_of_node e.entry.part ≡ true → (start : Tables) →
      IsAnswerBy (changes (unwrap_or e.entry.session 0) (of_node e.node h)) (reply_of script start (of_node e.node h) (unwrap_or e.entry.session 0) e.entry.tick e.entry.act) e.entry →
      IsAnswerBy (changes (unwrap_or e.entry.session 0) (entries h)) (reply_by script (changes (unwrap_or e.entry.session 0) (entries h)) (committed start (entries h))
      (of_node e.node h) (unwrap_or e.entry.session 0) e.entry.tick e.entry.act) e.entry
  answer_node q start p =
      let c : (reply_by script (changes (unwrap_or e.entry.session 0) (of_node e.node h)) (committed start (of_node e.node h)) (of_node e.node h) (unwrap_or e.entry.session 0) e.entry.tick e.entry.act
      ≡ reply_by script (changes (unwrap_or e.entry.session 0) (entries h)) (committed start (entries h)) (of_node e.node h) (unwrap_or e.entry.session 0) e.entry.tick e.entry.act)
      × (fault_of (changes (unwrap_or e.entry.session 0) (of_node e.node h)) e.entry.act ≡ None) × (is_told (changes (unwrap_or e.entry.session 0) (of_node e.node h)) e.entry.act ≡ false) =
      node_case script (changes (unwrap_or e.entry.session 0) (of_node e.node h)) (changes (unwrap_or e.entry.session 0) (entries h)) (committed start (of_node e.node h)) (committed start (entries h))
      (of_node e.node h) (unwrap_or e.entry.session 0) e.entry.tick e.entry.act (ap is_of_node part ∙ q) in
      elim p [ inl x ↦ inl (x ∙ c.0) | inr x ↦ none_some (sym c.1 ∙ x) ]

  node_out : is_of_node e.entry.part ≡ true → (told : Option Tables) → IsReply script told (of_node e.node h) e.entry → IsNodeReply script told h e
  node_out q (Some start) p = rw q (answer_node q start p)
  node_out q None p =
      let c : is_told (changes (unwrap_or e.entry.session 0) (of_node e.node h)) e.entry.act ≡ false =
      (node_case script (changes (unwrap_or e.entry.session 0) (of_node e.node h)) (changes (unwrap_or e.entry.session 0) (entries h)) [] []
      (of_node e.node h) (unwrap_or e.entry.session 0) e.entry.tick e.entry.act (ap is_of_node part ∙ q)).2 in
      rw q (p.0, λ t. answer_node q [] (p.1 c))

  whole_out : is_of_node e.entry.part ≡ false → (told : Option Tables) → IsReply script told (entries h) e.entry → IsNodeReply script told h e
  whole_out q (Some start) p = rw q p
  whole_out q None p = rw q p

-- lists with one entry less

tail_part : (script : Script) (told : Option Tables) (p : Part) (d : Entry) (g : Journal) → IsPartLegal script told (of_part p (d ∷ g)) → IsPartLegal script told (of_part p g)
tail_part script told p d g l = by_test (tested (same_part p d.part))
  where
    by_test : Tested (same_part p d.part) → IsPartLegal script told (of_part p g)
    by_test (inl t) = let m : IsPartLegal script told (of_part p g) × IsPartStep script told (of_part p g) d = rw t at l in m.0
    by_test (inr t) = rw t at l

tail_seen : (script : Script) (told : Option Tables) (p : Part) (n : ℕ) (e : NodeEntry) (h : Noded) →
    IsPartLegal script told (of_part p (seen_at p n (e ∷ h))) → IsPartLegal script told (of_part p (seen_at p n h))
tail_seen script told p n e h l = by_part (tested (is_of_node p)) (tested (e.node == n))
  where
    by_part : Tested (is_of_node p) → Tested (e.node == n) → IsPartLegal script told (of_part p (seen_at p n h))
    by_part (inl q) (inl x) = let m : IsPartLegal script told (of_part p (e.entry ∷ of_node n h)) = rw (q, x) at l in rw q (tail_part script told p e.entry (of_node n h) m)
    by_part (inl q) (inr x) = let m : IsPartLegal script told (of_part p (of_node n h)) = rw (q, x) at l in rw q m
    by_part (inr q) x = let m : IsPartLegal script told (of_part p (e.entry ∷ entries h)) = rw q at l in rw q (tail_part script told p e.entry (entries h) m)

head_seen : (script : Script) (told : Option Tables) (e : NodeEntry) (h : Noded) →
    IsPartLegal script told (of_part e.entry.part (seen_at e.entry.part e.node (e ∷ h))) → IsPartStep script told (of_part e.entry.part (seen_at e.entry.part e.node h)) e.entry
head_seen script told e h l = by_part (tested (is_of_node e.entry.part))
  where
    head : (g : Journal) → IsPartLegal script told (of_part e.entry.part (e.entry ∷ g)) → IsPartStep script told (of_part e.entry.part g) e.entry
    head g m =
        let w : IsPartLegal script told (of_part e.entry.part g) × IsPartStep script told (of_part e.entry.part g) e.entry = rw (same_self e.entry.part) at m in w.1

    by_part : Tested (is_of_node e.entry.part) → IsPartStep script told (of_part e.entry.part (seen_at e.entry.part e.node h)) e.entry
    by_part (inl q) =
        let m : IsPartLegal script told (of_part e.entry.part (e.entry ∷ of_node e.node h)) = rw (q, eq-eqb e.node e.node refl) at l in rw q (head (of_node e.node h) m)
    by_part (inr q) = let m : IsPartLegal script told (of_part e.entry.part (e.entry ∷ entries h)) = rw q at l in rw q (head (entries h) m)

tail_own : (script : Script) (s : ℕ) (d : Entry) (g : Journal) → IsOwnLegal script s (own s (d ∷ g)) → IsOwnLegal script s (own s g)
tail_own script s d g l = by_test (tested (is_by s d))
  where
    by_test : Tested (is_by s d) → IsOwnLegal script s (own s g)
    by_test (inl t) = let m : IsOwnLegal script s (own s g) × IsOwnStep script s (own s g) d = rw t at l in m.0
    by_test (inr t) = rw t at l

head_own : (script : Script) (s : ℕ) (d : Entry) (g : Journal) → d.session ≡ Some s → IsOwnLegal script s (own s (d ∷ g)) → IsOwnStep script s (own s g) d
head_own script s d g q l =
    let t : is_by s d ≡ true = rw q (eq-eqb s s refl) in
    let m : IsOwnLegal script s (own s g) × IsOwnStep script s (own s g) d = rw t at l in m.1

module _ (script : Script) (told : Option Tables) (places : Nodings) where
  pub quiet_all : (h : Noded) → AreNodesLegal script told places h → AreQuiet (entries h)
  quiet_all [] l = tt
  quiet_all (e ∷ h) l = (quiet_all h l.0, quiet_act e.entry.act (not_restart script told places h e l))

  pub quiet_at : (n : ℕ) (h : Noded) → AreNodesLegal script told places h → AreQuiet (of_node n h)
  quiet_at n [] l = tt
  quiet_at n (e ∷ h) l = by_node (tested (e.node == n)) (quiet_at n h l.0)
    where
      by_node : Tested (e.node == n) → AreQuiet (of_node n h) → AreQuiet (of_node n (e ∷ h))
      by_node (inl q) i = rw q (i, quiet_act e.entry.act (not_restart script told places h e l))
      by_node (inr q) i = rw q i

  fits_session : (s : ℕ) (h : Noded) (d : Entry) (g : Journal) → AreNodesLegal script told places h → AreQuiet g → own s g ≡ own s (entries h) → d.session ≡ Some s →
      next script s (own s (entries h)) ≡ Some d.act → part_of d.act (unwrap_or d.session 0) ≡ d.part → Fits d g
  fits_session s h d g l a o q n p = record {
    part = p;
    same = λ x. subst (λ m. unsaved m g ≡ changes m g) (sym (ap (λ y. unwrap_or y 0) q))
        (unsaved_quiet s g a ∙ subst (λ m. deferred m ≡ changes_in m) (sym o)
        ((allowed_due script s (own s (entries h)) d.act (in_order script told places s h l) n).deferred x));
  }

  fence_fits : (d : Entry) (g : Journal) → asks_store d.act ≡ false → part_of d.act (unwrap_or d.session 0) ≡ d.part → Fits d g
  fence_fits d g n p = record { part = p; same = λ x. absurd (true≢false (sym x ∙ n)) }

  -- an entry of a legal journal fits all entries, and those of its node
  pub fits_in : (h : Noded) (e : NodeEntry) (g : Journal) → AreNodesLegal script told places (e ∷ h) → AreQuiet g → ((s : ℕ) → node_of places s ≡ e.node → own s g ≡ own s (entries h)) → Fits e.entry g
  fits_in h e g l a o = by_doer (doer script told places h e l.1)
    where
      by_doer : Doer script places h e → Fits e.entry g
      by_doer (Doer.Session s p b m z n) = fits_session s h e.entry g l.0 a (o s m) p n l.1.part
      by_doer (Doer.First k p z n b) = fence_fits e.entry g (rw b refl) l.1.part
      by_doer (Doer.Second k i p z b) = fence_fits e.entry g (rw b refl) l.1.part

  pub fit_all : (h : Noded) → AreNodesLegal script told places h → AllFit (entries h)
  fit_all [] l = tt
  fit_all (e ∷ h) l = (fit_all h l.0, fits_in h e (entries h) l (quiet_all h l.0) (λ s p. refl))

  pub fit_at : (n : ℕ) (h : Noded) → AreNodesLegal script told places h → AllFit (of_node n h)
  fit_at n [] l = tt
  fit_at n (e ∷ h) l = by_node (tested (e.node == n)) (fit_at n h l.0)
    where
      by_node : Tested (e.node == n) → AllFit (of_node n h) → AllFit (of_node n (e ∷ h))
      by_node (inr q) i = rw q i
      by_node (inl q) i = rw q (
        i,
        fits_in h e (of_node n h) l (quiet_at n h l.0) (λ s p. own_at script told places s n h l.0 (p ∙ eqb-true e.node n q)),
      )

  module _ (h : Noded) (e : NodeEntry) (l : AreNodesLegal script told places h) where
    -- a reply over a part's list is the reply that is due
    shared_reply : part_of e.entry.act (unwrap_or e.entry.session 0) ≡ e.entry.part → Fits e.entry (entries h) → Fits e.entry (of_node e.node h) → is_of_session e.entry.act ≡ false →
        IsStoreReply script told (of_part e.entry.part (seen_at e.entry.part e.node h)) e.entry → IsNodeReply script told h e
    shared_reply p f g o r = by_part (tested (is_of_node e.entry.part))
      where
        by_part : Tested (is_of_node e.entry.part) → IsNodeReply script told h e
        by_part (inl q) =
            let r2 : IsStoreReply script told (of_part e.entry.part (of_node e.node h)) e.entry = rw q at r in
            node_out script h e p q told (reply_out script e.entry (of_node e.node h) (fit_at e.node h l) g o told
            (subst (λ j. IsStoreReply script told j e.entry) (sym (seen_quiet e.entry.part (of_node e.node h) (quiet_at e.node h l))) r2))
        by_part (inr q) =
            let r2 : IsStoreReply script told (of_part e.entry.part (entries h)) e.entry = rw q at r in
            whole_out script h e p q told (reply_out script e.entry (entries h) (fit_all h l) f o told
            (subst (λ j. IsStoreReply script told j e.entry) (sym (seen_quiet e.entry.part (entries h) (quiet_all h l))) r2))

    -- and so is what a session answers itself
    own_reply : (s : ℕ) → e.entry.session ≡ Some s → node_of places s ≡ e.node → part_of e.entry.act (unwrap_or e.entry.session 0) ≡ e.entry.part → is_of_session e.entry.act ≡ true →
        e.entry.reply ≡ reply_of script [] (own s (entries h)) s e.entry.tick e.entry.act → IsNodeReply script told h e
    own_reply s q m p o r = by_part (tested (is_of_node e.entry.part))
      where
        is_s : unwrap_or e.entry.session 0 ≡ s
        is_s = ap (λ y. unwrap_or y 0) q

        by_part : Tested (is_of_node e.entry.part) → IsNodeReply script told h e
        by_part (inl x) = node_out script h e p x told (mine_out script e.entry (of_node e.node h) o told
            (subst (λ u. e.entry.reply ≡ reply_of script [] (own u (of_node e.node h)) u e.entry.tick e.entry.act) (sym is_s)
            (subst (λ j. e.entry.reply ≡ reply_of script [] j s e.entry.tick e.entry.act) (sym (own_at script told places s e.node h l m)) r)))
        by_part (inr x) = whole_out script h e p x told (mine_out script e.entry (entries h) o told
            (subst (λ u. e.entry.reply ≡ reply_of script [] (own u (entries h)) u e.entry.tick e.entry.act) (sym is_s) r))

  apart_tail : (e : NodeEntry) (h : Noded) → AreNodesApart script told (e ∷ h) → AreNodesApart script told h
  apart_tail e h a = record {
    parts = λ p n o. tail_seen script told p n e h (a.parts p n o);
    sessions = λ s. tail_own script s e.entry (entries h) (a.sessions s);
  }

  apart_step : (e : NodeEntry) (h : Noded) → AreNodesLegal script told places h → IsInTurn script places h e → AreNodesApart script told (e ∷ h) → IsNodeStep script told places h e
  apart_step e h l t a = by_session e.entry.session refl t.turn
    where
      -- what the part answers
      answered : part_of e.entry.act (unwrap_or e.entry.session 0) ≡ e.entry.part → Fits e.entry (entries h) → Fits e.entry (of_node e.node h) → is_of_session e.entry.act ≡ false →
          IsNodeReply script told h e
      answered p f g o =
          let d : is_own e.entry.part ≡ false = subst (λ x. is_own x ≡ false) p (not_own e.entry.act (unwrap_or e.entry.session 0) o) in
          shared_reply h e l p f g o ((head_seen script told e h (a.parts e.entry.part e.node d)).reply o)

      -- a fence is no act of a session's own
      fence_act : (b : Act) → due_of script places h e.node e.entry.tick None (second_half h) ≡ Some b → (asks_store b ≡ false) × (is_of_session b ≡ false)
      fence_act b q = by_half (second_half h) refl q
        where
          first : (o : Option Key) → option_map (λ k. Act.Lock k None (floor (of_node e.node h) e.entry.tick)) o ≡ Some b → (asks_store b ≡ false) × (is_of_session b ≡ false)
          first None r = none_some r
          first (Some k) r = subst (λ x. (asks_store x ≡ false) × (is_of_session x ≡ false)) (some_same r) (refl, refl)

          by_half : (o : Option (ℕ × Act)) → second_half h ≡ o → due_of script places h e.node e.entry.tick None o ≡ Some b → (asks_store b ≡ false) × (is_of_session b ≡ false)
          by_half None z r = first (slice_get (queue script e.node h) 0) r
          by_half (Some half) z r =
              let c : ((half.0 == e.node) ≡ true) × (Some half.1 ≡ Some b) = cond_some (half.0 == e.node) (Some half.1) b r in
              let y : (k : Key) × (i : ℕ) × (half ≡ (half.0, Act.Unlock k i)) = second_is h half z in
              let u : Act.Unlock y.0 y.1 ≡ b = sym (ap (λ x. x.1) y.2) ∙ some_same c.1 in
              subst (λ x. (asks_store x ≡ false) × (is_of_session x ≡ false)) u (refl, refl)

      by_session : (by : Option ℕ) → e.entry.session ≡ by → IsTurn script places h e by → IsNodeStep script told places h e
      by_session None q w =
          let n : (asks_store e.entry.act ≡ false) × (is_of_session e.entry.act ≡ false) = fence_act e.entry.act w.0 in
          let p : part_of e.entry.act (unwrap_or e.entry.session 0) ≡ e.entry.part = rw q w.1 in
          record {
            tick = t.tick;
            bounded = t.bounded;
            act = rw q w.0;
            part = p;
            reply = answered p (fence_fits e.entry (entries h) n.0 p) (fence_fits e.entry (of_node e.node h) n.0 p) n.1;
          }
      by_session (Some s) q w =
          let m : IsOwnStep script s (own s (entries h)) e.entry = head_own script s e.entry (entries h) q (a.sessions s) in
          let p : part_of e.entry.act (unwrap_or e.entry.session 0) ≡ e.entry.part = rw q m.part in
          record {
            tick = t.tick;
            bounded = t.bounded;
            act = rw (q, w.1, w.0, eq-eqb e.node e.node refl) m.act;
            part = p;
            reply = by_kind m p (tested (is_of_session e.entry.act));
          }
        where
          by_kind : IsOwnStep script s (own s (entries h)) e.entry → part_of e.entry.act (unwrap_or e.entry.session 0) ≡ e.entry.part → Tested (is_of_session e.entry.act) →
              IsNodeReply script told h e
          by_kind m p (inl o) = own_reply h e l s q w.0 p o (m.reply o)
          by_kind m p (inr o) = answered p
              (fits_session s h e.entry (entries h) l (quiet_all h l) refl q m.act p)
              (fits_session s h e.entry (of_node e.node h) l (quiet_at e.node h l) (own_at script told places s e.node h l w.0) q m.act p) o

  -- legal apart, so legal
  pub together : (h : Noded) → AreInTurn script places h → AreNodesApart script told h → AreNodesLegal script told places h
  together [] t a = tt
  together (e ∷ h) t a =
      let l : AreNodesLegal script told places h = together h t.0 (apart_tail e h a) in
      (l, apart_step e h l t.1 a)
