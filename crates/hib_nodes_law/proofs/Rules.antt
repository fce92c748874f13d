-- A legal journal of two nodes: who does an entry, what it is answered, and which entries a session and a node have.
use Rattle.std.specs.Prelude.{unwrap_or, is_some}
use Rattle.std.proofs.Common.{◌≡◌, ℕ, ◌+◌, ◌≤◌, inl, inr, Bool, true, false, cond, ◌||◌, ◌==◌, List, [], ◌∷◌, length, drop, slice_get, zero, suc, Some, None, Option, refl, ap, sym, ◌∙◌, subst, arith, eq-eqb}
use Rattle.std.proofs.lemmas.Bool.{eqb-true, eqb-false, or_parts}
use Rattle.hib_journal.specs.Types.{Key, Row, Change, Strategy, Script, Part, Act, Reply, Entry}
use Rattle.hib_base.specs.Keys.{same_key}
use Rattle.hib_base.specs.Tables.{Tables}
use Rattle.hib_journal.specs.Sessions.{is_by, own, floor, changes, changes_in, committed, last_tick, same_part, same_session, IsTimely}
use Rattle.hib_journal.specs.Slot.{key_in}
use Rattle.hib_journal.specs.Held.{held}
use Rattle.hib_journal.specs.Plan.{InOrder}
use Rattle.hib_journal.specs.Next.{next, plan_of, strategy, is_in}
use Rattle.hib_journal.specs.Legal.{IsReply, reply_by, reply_of, fault_of, part_of, is_outside}
use Rattle.hib_base.proofs.Tables.{Tested, tested, same_key_eq}
use Rattle.hib_journal.proofs.Sessions.{IsOrdered, is_some_session}
use Rattle.hib_journal.proofs.Plans.{AllRight}
use Rattle.hib_journal.proofs.Steps.{next_is}
use Rattle.hib_journal.proofs.Inside.{inside}
use Rattle.hib_law.proofs.Basics.{none_some, some_same}
use Rattle.hib_law.proofs.Floors.{AreFloored}
use Rattle.hib_law.proofs.Walks
use Rattle.hib_law.proofs.Working.{Allowed, Right, IsSettled}
use Rattle.hib_law.proofs.Ends.{IsOver}
use Rattle.hib_law.proofs.Blocks.{AreAllowed, IsMade, made_by, persist_new, good}
use Rattle.hib_nodes_law.specs.Types.{NodeEntry, Noded, Nodings}
use Rattle.hib_nodes_law.specs.Nodes.{entries, of_node, pairs, fence_count, queue}
use Rattle.hib_nodes_law.specs.Legal.{node_of, unlock_after, second_half, first_half, due_of, is_of_node, seen_at, IsNodeStep, AreNodesLegal}

-- an entry is of a session at its node, or one half of a fence
pub data Doer (script : Script) (places : Nodings) (h : Noded) (e : NodeEntry) : Type 0 where
  Session : (s : ℕ) → e.entry.session ≡ Some s → is_by s e.entry ≡ true → node_of places s ≡ e.node → second_half h ≡ None →
      next script s (own s (entries h)) ≡ Some e.entry.act → Doer script places h e
  First : (k : Key) → e.entry.session ≡ None → second_half h ≡ None → slice_get (pairs script e.node h) (fence_count e.node h) ≡ Some k →
      e.entry.act ≡ Act.Lock k None (floor (of_node e.node h) e.entry.tick) → Doer script places h e
  Second : (k : Key) (i : ℕ) → e.entry.session ≡ None → second_half h ≡ Some (e.node, Act.Unlock k i) → e.entry.act ≡ Act.Unlock k i → Doer script places h e

pub cond_some : {A : Type 0} (b : Bool) (x : Option A) (a : A) → cond b x None ≡ Some a → (b ≡ true) × (x ≡ Some a)
cond_some true x a p = (refl, p)
cond_some false x a p = none_some p

half_is : (n : ℕ) (by : Option ℕ) (a : Act) (r : Reply) (half : ℕ × Act) → unlock_after n by a r ≡ Some half →
    (k : Key) × (i : ℕ) × (half ≡ (n, Act.Unlock k i)) × (by ≡ None)
half_is n None (Act.Lock k v f) (Reply.Locked l) half p = (k, l.id, sym (some_same p), refl)
half_is n _ _ _ half p = none_some p

pub second_is : (h : Noded) (half : ℕ × Act) → second_half h ≡ Some half → (k : Key) × (i : ℕ) × (half ≡ (half.0, Act.Unlock k i))
second_is [] half p = none_some p
second_is (d ∷ h) half p =
    let q : (k : Key) × (i : ℕ) × (half ≡ (d.node, Act.Unlock k i)) × (d.entry.session ≡ None) = half_is d.node d.entry.session d.entry.act d.entry.reply half p in
    (q.0, q.1, q.2 ∙ ap (λ z. (z, Act.Unlock q.0 q.1)) (sym (ap (λ z. z.0) q.2)))

pub get_drop : (n : ℕ) (xs : List Key) → slice_get (drop n xs) 0 ≡ slice_get xs n
get_drop zero [] = refl
get_drop zero (x ∷ xs) = refl
get_drop (suc n) [] = refl
get_drop (suc n) (x ∷ xs) = get_drop n xs

pub doer : (script : Script) (told : Option Tables) (places : Nodings) (h : Noded) (e : NodeEntry) → IsNodeStep script told places h e → Doer script places h e
doer script told places h e t = by_both e.entry.session (second_half h) refl refl t.act
  where
    by_first : (o : Option Key) → slice_get (queue script e.node h) 0 ≡ o → e.entry.session ≡ None → second_half h ≡ None →
        first_half script h e.node e.entry.tick ≡ Some e.entry.act → Doer script places h e
    by_first None q p r a = let g : ◌≡◌ {A = Option Act} None (Some e.entry.act) = rw q at a in none_some g
    by_first (Some k) q p r a =
        let g : Some (Act.Lock k None (floor (of_node e.node h) e.entry.tick)) ≡ Some e.entry.act = rw q at a in
        Doer.First k p r (sym (get_drop (fence_count e.node h) (pairs script e.node h)) ∙ q) (sym (some_same g))

    by_both : (by : Option ℕ) (half : Option (ℕ × Act)) → e.entry.session ≡ by → second_half h ≡ half →
        due_of script places h e.node e.entry.tick by half ≡ Some e.entry.act → Doer script places h e
    by_both (Some s) None p q a =
        let c : ((node_of places s == e.node) ≡ true) × (next script s (own s (entries h)) ≡ Some e.entry.act) =
        cond_some (node_of places s == e.node) (next script s (own s (entries h))) e.entry.act a in
        Doer.Session s p (rw p (eq-eqb s s refl)) (eqb-true (node_of places s) e.node c.0) q c.1
    by_both (Some s) (Some half) p q a = none_some a
    by_both None None p q a = by_first (slice_get (queue script e.node h) 0) refl p q a
    by_both None (Some half) p q a =
        let c : ((half.0 == e.node) ≡ true) × (Some half.1 ≡ Some e.entry.act) = cond_some (half.0 == e.node) (Some half.1) e.entry.act a in
        let z : (k : Key) × (i : ℕ) × (half ≡ (half.0, Act.Unlock k i)) = second_is h half q in
        let n : half.0 ≡ e.node = eqb-true half.0 e.node c.0 in
        Doer.Second z.0 z.1 p (q ∙ ap Some (z.2 ∙ ap (λ x. (x, Act.Unlock z.0 z.1)) n)) (sym (some_same c.1) ∙ ap (λ x. x.1) z.2)

-- the replies: a region and the registry see the node's entries, every other part all entries

region_case : (script : Script) (start : Tables) (cs : List Change) (rows : Tables) (n : ℕ) (h : Noded) (s now : ℕ) (a : Act) (j : Key) → key_in a ≡ Some j →
    (reply_by script cs rows (seen_at (part_of a s) n h) s now a ≡ reply_of script start (of_node n h) s now a) × (fault_of cs a ≡ None)
region_case script start cs rows n h s now (Act.Get k t) j p = (refl, refl)
region_case script start cs rows n h s now (Act.Put k r t f) j p = (refl, refl)
region_case script start cs rows n h s now (Act.AfterInsert k r f) j p = (refl, refl)
region_case script start cs rows n h s now (Act.AfterUpdate k i r) j p = (refl, refl)
region_case script start cs rows n h s now (Act.Lock k v f) j p = (refl, refl)
region_case script start cs rows n h s now (Act.Unlock k i) j p = (refl, refl)
region_case script start cs rows n h s now (Act.RegionRemove k) j p = (refl, refl)
region_case script start cs rows n h s now (Act.Evict k) j p = (refl, refl)
region_case script start cs rows n h s now _ j p = none_some p

all_entries : (p : Part) (n : ℕ) (h : Noded) → is_of_node p ≡ false → seen_at p n h ≡ entries h
all_entries p n h e = rw e refl

module _ (script : Script) (start : Tables) (places : Nodings) (h : Noded) (e : NodeEntry) (t : IsNodeStep script (Some start) places h e) where
  -- a region answers as a plain journal of the node's entries has it
  pub region_reply : (j : Key) → key_in e.entry.act ≡ Some j → IsReply script (Some start) (of_node e.node h) e.entry
  region_reply j p =
      let c : (reply_by script (changes (unwrap_or e.entry.session 0) (entries h)) (committed start (entries h))
      (seen_at (part_of e.entry.act (unwrap_or e.entry.session 0)) e.node h) (unwrap_or e.entry.session 0) e.entry.tick e.entry.act
      ≡ reply_of script start (of_node e.node h) (unwrap_or e.entry.session 0) e.entry.tick e.entry.act)
      × (fault_of (changes (unwrap_or e.entry.session 0) (entries h)) e.entry.act ≡ None) =
      region_case script start (changes (unwrap_or e.entry.session 0) (entries h)) (committed start (entries h)) e.node h (unwrap_or e.entry.session 0) e.entry.tick e.entry.act j p in
      elim t.reply [
        | inl q ↦ inl (subst (λ z. e.entry.reply ≡ reply_by script (changes (unwrap_or e.entry.session 0) (entries h)) (committed start (entries h))
            (seen_at z e.node h) (unwrap_or e.entry.session 0) e.entry.tick e.entry.act) (sym t.part) q ∙ c.0)
        | inr f ↦ none_some (sym c.1 ∙ f)
      ]

  -- the store and the session itself answer as a plain journal of all entries has it
  pub whole_reply : is_of_node (part_of e.entry.act (unwrap_or e.entry.session 0)) ≡ false → IsReply script (Some start) (entries h) e.entry
  whole_reply p = elim t.reply [
    | inl q ↦ inl (subst (λ z. e.entry.reply ≡ reply_by script (changes (unwrap_or e.entry.session 0) (entries h)) (committed start (entries h))
        z (unwrap_or e.entry.session 0) e.entry.tick e.entry.act)
        (ap (λ z. seen_at z e.node h) (sym t.part) ∙ all_entries (part_of e.entry.act (unwrap_or e.entry.session 0)) e.node h p) q)
    | inr f ↦ inr f
  ]

  begin_reply : e.entry.act ≡ Act.Begin → e.entry.reply ≡ Reply.Began (floor (of_node e.node h) e.entry.tick)
  begin_reply p = elim t.reply [
    | inl q ↦
        let g : e.entry.reply ≡ reply_by script (changes (unwrap_or e.entry.session 0) (entries h)) (committed start (entries h))
        (seen_at (part_of e.entry.act (unwrap_or e.entry.session 0)) e.node h) (unwrap_or e.entry.session 0) e.entry.tick e.entry.act =
        subst (λ z. e.entry.reply ≡ reply_by script (changes (unwrap_or e.entry.session 0) (entries h)) (committed start (entries h))
        (seen_at z e.node h) (unwrap_or e.entry.session 0) e.entry.tick e.entry.act) (sym t.part) q in
        subst (λ a. e.entry.reply ≡ reply_by script (changes (unwrap_or e.entry.session 0) (entries h)) (committed start (entries h))
        (seen_at (part_of a (unwrap_or e.entry.session 0)) e.node h) (unwrap_or e.entry.session 0) e.entry.tick a) p g
    | inr f ↦ none_some (subst (λ a. fault_of (changes (unwrap_or e.entry.session 0) (entries h)) a ≡ Some e.entry.reply) p f)
  ]

module _ (script : Script) (told : Option Tables) (places : Nodings) (h : Noded) (e : NodeEntry) (t : IsNodeStep script told places h e) where
  -- a session's entry is at its node
  pub at_home : (s : ℕ) → is_by s e.entry ≡ true → node_of places s ≡ e.node
  at_home s p = by_doer (doer script told places h e t)
    where
      w : e.entry.session ≡ Some s
      w = is_some_session s e.entry.session p

      by_doer : Doer script places h e → node_of places s ≡ e.node
      by_doer (Doer.Session u q b n z a) = subst (λ x. node_of places x ≡ e.node) (some_same (sym q ∙ w)) n
      by_doer (Doer.First k q z a b) = none_some (sym q ∙ w)
      by_doer (Doer.Second k i q z a) = none_some (sym q ∙ w)

  pub next_of : (s : ℕ) → is_by s e.entry ≡ true → next script s (own s (entries h)) ≡ Some e.entry.act
  next_of s p = by_doer (doer script told places h e t)
    where
      w : e.entry.session ≡ Some s
      w = is_some_session s e.entry.session p

      by_doer : Doer script places h e → next script s (own s (entries h)) ≡ Some e.entry.act
      by_doer (Doer.Session u q b n z a) = subst (λ x. next script x (own x (entries h)) ≡ Some e.entry.act) (some_same (sym q ∙ w)) a
      by_doer (Doer.First k q z a b) = none_some (sym q ∙ w)
      by_doer (Doer.Second k i q z a) = none_some (sym q ∙ w)

module _ (script : Script) (told : Option Tables) (places : Nodings) where
  -- the entries of s are the acts of its plan, each once and in order
  pub in_order : (s : ℕ) (h : Noded) → AreNodesLegal script told places h → InOrder (plan_of script s) (own s (entries h))
  in_order s [] l = tt
  in_order s (e ∷ h) l = by_session (tested (is_by s e.entry)) (in_order s h l.0)
    where
      by_session : Tested (is_by s e.entry) → InOrder (plan_of script s) (own s (entries h)) → InOrder (plan_of script s) (own s (entries (e ∷ h)))
      by_session (inr p) f = rw p f
      by_session (inl p) f = rw p (f, next_is script s (own s (entries h)) e.entry.act (next_of script told places h e l.1 s p))

  -- a node's sessions have all their entries there, and no other has any
  pub own_at : (s n : ℕ) (h : Noded) → AreNodesLegal script told places h → node_of places s ≡ n → own s (of_node n h) ≡ own s (entries h)
  own_at s n [] l p = refl
  own_at s n (e ∷ h) l p = by_node (tested (e.node == n)) (tested (is_by s e.entry)) (own_at s n h l.0 p)
    where
      by_node : Tested (e.node == n) → Tested (is_by s e.entry) → own s (of_node n h) ≡ own s (entries h) → own s (of_node n (e ∷ h)) ≡ own s (entries (e ∷ h))
      by_node (inl q) (inl b) i = rw (q, b) (ap (λ z. e.entry ∷ z) i)
      by_node (inl q) (inr b) i = rw (q, b) i
      by_node (inr q) (inr b) i = rw (q, b) i
      by_node (inr q) (inl b) i = absurd (eqb-false e.node n q (sym (at_home script told places h e l.1 s b) ∙ p))

  pub own_away : (s n : ℕ) (h : Noded) → AreNodesLegal script told places h → (node_of places s ≡ n → ⊥) → own s (of_node n h) ≡ []
  own_away s n [] l p = refl
  own_away s n (e ∷ h) l p = by_node (tested (e.node == n)) (tested (is_by s e.entry)) (own_away s n h l.0 p)
    where
      by_node : Tested (e.node == n) → Tested (is_by s e.entry) → own s (of_node n h) ≡ [] → own s (of_node n (e ∷ h)) ≡ []
      by_node (inr q) b i = rw q i
      by_node (inl q) (inr b) i = rw (q, b) i
      by_node (inl q) (inl b) i = absurd (p (at_home script told places h e l.1 s b ∙ eqb-true e.node n q))

  pub not_restart : (h : Noded) (e : NodeEntry) → AreNodesLegal script told places (e ∷ h) → is_outside e.entry.act ≡ false
  not_restart h e l = by_doer (doer script told places h e l.1)
    where
      by_doer : Doer script places h e → is_outside e.entry.act ≡ false
      by_doer (Doer.Session s q b n z a) = inside script s (own s (entries h)) e.entry.act (in_order s h l.0) a
      by_doer (Doer.First k q z a b) = rw b refl
      by_doer (Doer.Second k i q z a) = rw a refl

  -- ticks

  pub last_le : (n : ℕ) (p : Entry → Bool) (h : Noded) → AreNodesLegal script told places h → last_tick p (of_node n h) ≤ length h
  last_le n p [] l = omega arith
  last_le n p (e ∷ h) l = by_node (tested (e.node == n)) (tested (p e.entry)) (last_le n p h l.0) l.1.tick
    where
      by_node : Tested (e.node == n) → Tested (p e.entry) → last_tick p (of_node n h) ≤ length h → e.entry.tick ≡ length h + 1 → last_tick p (of_node n (e ∷ h)) ≤ length (e ∷ h)
      by_node (inl q) (inl b) i w = rw (q, b) (omega arith)
      by_node (inl q) (inr b) i w = rw (q, b) (omega arith)
      by_node (inr q) b i w = rw q (omega arith)

  pub timely : (n : ℕ) (h : Noded) (e : NodeEntry) → AreNodesLegal script told places (e ∷ h) → IsTimely e.entry (of_node n h)
  timely n h e l = record {
    positive = omega (arith, l.1.tick);
    bounded = l.1.bounded;
    ordered = omega (arith, l.1.tick, last_le n (λ _. true) h l.0);
    in_part = omega (arith, l.1.tick, last_le n (λ d. same_part e.entry.part d.part) h l.0);
    in_session = omega (arith, l.1.tick, last_le n (λ d. same_session e.entry.session d.session) h l.0);
  }

  pub ordered_at : (n : ℕ) (h : Noded) → AreNodesLegal script told places h → IsOrdered (of_node n h)
  ordered_at n [] l = tt
  ordered_at n (e ∷ h) l = by_node (tested (e.node == n)) (ordered_at n h l.0)
    where
      by_node : Tested (e.node == n) → IsOrdered (of_node n h) → IsOrdered (of_node n (e ∷ h))
      by_node (inl q) i = rw q (timely n h e l, i)
      by_node (inr q) i = rw q i

module _ (script : Script) (start : Tables) (places : Nodings) where
  -- each Begin at a node answers the node's floor
  pub floored_at : (n : ℕ) (h : Noded) → AreNodesLegal script (Some start) places h → AreFloored (of_node n h)
  floored_at n [] l = tt
  floored_at n (e ∷ h) l = by_node (tested (e.node == n)) (floored_at n h l.0)
    where
      by_node : Tested (e.node == n) → AreFloored (of_node n h) → AreFloored (of_node n (e ∷ h))
      by_node (inl q) i = rw q (
        i,
        λ a. subst (λ m. e.entry.reply ≡ Reply.Began (floor (of_node m h) e.entry.tick)) (eqb-true e.node n q)
            (begin_reply script start places h e l.1 a),
      )
      by_node (inr q) i = rw q i

  -- what a session's own entries allow it to do

  right_entry : (k : Key) (s : ℕ) (h : Noded) (e : NodeEntry) → IsNodeStep script (Some start) places h e → is_by s e.entry ≡ true → Right k (own s (entries h)) e.entry
  right_entry k s h e t p = λ j x q m. new_here j x (made_by e.entry.act e.entry.reply j x q) m
    where
      by_s : e.entry.session ≡ Some s
      by_s = is_some_session s e.entry.session p

      new_here : (j : Key) (x : Row) → IsMade e.entry.act e.entry.reply j x → same_key j k ≡ true → is_in k (changes_in (own s (entries h))) ≡ false
      new_here j x d m = elim (whole_reply script start places h e t (rw d.act refl)) [
        | inl q ↦ let g : e.entry.reply ≡ reply_of script start (entries h) (unwrap_or (Some s) 0) e.entry.tick (Act.Persist j x) =
            subst (λ a. e.entry.reply ≡ reply_of script start (entries h) (unwrap_or (Some s) 0) e.entry.tick a) d.act
            (subst (λ b. e.entry.reply ≡ reply_of script start (entries h) (unwrap_or b 0) e.entry.tick e.entry.act) by_s q) in
            let b : (is_some (held (own s (entries h)) j) || is_in j (changes s (entries h))) ≡ false =
            persist_new (is_some (held (own s (entries h)) j) || is_in j (changes s (entries h))) (sym d.reply ∙ g) in
            subst (λ z. is_in z (changes_in (own s (entries h))) ≡ false) (same_key_eq j k m)
            (or_parts (is_some (held (own s (entries h)) j)) (is_in j (changes s (entries h))) b).1
        | inr f ↦ none_some (subst (λ a. fault_of (changes (unwrap_or e.entry.session 0) (entries h)) a ≡ Some e.entry.reply) d.act f)
      ]

  module _ (k : Key) (rw_k : strategy script k.entity ≡ Strategy.ReadWrite) where
    all_right : (s : ℕ) (h : Noded) → AreNodesLegal script (Some start) places h → AllRight (Allowed script k) (Right k) (own s (entries h))
    all_right s [] l = tt
    all_right s (e ∷ h) l = by_session (tested (is_by s e.entry)) (all_right s h l.0)
      where
        by_session : Tested (is_by s e.entry) → AllRight (Allowed script k) (Right k) (own s (entries h)) → AllRight (Allowed script k) (Right k) (own s (entries (e ∷ h)))
        by_session (inr p) a = rw p a
        by_session (inl p) a = rw p (a, right_entry k s h e l.1 p)

    -- each act of a session is allowed by what it did before
    pub allowed_act : (s : ℕ) (h : Noded) (e : NodeEntry) → AreNodesLegal script (Some start) places (e ∷ h) → is_by s e.entry ≡ true →
        Allowed script k (own s (entries h)) e.entry.act
    allowed_act s h e l p =
        Walks.allowed_own (Allowed script k) (Right k) script (IsOver k) (IsSettled k) (good script k rw_k) (tt, refl) s (own s (entries h)) e.entry.act
        (in_order script (Some start) places s h l.0) (all_right s h l.0) (next_of script (Some start) places h e l.1 s p)

    pub allowed_at : (n : ℕ) (h : Noded) → AreNodesLegal script (Some start) places h → AreAllowed script k (of_node n h)
    allowed_at n [] l = tt
    allowed_at n (e ∷ h) l = by_node (tested (e.node == n)) (allowed_at n h l.0)
      where
        by_node : Tested (e.node == n) → AreAllowed script k (of_node n h) → AreAllowed script k (of_node n (e ∷ h))
        by_node (inr q) i = rw q i
        by_node (inl q) i = rw q (
          i,
          λ s p.
              subst (λ m. Allowed script k m e.entry.act) (sym (own_at script (Some start) places s n h l.0 (at_home script (Some start) places h e l.1 s p ∙ eqb-true e.node n q)))
              (allowed_act s h e l p),
        )
