-- What is claimed of the item of a sound key at a node.
use Rattle.std.proofs.Common.{◌≡◌, ℕ, zero, suc, ◌+◌, ◌-◌, ◌≤◌, ◌<◌, inl, inr, Bool, true, false, not, ◌&&◌, ◌||◌, ◌==◌, nat_le, [], ◌∷◌, length, take, Some, refl, ap, sym, ◌∙◌, subst, arith}
use Rattle.std.proofs.lemmas.Bool.{or_parts, and_parts, leb-false}
use Rattle.hib_journal.specs.Types.{Key, Row, Strategy, Script}
use Rattle.hib_base.specs.Tables.{Tables}
use Rattle.hib_journal.specs.Slot.{Slot, slot}
use Rattle.hib_journal.specs.Next.{strategy}
use Rattle.hib_journal.specs.Legal.{IsReply}
use Rattle.hib_base.proofs.Tables.{Tested, tested}
use Rattle.hib_law.proofs.Whole.{got_by, hit_item}
use Rattle.hib_nodes_law.specs.Types.{NodeEntry, Noded, Nodings}
use Rattle.hib_nodes_law.specs.Nodes.{of_node, changes_key, commit_count, crossed, fenced, behind, is_from, up_to, stores, since_store, since, gave, is_sound_at}
use Rattle.hib_nodes_law.specs.Legal.{IsNodeStep, AreNodesLegal}
use Rattle.hib_nodes_law.specs.Law.{AtEachPrefix, AtEachEntry, IsLater, IsItemOf, IsItemTrue, IsHitTrue, NodesCohere}
use Rattle.hib_nodes_law.proofs.Sight
use Rattle.hib_nodes_law.proofs.Rules.{region_reply}
use Rattle.hib_nodes_law.proofs.Rows.{WasRow, IsTail, tail_refl, tail_le, was_at}
use Rattle.hib_nodes_law.proofs.Queues.{known, known_behind, none_behind}
use Rattle.hib_nodes_law.proofs.Since.{item_since}
use Rattle.hib_nodes_law.proofs.Whole.{coherent}

-- tails

nil_cons : {a : NodeEntry} {x : Noded} {P : Type 0} → ◌≡◌ {A = Noded} [] (a ∷ x) → P
nil_cons e = absurd (no e)
  where
    no : {a : NodeEntry} {x : Noded} → ◌≡◌ {A = Noded} [] (a ∷ x) → ⊥
    no e = cc

tail_trans : (f g h : Noded) → IsTail f g → IsTail g h → IsTail f h
tail_trans f g [] p q = subst (λ z. IsTail f z) q p
tail_trans f g (e ∷ h) p (inl q) = subst (λ z. IsTail f z) q p
tail_trans f g (e ∷ h) p (inr q) = inr (tail_trans f g h p q)

tail_more : (e : NodeEntry) (g h : Noded) → IsTail (e ∷ g) h → IsTail g h
tail_more e g h p = tail_trans g (e ∷ g) h (inr (tail_refl g)) p

up_to_tail : (p : NodeEntry → Bool) (h : Noded) → IsTail (up_to p h) h
up_to_tail p [] = refl
up_to_tail p (e ∷ h) = by_test (tested (p e)) (up_to_tail p h)
  where
    by_test : Tested (p e) → IsTail (up_to p h) h → IsTail (up_to p (e ∷ h)) (e ∷ h)
    by_test (inl t) i = let u : up_to p (e ∷ h) ≡ e ∷ h = rw t refl in inl u
    by_test (inr t) i = let u : up_to p (e ∷ h) ≡ up_to p h = rw t refl in inr (subst (λ z. IsTail z h) (sym u) i)

since_tail : (n : ℕ) (k : Key) (h : Noded) → IsTail (since n k h) h
since_tail n k h = by_store (up_to (stores n k) h) (up_to_tail (stores n k) h)
  where
    by_store : (g : Noded) → IsTail g h → IsTail (since_store k g) h
    by_store [] p = p
    by_store (e ∷ g) p = tail_trans (up_to (gave k e.entry.act e.entry.session) g) g h (up_to_tail (gave k e.entry.act e.entry.session) g) (tail_more e g h p)

tail_length : (g h : Noded) → IsTail g h → length g ≤ length h
tail_length g [] p = subst (λ z. length z ≤ 0) (sym p) (omega arith)
tail_length g (e ∷ h) (inl p) = subst (λ z. length z ≤ length (e ∷ h)) (sym p) (omega arith)
tail_length g (e ∷ h) (inr p) = omega (arith, tail_length g h p)

-- of two tails the shorter one is a tail of the other
tail_of : (g f h : Noded) → IsTail g h → IsTail f h → length g ≤ length f → IsTail g f
tail_of g f [] p q l = subst (λ z. IsTail g z) (sym q) p
tail_of g f (e ∷ h) p (inl q) l = subst (λ z. IsTail g z) (sym q) p
tail_of g f (e ∷ h) (inr p) (inr q) l = tail_of g f h p q l
tail_of g f (e ∷ h) (inl p) (inr q) l =
    let a : length g ≡ suc (length h) = ap length p in
    absurd (omega (arith, tail_length f h q))

at_tails : (P : Noded → NodeEntry → Type 0) (h w : Noded) → IsTail h w → ((f : Noded) (c : NodeEntry) → IsTail (c ∷ f) w → P f c) → AtEachEntry P h
at_tails P [] w p f = tt
at_tails P (e ∷ h) w p f = (f h e p, at_tails P h w (tail_more e h w p) f)

-- the ticks of some entries are at most this
abbrev AreEarly : ℕ → Noded → Type 0
AreEarly t [] = Unit {0}
AreEarly t (b ∷ bs) = (b.entry.tick ≤ t) × AreEarly t bs

later_early : (t u : ℕ) (bs : Noded) → t ≤ u → AreEarly t bs → AreEarly u bs
later_early t u [] l a = tt
later_early t u (b ∷ bs) l a = (omega (arith, a.0), later_early t u bs l a.1)

module _ (script : Script) (start : Tables) (places : Nodings) (n : ℕ) (k : Key) (rw_k : strategy script k.entity ≡ Strategy.ReadWrite) where
  crossed_early : (h : Noded) → AreNodesLegal script (Some start) places h → AreEarly (length h) (crossed n k h)
  crossed_early [] l = tt
  crossed_early (e ∷ h) l = by_test (tested (not (e.node == n) && changes_key k h e)) (later_early (length h) (length (e ∷ h)) (crossed n k h) (omega arith) (crossed_early h l.0))
    where
      by_test : Tested (not (e.node == n) && changes_key k h e) → AreEarly (length (e ∷ h)) (crossed n k h) → AreEarly (length (e ∷ h)) (crossed n k (e ∷ h))
      by_test (inl t) i = rw t (omega (arith, l.1.tick), i)
      by_test (inr t) i = rw t i

  -- as many commits come after c as there are entries of the newest ones that crossed, if all of these come after c
  after_count : (c : NodeEntry) (f h : Noded) (j : ℕ) → AreNodesLegal script (Some start) places h → IsTail (c ∷ f) h →
      is_from (take j (crossed n k h)) c ≡ false → length (take j (crossed n k h)) + commit_count k (c ∷ f) ≤ commit_count k h
  after_count c f [] j l p a = nil_cons (sym p)
  after_count c f (e ∷ h) j l (inl p) a =
      let m : c ≡ e = head p in
      let t : c.entry.tick ≡ length h + 1 = ap (λ z. z.entry.tick) m ∙ l.1.tick in
      let z : length (take j (crossed n k (e ∷ h))) ≡ 0 = none j (crossed n k (e ∷ h)) (crossed_early (e ∷ h) l) t a in
      let d : commit_count k (c ∷ f) ≡ commit_count k (e ∷ h) = ap (commit_count k) p in
      omega arith
    where
      head : c ∷ f ≡ e ∷ h → c ≡ e
      head p = cc

      none : (j : ℕ) (bs : Noded) → AreEarly (length (e ∷ h)) bs → c.entry.tick ≡ length h + 1 → is_from (take j bs) c ≡ false → length (take j bs) ≡ 0
      none zero bs w t a = refl
      none (suc j) [] w t a = refl
      none (suc j) (b ∷ bs) w t a =
          let g : (nat_le b.entry.tick c.entry.tick ≡ false) × (is_from (take j bs) c ≡ false) = or_parts (nat_le b.entry.tick c.entry.tick) (is_from (take j bs) c) a in
          let u : c.entry.tick < b.entry.tick = leb-false b.entry.tick c.entry.tick g.0 in
          let v : b.entry.tick ≤ suc (length h) = w.0 in
          absurd (omega arith)
  after_count c f (e ∷ h) j l (inr p) a = by_test (tested (not (e.node == n) && changes_key k h e)) j a (λ i. after_count c f h i l.0 p)
    where
      more : commit_count k h ≤ commit_count k (e ∷ h)
      more = tail_le k h (e ∷ h) (inr (tail_refl h))

      by_test : Tested (not (e.node == n) && changes_key k h e) → (j : ℕ) → is_from (take j (crossed n k (e ∷ h))) c ≡ false →
          ((i : ℕ) → is_from (take i (crossed n k h)) c ≡ false → length (take i (crossed n k h)) + commit_count k (c ∷ f) ≤ commit_count k h) →
          length (take j (crossed n k (e ∷ h))) + commit_count k (c ∷ f) ≤ commit_count k (e ∷ h)
      by_test t zero a v =
          let b : commit_count k (c ∷ f) ≤ commit_count k h = tail_le k (c ∷ f) h p in
          omega (arith, more)
      by_test (inl t) (suc j) a v =
          let x : (not (e.node == n) ≡ true) × (changes_key k h e ≡ true) = and_parts (not (e.node == n)) (changes_key k h e) t in
          let g : (nat_le e.entry.tick c.entry.tick || is_from (take j (crossed n k h)) c) ≡ false = rw t at a in
          let i : length (take j (crossed n k h)) + commit_count k (c ∷ f) ≤ commit_count k h =
          v j (or_parts (nat_le e.entry.tick c.entry.tick) (is_from (take j (crossed n k h)) c) g).1 in
          rw (t, x.1) (omega arith)
      by_test (inr t) (suc j) a v =
          let g : is_from (take (suc j) (crossed n k h)) c ≡ false = rw t at a in
          let i : length (take (suc j) (crossed n k h)) + commit_count k (c ∷ f) ≤ commit_count k h = v (suc j) g in
          rw t (omega (arith, more))

  -- if no more commits came after g than are behind, each of them is behind, or after one that is
  later_all : (g h : Noded) → AreNodesLegal script (Some start) places h → IsTail g h → commit_count k h ≤ commit_count k g + length (behind n k h) →
      AtEachEntry (IsLater k g (behind n k h)) h
  later_all g h l p w = at_tails (IsLater k g (behind n k h)) h h (tail_refl h) (λ f c q a b. by_test f c q a b (tested (is_from (behind n k h) c)))
    where
      by_test : (f : Noded) (c : NodeEntry) → IsTail (c ∷ f) h → length g ≤ length f → changes_key k f c ≡ true → Tested (is_from (behind n k h) c) →
          is_from (behind n k h) c ≡ true
      by_test f c q a b (inl t) = t
      by_test f c q a b (inr t) =
          let d : length (behind n k h) + commit_count k (c ∷ f) ≤ commit_count k h = after_count c f h (length (crossed n k h) - fenced n k h) l q t in
          let x : commit_count k (c ∷ f) ≡ 1 + commit_count k f = rw b refl in
          let y : commit_count k g ≤ commit_count k f = tail_le k g f (tail_of g f h p (tail_more c f h q) a) in
          absurd (omega arith)

  item_of : (h : Noded) (r : Row) (t : ℕ) → AreNodesLegal script (Some start) places h → is_sound_at n k h ≡ true → slot script.timeout k (of_node n h) ≡ Slot.Item r t →
      IsItemOf script start n k h r
  item_of h r t l s e =
      let i : WasRow start k (commit_count k (since n k h)) r h × (known n k h ≤ commit_count k (since n k h)) =
      subst (λ y. Sight.IsItemOf y (λ m b. WasRow start k m b h) (known n k h) (commit_count k (since n k h))) e
      (coherent script start places n k rw_k h l s).holding.item in
      let b : commit_count k h ≡ known n k h + length (behind n k h) = known_behind script start places n k rw_k h l in
      let f : commit_count k h ≤ commit_count k (since n k h) + length (behind n k h) = omega (arith, i.1) in
      record {
        there = item_since script (Some start) places n k h r t l e;
        row = was_at start k r (since n k h) h (since_tail n k h) i.0;
        later = later_all (since n k h) h l (since_tail n k h) f;
        few = f;
        delivered = λ q.
            let z : length (behind n k h) ≡ 0 = none_behind script start places n k rw_k h l q in
            let a : commit_count k (since n k h) ≤ commit_count k h = tail_le k (since n k h) h (since_tail n k h) in
            let c : commit_count k (since n k h) ≡ commit_count k h = omega arith in
            was_at start k r h h (tail_refl h) (subst (λ m. WasRow start k m r h) c i.0);
      }

  hit_of : (h : Noded) (e : NodeEntry) → IsNodeStep script (Some start) places h e → IsHitTrue script n k h e
  hit_of h e s t r d a p =
      let o : IsReply script (Some start) (of_node n h) e.entry = subst (λ m. IsReply script (Some start) (of_node m h) e.entry) d (region_reply script start places h e s k (rw a refl)) in
      hit_item (slot script.timeout k (of_node n h)) t r (sym (got_by script start k (of_node n h) e.entry t rw_k o a) ∙ p)

  pub nodes_cohere : (h : Noded) → AreNodesLegal script (Some start) places h → NodesCohere script start n k h
  nodes_cohere h l = record { item = items h l; hit = hits h l }
    where
      items : (h : Noded) → AreNodesLegal script (Some start) places h → AtEachPrefix (λ g. is_sound_at n k g ≡ true → IsItemTrue script start n k g) h
      items [] l = λ s r t e. item_of [] r t l s e
      items (e ∷ h) l = (λ s r t x. item_of (e ∷ h) r t l s x, items h l.0)

      hits : (h : Noded) → AreNodesLegal script (Some start) places h → AtEachEntry (λ g e. is_sound_at n k g ≡ true → IsHitTrue script n k g e) h
      hits [] l = tt
      hits (e ∷ h) l = (λ s. hit_of h e l.1, hits h l.0)
