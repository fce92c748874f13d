-- A sound read-write key is coherent at each node at every entry of every legal journal of two nodes.
use Rattle.std.specs.Option.{option_map_or}
use Rattle.std.specs.List.{list_all}
use Rattle.std.proofs.Common.{◌≡◌, ℕ, ◌≤◌, ◌<◌, ◌⊎◌, inl, inr, true, false, not, ◌&&◌, ◌==◌, [], ◌∷◌, Some, None, Option, refl, sym, ◌∙◌, subst, arith, eq-eqb}
use Rattle.std.proofs.lemmas.Bool.{true≢false, false≢true, and_parts, not-true}
use Rattle.hib_journal.specs.Types.{Key, Row, Strategy, Script, Reply}
use Rattle.hib_base.specs.Tables.{Tables, row_at}
use Rattle.hib_journal.specs.Sessions.{is_by, own, changes, changes_in, changes_after, committed, view}
use Rattle.hib_journal.specs.Slot.{Touch, Slot, slot, history, touch}
use Rattle.hib_journal.specs.Regions
use Rattle.hib_journal.specs.Held.{Arrival, arrival, is_begin}
use Rattle.hib_journal.specs.Next.{strategy, is_in}
use Rattle.hib_journal.specs.Legal.{IsReply}
use Rattle.hib_journal.specs.Sound.{is_calm, was_reused}
use Rattle.hib_base.proofs.Tables.{Tested, tested}
use Rattle.hib_journal.proofs.Slots.{IsKept}
use Rattle.hib_journal.proofs.Sessions.{is_some_session}
use Rattle.hib_law.proofs.Basics.{none_some, some_same}
use Rattle.hib_law.proofs.Coherent.{vacant_at_first}
use Rattle.hib_law.proofs.HeldRows.{HasRead, not_in_before}
use Rattle.hib_law.proofs.Views.{history_step}
use Rattle.hib_law.proofs.Whole.{Read, read_by, got_by, hit_item, loaded_by, view_unchanged}
use Rattle.hib_nodes_law.specs.Types.{NodeEntry, Noded, Nodings}
use Rattle.hib_nodes_law.specs.Nodes.{entries, of_node, commit_count, since, is_sound_at}
use Rattle.hib_nodes_law.specs.Legal.{node_of, AreNodesLegal}
use Rattle.hib_nodes_law.proofs.Sight.{IsItemOf, IsHolding, IsCoherent}
use Rattle.hib_nodes_law.proofs.Rules.{region_reply, whole_reply, at_home}
use Rattle.hib_nodes_law.proofs.Rows.{WasRow, was_now, runs_on, once, growing}
use Rattle.hib_nodes_law.proofs.Queues.{known, known_le}
use Rattle.hib_nodes_law.proofs.Seen.{SeenAt, seen_on, seen_now, is_mine, mine_is, not_mine, unbegun, open_home}
use Rattle.hib_nodes_law.proofs.Views.{view_of, Reads, was_open}
use Rattle.hib_nodes_law.proofs.Steps.{next_coherent, next_kept}

pub record WasSound (n : ℕ) (k : Key) (h : Noded) (e : NodeEntry) : Type 0 where
  pub before : is_sound_at n k h ≡ true
  pub calm : (e.node == n) ≡ true → (x : Touch) → touch k e.entry ≡ Some x → is_calm x ≡ true
  pub once : was_reused k (entries (e ∷ h)) ≡ false

module _ (script : Script) (start : Tables) (places : Nodings) (n : ℕ) (k : Key) (rw_k : strategy script k.entity ≡ Strategy.ReadWrite) where
  pub was_sound : (h : Noded) (e : NodeEntry) → AreNodesLegal script (Some start) places (e ∷ h) → is_sound_at n k (e ∷ h) ≡ true → WasSound n k h e
  unfolding is_sound_at
  was_sound h e l s =
      let p : (list_all (λ t. is_calm t.0) (history k (of_node n (e ∷ h))) ≡ true) × (not (was_reused k (entries (e ∷ h))) ≡ true) =
      and_parts (list_all (λ t. is_calm t.0) (history k (of_node n (e ∷ h)))) (not (was_reused k (entries (e ∷ h)))) s in
      let o : was_reused k (entries (e ∷ h)) ≡ false = not-true (was_reused k (entries (e ∷ h))) p.1 in
      let b : was_reused k (entries h) ≡ false = (once script start places k rw_k h e l o).1 in
      let c : (list_all (λ t. is_calm t.0) (history k (of_node n h)) ≡ true) × ((e.node == n) ≡ true → (x : Touch) → touch k e.entry ≡ Some x → is_calm x ≡ true) =
      by_node (tested (e.node == n)) p.0 in
      record { before = rw (c.0, b); calm = c.1; once = o }
    where
      C : Type 0
      C = (list_all (λ t. is_calm t.0) (history k (of_node n h)) ≡ true) × ((e.node == n) ≡ true → (x : Touch) → touch k e.entry ≡ Some x → is_calm x ≡ true)

      by_touch : (t : Option Touch) → touch k e.entry ≡ t →
          list_all (λ x. is_calm x.0) (option_map_or (λ t. (t, e.entry.tick) ∷ (history k (of_node n h))) (touch k e.entry) (history k (of_node n h))) ≡ true →
          (list_all (λ t. is_calm t.0) (history k (of_node n h)) ≡ true) × ((x : Touch) → touch k e.entry ≡ Some x → is_calm x ≡ true)
      by_touch None p c = (rw p at c, λ x q. none_some (sym p ∙ q))
      by_touch (Some y) p c =
          let g : (is_calm y && list_all (λ t. is_calm t.0) (history k (of_node n h))) ≡ true = rw p at c in
          let w : (is_calm y ≡ true) × (list_all (λ t. is_calm t.0) (history k (of_node n h)) ≡ true) =
          and_parts (is_calm y) (list_all (λ t. is_calm t.0) (history k (of_node n h))) g in
          (w.1, λ x q. subst (λ z. is_calm z ≡ true) (some_same (sym p ∙ q)) w.0)

      by_node : Tested (e.node == n) → list_all (λ t. is_calm t.0) (history k (of_node n (e ∷ h))) ≡ true →
          (list_all (λ t. is_calm t.0) (history k (of_node n h)) ≡ true) × ((e.node == n) ≡ true → (x : Touch) → touch k e.entry ≡ Some x → is_calm x ≡ true)
      by_node (inr q) c = (rw q at c, λ r. absurd (true≢false (sym r ∙ q)))
      by_node (inl q) c =
          let d : list_all (λ t. is_calm t.0) (history k (e.entry ∷ of_node n h)) ≡ true = rw q at c in
          let w : (list_all (λ t. is_calm t.0) (history k (of_node n h)) ≡ true) × ((x : Touch) → touch k e.entry ≡ Some x → is_calm x ≡ true) =
          by_touch (touch k e.entry) refl (rw (history_step k e.entry (of_node n h) (runs_on script start places k rw_k h e l)) at d) in
          (w.0, λ r. w.1)

  pub is_kept : (h : Noded) → AreNodesLegal script (Some start) places h → IsKept script.timeout (history k (of_node n h))
  is_kept [] l = tt
  is_kept (e ∷ h) l = next_kept script start places n k rw_k h e l (is_kept h l.0)

  at_first : IsCoherent (view_of script start n k [])
  at_first = record {
    holding = subst (λ z. IsHolding (view_of script start n k []) z) (sym (vacant_at_first script.timeout))
        (record { item = tt; count = omega arith; single = tt; named = tt; lone = tt });
    growing = growing script start places k rw_k [] tt refl;
    past = λ s b m a z. absurd (false≢true a);
    safe = λ s b m a z. absurd (false≢true a);
  }

  -- what is read now is recent
  reads_now : (h : Noded) (e : NodeEntry) (s : ℕ) (b : Row) → AreNodesLegal script (Some start) places (e ∷ h) → node_of places s ≡ n → is_by s e.entry ≡ true →
      is_begin e.entry.act ≡ false → is_in k (changes s (entries h)) ≡ false → IsCoherent (view_of script start n k h) → Read k b e.entry.act e.entry.reply →
      (m : ℕ) × SeenAt start n k s b m (e ∷ h)
  reads_now h e s b l at p y x c (Read.ByLoad a r) =
      let v : Some b ≡ view start (entries h) s k =
      loaded_by script start k (entries h) e.entry s (Some b) (whole_reply script start places h e l.1 (rw a refl)) (is_some_session s e.entry.session p) a r in
      let w : row_at (committed start (entries h)) k ≡ Some b = sym (view_unchanged start (entries h) s k x) ∙ sym v in
      let u : row_at (committed start (entries (e ∷ h))) k ≡ row_at (committed start (entries h)) k = rw a refl in (
        commit_count k (e ∷ h),
        seen_now start n k s b (commit_count k (e ∷ h)) e h (mine_is script start places n k rw_k s h e l at p) y
            (was_now start k b (e ∷ h) (u ∙ w)) (known_le script start places n k rw_k (e ∷ h) l),
      )
  reads_now h e s b l at p y x c (Read.ByGet t a r) =
      let d : e.node ≡ n = sym (at_home script (Some start) places h e l.1 s p) ∙ at in
      let q : (e.node == n) ≡ true = eq-eqb e.node n d in
      let o : IsReply script (Some start) (of_node n h) e.entry =
      subst (λ m. IsReply script (Some start) (of_node m h) e.entry) d (region_reply script start places h e l.1 k (rw a refl)) in
      let g : Regions.got (slot script.timeout k (of_node n h)) t ≡ Reply.Hit b = sym (got_by script start k (of_node n h) e.entry t rw_k o a) ∙ r in
      let z : (u : ℕ) × (slot script.timeout k (of_node n h) ≡ Slot.Item b u) × (u < t) = hit_item (slot script.timeout k (of_node n h)) t b g in
      let i : WasRow start k (commit_count k (since n k h)) b h × (known n k h ≤ commit_count k (since n k h)) =
      subst (λ y. IsItemOf y (λ m b. WasRow start k m b h) (known n k h) (commit_count k (since n k h))) z.1 c.holding.item in
      let w : known n k (e ∷ h) ≡ known n k h = rw (q, is_some_session s e.entry.session p, a) (omega arith) in (
        commit_count k (since n k h),
        seen_now start n k s b (commit_count k (since n k h)) e h (mine_is script start places n k rw_k s h e l at p) y
            (inr i.0) (rw w i.1),
      )

  reads_next : (h : Noded) (e : NodeEntry) → AreNodesLegal script (Some start) places (e ∷ h) → IsCoherent (view_of script start n k h) → Reads start n k h → Reads start n k (e ∷ h)
  reads_next h e l c i s b o m x = by_session (tested (is_by s e.entry))
    where
      at : node_of places s ≡ n
      at = open_home script start places n k rw_k s (e ∷ h) l o

      on : (is_mine n s e && is_begin e.entry.act) ≡ false → HasRead k b (own s (entries h)) → is_in k (changes s (entries h)) ≡ false → (m : ℕ) × SeenAt start n k s b m (e ∷ h)
      on p m x =
          let r : (m : ℕ) × SeenAt start n k s b m h = i s b (was_open script start places n k rw_k h e l s p o) m x in
          (r.0, seen_on start n k s b r.0 e h p r.1)

      by_session : Tested (is_by s e.entry) → (m : ℕ) × SeenAt start n k s b m (e ∷ h)
      by_session (inr p) =
          let m2 : HasRead k b (own s (entries h)) = rw p at m in
          let x2 : is_in k (changes s (entries h)) ≡ false = rw p at x in
          on (unbegun script start places n k rw_k s e (not_mine script start places n k rw_k s e p)) m2 x2
      by_session (inl p) = by_begin (tested (is_begin e.entry.act))
        where
          by_begin : Tested (is_begin e.entry.act) → (m : ℕ) × SeenAt start n k s b m (e ∷ h)
          by_begin (inl y) = let g : ⊥ = rw (p, y) at m in absurd g
          by_begin (inr y) =
              let g : (arrival e.entry.act e.entry.reply ≡ Some (Arrival.Read k b)) ⊎ HasRead k b (own s (entries h)) = rw (p, y) at m in
              let x1 : is_in k (changes_after e.entry.act (changes_in (own s (entries h)))) ≡ false = rw p at x in
              let x2 : is_in k (changes s (entries h)) ≡ false = (not_in_before k e.entry.act (changes_in (own s (entries h))) y x1).0 in
              elim g [
                | inl z ↦ reads_now h e s b l at p y x2 c (read_by k b e.entry.act e.entry.reply z)
                | inr z ↦ on (rw (mine_is script start places n k rw_k s h e l at p, y) refl) z x2
              ]

  whole : (h : Noded) → AreNodesLegal script (Some start) places h → is_sound_at n k h ≡ true → IsCoherent (view_of script start n k h) × Reads start n k h
  whole [] l s = (at_first, λ u b o m x. absurd (false≢true o))
  whole (e ∷ h) l s =
      let z : WasSound n k h e = was_sound h e l s in
      let c : IsCoherent (view_of script start n k h) × Reads start n k h = whole h l.0 z.before in
      (next_coherent script start places n k rw_k h e l c.1 z.calm (is_kept h l.0) z.once c.0, reads_next h e l c.0 c.1)

  -- a sound key is coherent at every entry
  pub coherent : (h : Noded) → AreNodesLegal script (Some start) places h → is_sound_at n k h ≡ true → IsCoherent (view_of script start n k h)
  coherent h l s = (whole h l s).0
