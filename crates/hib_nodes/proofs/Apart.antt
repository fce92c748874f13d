-- The lists of parts and of sessions go on: by an act of a session, and by a fence.
use Rattle.std.proofs.Common.{◌≡◌, ℕ, true, false, ◌==◌, ◌∷◌, Some, None, Option, refl, sym, ap, subst, inl, inr}
use Rattle.std.proofs.lemmas.Bool.{eqb-true}
use Rattle.hib_base.specs.Tables.{Tables}
use Rattle.hib_base.proofs.Tables.{Tested, tested}
use Rattle.hib_journal.specs.Types.{Script, Part}
use Rattle.hib_journal.specs.Sessions.{Journal, own, is_by, same_part}
use Rattle.hib_journal.specs.Lists.{of_part, IsStoreReply, IsLate}
use Rattle.hib_split_law.specs.Apart.{is_own, is_of_session, IsPartLegal, IsOwnStep, IsOwnLegal}
use Rattle.hib_split_law.proofs.Apart.{same_is}
use Rattle.hib_nodes_law.specs.declared.nodes.NodeEntry.{NodeEntry}
use Rattle.hib_nodes_law.specs.Types.{Noded}
use Rattle.hib_nodes_law.specs.Nodes.{entries, of_node}
use Rattle.hib_nodes_law.specs.Legal.{is_of_node, seen_at}
use Rattle.hib_nodes_law.specs.Apart.{AreNodesApart}
use Rattle.hib_nodes.specs.Standing.{AreBefore}
use Rattle.hib_nodes.proofs.Lists.{late_seen, late_any}

-- an entry whose reply is the one that is due over what its part sees
abbrev pub IsDueOver : Script → Option Tables → Noded → NodeEntry → Type 0
IsDueOver script told h e =
    is_own e.entry.part ≡ false → is_of_session e.entry.act ≡ false → IsStoreReply script told (of_part e.entry.part (seen_at e.entry.part e.node h)) e.entry

module _ (script : Script) (told : Option Tables) (h : Noded) (e : NodeEntry) (before : AreBefore e.entry.tick h) (due : IsDueOver script told h e) where
  -- a list that sees the entry
  goes_on : (p : Part) (g : Journal) → is_own p ≡ false → same_part p e.entry.part ≡ true → g ≡ seen_at e.entry.part e.node h → IsPartLegal script told (of_part p g) →
      IsPartLegal script told (e.entry ∷ of_part p g)
  goes_on p g o q s l = (
    l,
    record {
      tick = late_any p e.entry.tick g (subst (λ k. IsLate p e.entry.tick k) (sym s) (subst (λ r. IsLate p e.entry.tick (seen_at r e.node h)) (same_is p e.entry.part q) (late_seen p e.node e.entry.tick h before)));
      reply = λ a. subst (λ k. IsStoreReply script told (of_part p k) e.entry) (sym s)
          (subst (λ r. IsStoreReply script told (of_part r (seen_at e.entry.part e.node h)) e.entry) (sym (same_is p e.entry.part q))
          (due (subst (λ r. is_own r ≡ false) (same_is p e.entry.part q) o) a));
    },
  )

  with_entry : (p : Part) (g : Journal) → is_own p ≡ false → (same_part p e.entry.part ≡ true → g ≡ seen_at e.entry.part e.node h) → IsPartLegal script told (of_part p g) →
      IsPartLegal script told (of_part p (e.entry ∷ g))
  with_entry p g o s l = by_test (tested (same_part p e.entry.part))
    where
      by_test : Tested (same_part p e.entry.part) → IsPartLegal script told (of_part p (e.entry ∷ g))
      by_test (inl q) = rw q (goes_on p g o q (s q) l)
      by_test (inr q) = rw q l

  pub parts_go_on : AreNodesApart script told h → (p : Part) (n : ℕ) → is_own p ≡ false → IsPartLegal script told (of_part p (seen_at p n (e ∷ h)))
  parts_go_on a p n o = by_part (tested (is_of_node p)) (tested (e.node == n))
    where
      old : IsPartLegal script told (of_part p (seen_at p n h))
      old = a.parts p n o

      node_seen : is_of_node p ≡ true → e.node ≡ n → same_part p e.entry.part ≡ true → of_node n h ≡ seen_at e.entry.part e.node h
      node_seen q d s = let r : is_of_node e.entry.part ≡ true = subst (λ x. is_of_node x ≡ true) (same_is p e.entry.part s) q in rw r (ap (λ m. of_node m h) (sym d))

      all_seen : is_of_node p ≡ false → same_part p e.entry.part ≡ true → entries h ≡ seen_at e.entry.part e.node h
      all_seen q s = let r : is_of_node e.entry.part ≡ false = subst (λ x. is_of_node x ≡ false) (same_is p e.entry.part s) q in rw r refl

      by_part : Tested (is_of_node p) → Tested (e.node == n) → IsPartLegal script told (of_part p (seen_at p n (e ∷ h)))
      by_part (inl q) (inl d) =
          let l : IsPartLegal script told (of_part p (of_node n h)) = rw q at old in
          rw (q, d) (with_entry p (of_node n h) o (λ s. node_seen q (eqb-true e.node n d) s) l)
      by_part (inl q) (inr d) = let l : IsPartLegal script told (of_part p (of_node n h)) = rw q at old in rw (q, d) l
      by_part (inr q) d = let l : IsPartLegal script told (of_part p (entries h)) = rw q at old in rw q (with_entry p (entries h) o (λ s. all_seen q s) l)

-- an act of a session
pub apart_more : (script : Script) (told : Option Tables) (h : Noded) (e : NodeEntry) (s : ℕ) → AreBefore e.entry.tick h → IsDueOver script told h e → e.entry.session ≡ Some s →
    IsOwnStep script s (own s (entries h)) e.entry → AreNodesApart script told h → AreNodesApart script told (e ∷ h)
apart_more script told h e s before due by mine a = record {
  parts = parts_go_on script told h e before due a;
  sessions = λ t. by_session t (tested (is_by t e.entry));
}
  where
    same : (t : ℕ) → is_by t e.entry ≡ true → s ≡ t
    same t q = eqb-true s t (let g : (s == t) ≡ true = rw by at q in g)

    by_session : (t : ℕ) → Tested (is_by t e.entry) → IsOwnLegal script t (own t (e.entry ∷ entries h))
    by_session t (inl q) = rw q (a.sessions t, subst (λ n. IsOwnStep script n (own n (entries h)) e.entry) (same t q) mine)
    by_session t (inr q) = rw q (a.sessions t)

-- an entry of nobody
pub apart_nobody : (script : Script) (told : Option Tables) (h : Noded) (e : NodeEntry) → AreBefore e.entry.tick h → IsDueOver script told h e → e.entry.session ≡ None →
    AreNodesApart script told h → AreNodesApart script told (e ∷ h)
apart_nobody script told h e before due by a = record {
  parts = parts_go_on script told h e before due a;
  sessions = λ t. rw by (a.sessions t);
}
