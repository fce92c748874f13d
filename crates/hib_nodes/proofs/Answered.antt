-- An act of a session at a node was answered by a part: its reply is the one that is due, and the parts stand for the journal with its
-- entry.
use Rattle.std.proofs.Common.{◌≡◌, ℕ, true, false, ◌∷◌, Some, None, Option, refl, sym, ap, ◌∙◌, subst}
use Rattle.hib_base.specs.Tables.{Tables}
use Rattle.hib_journal.specs.Types.{Script, Part, Act, Reply}
use Rattle.hib_journal.specs.Sessions.{Journal, own, same_part}
use Rattle.hib_journal.specs.Next.{strategy}
use Rattle.hib_journal.specs.Slot.{key_in}
use Rattle.hib_journal.specs.Legal.{part_of}
use Rattle.hib_journal.specs.Lists.{entry_at, of_part, IsLate}
use Rattle.hib_session.specs.Session.{own_reply}
use Rattle.hib_session.proofs.OwnReplies.{begins_only}
use Rattle.hib_engines.specs.Registry.{IsRegistry}
use Rattle.hib_engines.specs.Region.{entity_in, IsPlaced, Suits}
use Rattle.hib_engines.specs.Regions.{region_of, IsAtRegion}
use Rattle.hib_engines.specs.Served.{is_for, IsServed, HasQuery}
use Rattle.hib_engines.specs.Stamps.{AreStamps}
use Rattle.hib_engines.specs.Results.{AreResults}
use Rattle.hib_engines.specs.Store.{IsStored, IsStoreServed}
use Rattle.hib_engines.proofs.RegionServed.{named}
use Rattle.hib_engines.proofs.RegionList.{of_region}
use Rattle.hib_nodes_law.specs.Types.{Noded}
use Rattle.hib_nodes_law.specs.Nodes.{entries, of_node}
use Rattle.hib_nodes.specs.Standing.{NodesPartsState, IsAtNode, IsReady, IsAnswered, is_node, node_in, entry_on}
use Rattle.hib_nodes.proofs.Lists.{other_part, same_list, late_own, before_node}
use Rattle.hib_nodes.specs.Parts.{IsAlone}
use Rattle.hib_nodes.proofs.Stands.{node_rests, node_registry, node_region, nodes_after, node_stands}
use Rattle.hib_nodes.proofs.Replies.{due_reply}

module _ (script : Script) (told : Option Tables) (h : Noded) (n s now : ℕ) (a : Act) (r : Reply) (x y : NodesPartsState) (k : IsReady script told h n s now a x) where
  here : IsAtNode script (of_node n h) (node_in x n)
  here = k.standing.nodes n k.node

  -- the nodes, after an entry of a part that is shared
  resting : (p : Part) → part_of a s ≡ p → same_part Part.Registry p ≡ false → ((m : ℕ) → same_part (Part.Region m) p ≡ false) → ((m : ℕ) → node_in y m ≡ node_in x m) →
      (m : ℕ) → is_node m ≡ true → IsAtNode script (of_node m (entry_on n (entry_at now (Some s) a r) ∷ h)) (node_in y m)
  resting p q d e same = nodes_after script h (entry_on n (entry_at now (Some s) a r)) x y k.standing.nodes
      (node_rests script (of_node n h) (entry_at now (Some s) a r) (node_in x n) (node_in y n) (ap (same_part Part.Registry) q ∙ d) (λ m. ap (same_part (Part.Region m)) q ∙ e m) (same n) here)
      (λ m i j. same m)

  pub store_answered : part_of a s ≡ Part.Store → IsStoreServed script told (of_part Part.Store (entries h)) now s a r y.store → y.stamps ≡ x.stamps → y.results ≡ x.results →
      ((m : ℕ) → node_in y m ≡ node_in x m) → IsAnswered script told h n s now a r y
  store_answered p v b c d = record {
    reply = λ i j. subst (λ q. Rattle.hib_journal.specs.Lists.IsStoreReply script told (of_part q (Rattle.hib_nodes_law.specs.Legal.seen_at q n h)) (entry_at now (Some s) a r)) (sym p) v.reply;
    standing = record {
      store = subst (λ l. IsStored told l y.store) (sym (same_list Part.Store (entry_at now (Some s) a r) (entries h) (ap (same_part Part.Store) p))) v.stands;
      stamps = subst (λ l. AreStamps script l y.stamps) (sym (other_part Part.Stamps (entry_at now (Some s) a r) (entries h) (ap (same_part Part.Stamps) p)))
          (subst (λ z. AreStamps script (of_part Part.Stamps (entries h)) z) (sym b) k.standing.stamps);
      results = subst (λ l. AreResults script l y.results) (sym (other_part Part.Results (entry_at now (Some s) a r) (entries h) (ap (same_part Part.Results) p)))
          (subst (λ z. AreResults script (of_part Part.Results (entries h)) z) (sym c) k.standing.results);
      nodes = resting Part.Store p refl (λ m. refl) d;
    };
  }

  pub stamps_answered : part_of a s ≡ Part.Stamps →
      (AreStamps script (of_part Part.Stamps (entries h)) x.stamps → is_for Part.Stamps a s ≡ true → IsServed (λ m. AreStamps script m y.stamps) script (of_part Part.Stamps (entries h)) (Some s) now a r) →
      y.store ≡ x.store → y.results ≡ x.results → ((m : ℕ) → node_in y m ≡ node_in x m) → IsAnswered script told h n s now a r y
  stamps_answered p served b c d = record {
    reply = λ i j. due_reply script told h n s now a r Part.Stamps p refl v.reply j;
    standing = record {
      store = subst (λ l. IsStored told l y.store) (sym (other_part Part.Store (entry_at now (Some s) a r) (entries h) (ap (same_part Part.Store) p)))
          (subst (λ z. IsStored told (of_part Part.Store (entries h)) z) (sym b) k.standing.store);
      stamps = subst (λ l. AreStamps script l y.stamps) (sym (same_list Part.Stamps (entry_at now (Some s) a r) (entries h) (ap (same_part Part.Stamps) p))) v.stands;
      results = subst (λ l. AreResults script l y.results) (sym (other_part Part.Results (entry_at now (Some s) a r) (entries h) (ap (same_part Part.Results) p)))
          (subst (λ z. AreResults script (of_part Part.Results (entries h)) z) (sym c) k.standing.results);
      nodes = resting Part.Stamps p refl (λ m. refl) d;
    };
  }
    where
      v : IsServed (λ m. AreStamps script m y.stamps) script (of_part Part.Stamps (entries h)) (Some s) now a r
      v = served k.standing.stamps (ap (same_part Part.Stamps) p)

  pub results_answered : part_of a s ≡ Part.Results →
      (AreResults script (of_part Part.Results (entries h)) x.results → is_for Part.Results a s ≡ true → HasQuery script a →
      IsServed (λ m. AreResults script m y.results) script (of_part Part.Results (entries h)) (Some s) now a r) →
      y.store ≡ x.store → y.stamps ≡ x.stamps → ((m : ℕ) → node_in y m ≡ node_in x m) → IsAnswered script told h n s now a r y
  results_answered p served b c d = record {
    reply = λ i j. due_reply script told h n s now a r Part.Results p refl v.reply j;
    standing = record {
      store = subst (λ l. IsStored told l y.store) (sym (other_part Part.Store (entry_at now (Some s) a r) (entries h) (ap (same_part Part.Store) p)))
          (subst (λ z. IsStored told (of_part Part.Store (entries h)) z) (sym b) k.standing.store);
      stamps = subst (λ l. AreStamps script l y.stamps) (sym (other_part Part.Stamps (entry_at now (Some s) a r) (entries h) (ap (same_part Part.Stamps) p)))
          (subst (λ z. AreStamps script (of_part Part.Stamps (entries h)) z) (sym c) k.standing.stamps);
      results = subst (λ l. AreResults script l y.results) (sym (same_list Part.Results (entry_at now (Some s) a r) (entries h) (ap (same_part Part.Results) p))) v.stands;
      nodes = resting Part.Results p refl (λ m. refl) d;
    };
  }
    where
      v : IsServed (λ m. AreResults script m y.results) script (of_part Part.Results (entries h)) (Some s) now a r
      v = served k.standing.results (ap (same_part Part.Results) p) k.due.query

  pub registry_answered : part_of a s ≡ Part.Registry → own_reply script (own s (entries h)) a ≡ None →
      ((l : Journal) → IsRegistry (node_in x n).registry l → IsLate Part.Registry now l → a ≡ Act.Begin → IsServed (λ m. IsRegistry (node_in y n).registry m) script l (Some s) now a r) →
      (node_in y n).regions ≡ (node_in x n).regions → IsAlone n x y → IsAnswered script told h n s now a r y
  registry_answered p o served b w = record {
    reply = λ i j. due_reply script told h n s now a r Part.Registry p refl v.reply j;
    standing = node_stands script told h (entry_on n (entry_at now (Some s) a r)) x y k.standing w.shared (ap (same_part Part.Store) p) (ap (same_part Part.Stamps) p) (ap (same_part Part.Results) p)
        (nodes_after script h (entry_on n (entry_at now (Some s) a r)) x y k.standing.nodes
        (node_registry script (of_node n h) (entry_at now (Some s) a r) (node_in x n) (node_in y n) p b v.stands here) w.others);
  }
    where
      v : IsServed (λ m. IsRegistry (node_in y n).registry m) script (of_part Part.Registry (of_node n h)) (Some s) now a r
      v = served (of_part Part.Registry (of_node n h)) here.registry
          (late_own Part.Registry now (of_node n h) (before_node now n h (λ d. same_part Part.Registry d.part) k.late))
          (begins_only script (own s (entries h)) a s (ap (same_part Part.Registry) p) o k.due.inside)

  pub region_answered : (m : ℕ) → part_of a s ≡ Part.Region m →
      ((l : Journal) → IsPlaced script m l (region_of (node_in x n).regions m) → IsLate (Part.Region m) now l → entity_in a ≡ Some m → Suits (strategy script m) a →
      IsServed (λ i. IsPlaced script m i (region_of (node_in y n).regions m)) script l (Some s) now a r) → IsAtRegion m (node_in x n).regions (node_in y n).regions →
      (node_in y n).registry ≡ (node_in x n).registry → IsAlone n x y → IsAnswered script told h n s now a r y
  region_answered m p served at b w = record {
    reply = λ i j. due_reply script told h n s now a r (Part.Region m) p refl v.reply j;
    standing = node_stands script told h (entry_on n (entry_at now (Some s) a r)) x y k.standing w.shared (ap (same_part Part.Store) p) (ap (same_part Part.Stamps) p) (ap (same_part Part.Results) p)
        (nodes_after script h (entry_on n (entry_at now (Some s) a r)) x y k.standing.nodes
        (node_region script (of_node n h) (entry_at now (Some s) a r) m (node_in x n) (node_in y n) p b at v.stands here) w.others);
  }
    where
      key : entity_in a ≡ Some m
      key = of_region a s m p

      v : IsServed (λ i. IsPlaced script m i (region_of (node_in y n).regions m)) script (of_part (Part.Region m) (of_node n h)) (Some s) now a r
      v = served (of_part (Part.Region m) (of_node n h)) (here.regions m)
          (late_own (Part.Region m) now (of_node n h) (before_node now n h (λ d. same_part (Part.Region m) d.part) k.late)) key
          (subst (λ i. Suits (strategy script i) a) (named (key_in a) m key).1 k.due.suits)
