-- The parts stand for a journal with one entry more: the part of the entry by what it has answered, and all others since they see the
-- entries that they saw.
use Rattle.std.proofs.Common.{◌≡◌, ℕ, true, false, ◌==◌, ◌∷◌, length, Option, refl, sym, ap, ◌∙◌, subst, inl, inr}
use Rattle.std.proofs.lemmas.Bool.{true≢false, eqb-true, ne_eqb, eq-eqb}
use Rattle.hib_base.specs.Tables.{Tables}
use Rattle.hib_base.proofs.Tables.{Tested, tested}
use Rattle.hib_journal.specs.Types.{Script, Part, Entry}
use Rattle.hib_journal.specs.Sessions.{Journal, same_part}
use Rattle.hib_journal.specs.Lists.{of_part}
use Rattle.hib_engines.specs.Registry.{IsRegistry}
use Rattle.hib_engines.specs.Region.{IsPlaced}
use Rattle.hib_engines.specs.Regions.{region_of, IsAtRegion}
use Rattle.hib_engines.specs.Store.{IsStored}
use Rattle.hib_engines.specs.Stamps.{AreStamps}
use Rattle.hib_engines.specs.Results.{AreResults}
use Rattle.hib_nodes_law.specs.declared.nodes.NodeEntry.{NodeEntry}
use Rattle.hib_nodes_law.specs.Types.{Noded}
use Rattle.hib_nodes_law.specs.Nodes.{entries, of_node}
use Rattle.hib_nodes.specs.Standing.{NodeState, NodesPartsState, AreStanding, IsAtNode, is_node, node_in}
use Rattle.hib_nodes.specs.Parts.{AreShared}
use Rattle.hib_nodes.proofs.Lists.{other_part, same_list, at_other, at_node}

-- ---- a node

pub node_rests : (script : Script) (g : Journal) (e : Entry) (x y : NodeState) → same_part Part.Registry e.part ≡ false → ((m : ℕ) → same_part (Part.Region m) e.part ≡ false) → y ≡ x →
    IsAtNode script g x → IsAtNode script (e ∷ g) y
node_rests script g e x y p q s k = subst (λ z. IsAtNode script (e ∷ g) z) (sym s) (record {
  registry = subst (λ l. IsRegistry x.registry l) (sym (other_part Part.Registry e g p)) k.registry;
  regions = λ m. subst (λ l. IsPlaced script m l (region_of x.regions m)) (sym (other_part (Part.Region m) e g (q m))) (k.regions m);
  entities = k.entities;
})

pub node_registry : (script : Script) (g : Journal) (e : Entry) (x y : NodeState) → e.part ≡ Part.Registry → y.regions ≡ x.regions → IsRegistry y.registry (e ∷ of_part Part.Registry g) →
    IsAtNode script g x → IsAtNode script (e ∷ g) y
node_registry script g e x y p s r k = record {
  registry = subst (λ l. IsRegistry y.registry l) (sym (same_list Part.Registry e g (ap (same_part Part.Registry) p))) r;
  regions = λ m. subst (λ l. IsPlaced script m l (region_of y.regions m)) (sym (other_part (Part.Region m) e g (ap (same_part (Part.Region m)) p)))
      (subst (λ xs. IsPlaced script m (of_part (Part.Region m) g) (region_of xs m)) (sym s) (k.regions m));
  entities = ap length s ∙ k.entities;
}

pub node_region : (script : Script) (g : Journal) (e : Entry) (n : ℕ) (x y : NodeState) → e.part ≡ Part.Region n → y.registry ≡ x.registry → IsAtRegion n x.regions y.regions →
    IsPlaced script n (e ∷ of_part (Part.Region n) g) (region_of y.regions n) → IsAtNode script g x → IsAtNode script (e ∷ g) y
node_region script g e n x y p s w r k = record {
  registry = subst (λ l. IsRegistry y.registry l) (sym (other_part Part.Registry e g (ap (same_part Part.Registry) p)))
      (subst (λ z. IsRegistry z (of_part Part.Registry g)) (sym s) k.registry);
  regions = λ m. by_entity m (tested (n == m));
  entities = w.all ∙ k.entities;
}
  where
    by_entity : (m : ℕ) → Tested (n == m) → IsPlaced script m (of_part (Part.Region m) (e ∷ g)) (region_of y.regions m)
    by_entity m (inl q) =
        let d : n ≡ m = eqb-true n m q in
        subst (λ i. IsPlaced script i (of_part (Part.Region i) (e ∷ g)) (region_of y.regions i)) d
        (subst (λ l. IsPlaced script n l (region_of y.regions n)) (sym (same_list (Part.Region n) e g (ap (same_part (Part.Region n)) p ∙ eq-eqb n n refl))) r)
    by_entity m (inr q) =
        let d : (m == n) ≡ false = ne_eqb m n (λ i. true≢false (sym (eq-eqb n m (sym i)) ∙ q)) in
        subst (λ l. IsPlaced script m l (region_of y.regions m)) (sym (other_part (Part.Region m) e g (ap (same_part (Part.Region m)) p ∙ d)))
        (subst (λ z. IsPlaced script m (of_part (Part.Region m) g) z) (sym (w.others m q)) (k.regions m))

-- ---- all nodes

pub nodes_after : (script : Script) (h : Noded) (e : NodeEntry) (x y : NodesPartsState) → ((m : ℕ) → is_node m ≡ true → IsAtNode script (of_node m h) (node_in x m)) →
    IsAtNode script (e.entry ∷ of_node e.node h) (node_in y e.node) → ((m : ℕ) → is_node m ≡ true → (e.node == m) ≡ false → node_in y m ≡ node_in x m) →
    (m : ℕ) → is_node m ≡ true → IsAtNode script (of_node m (e ∷ h)) (node_in y m)
nodes_after script h e x y k here others m i = by_node (tested (e.node == m))
  where
    by_node : Tested (e.node == m) → IsAtNode script (of_node m (e ∷ h)) (node_in y m)
    by_node (inl q) =
        let d : e.node ≡ m = eqb-true e.node m q in
        subst (λ g. IsAtNode script g (node_in y m)) (sym (at_node m e h q))
        (subst (λ j. IsAtNode script (e.entry ∷ of_node j h) (node_in y j)) d here)
    by_node (inr q) =
        subst (λ g. IsAtNode script g (node_in y m)) (sym (at_other m e h q))
        (subst (λ z. IsAtNode script (of_node m h) z) (sym (others m i q)) (k m i))

-- ---- all parts

-- an entry of a part that is not the store, nor the stamps, nor the results
pub node_stands : (script : Script) (told : Option Tables) (h : Noded) (e : NodeEntry) (x y : NodesPartsState) → AreStanding script told h x → AreShared x y →
    same_part Part.Store e.entry.part ≡ false → same_part Part.Stamps e.entry.part ≡ false → same_part Part.Results e.entry.part ≡ false →
    ((m : ℕ) → is_node m ≡ true → IsAtNode script (of_node m (e ∷ h)) (node_in y m)) → AreStanding script told (e ∷ h) y
node_stands script told h e x y k s p q r nodes = record {
  store = subst (λ l. IsStored told l y.store) (sym (other_part Part.Store e.entry (entries h) p)) (subst (λ z. IsStored told (of_part Part.Store (entries h)) z) (sym s.store) k.store);
  stamps = subst (λ l. AreStamps script l y.stamps) (sym (other_part Part.Stamps e.entry (entries h) q)) (subst (λ z. AreStamps script (of_part Part.Stamps (entries h)) z) (sym s.stamps) k.stamps);
  results = subst (λ l. AreResults script l y.results) (sym (other_part Part.Results e.entry (entries h) r)) (subst (λ z. AreResults script (of_part Part.Results (entries h)) z) (sym s.results) k.results);
  nodes = nodes;
}
