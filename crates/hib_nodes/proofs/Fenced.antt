-- A fence at a node: its two entries are those of the region of its key, and the parts stand for the journal with both.
use Rattle.std.proofs.Common.{◌≡◌, ◌+◌, ℕ, true, false, ◌==◌, ◌∷◌, None, Option, refl, sym, ap, ◌∙◌, subst, inl, inr, eq-eqb}
use Rattle.std.proofs.lemmas.Bool.{true≢false, eqb-true, ne_eqb}
use Rattle.hib_base.specs.Tables.{Tables}
use Rattle.hib_base.proofs.Tables.{Tested, tested}
use Rattle.hib_journal.specs.Types.{Key, Strategy, Script, Part, Locked, Unlocked, Entry}
use Rattle.hib_journal.specs.Sessions.{Journal, floor, same_part}
use Rattle.hib_journal.specs.Next.{strategy}
use Rattle.hib_journal.specs.Lists.{of_part, IsLate, IsReplyOf}
use Rattle.hib_engines.specs.Fenced.{fence_lock, fence_unlock, IsFenced}
use Rattle.hib_engines.specs.Registry.{floor_in, IsRegistry}
use Rattle.hib_engines.specs.Region.{IsPlaced}
use Rattle.hib_engines.specs.Regions.{region_of, IsAtRegion}
use Rattle.hib_engines.specs.Store.{IsStored}
use Rattle.hib_engines.specs.Stamps.{AreStamps}
use Rattle.hib_engines.specs.Results.{AreResults}
use Rattle.hib_engines.proofs.Opened.{floor_is}
use Rattle.hib_nodes_law.specs.Types.{Noded}
use Rattle.hib_nodes_law.specs.Nodes.{entries, of_node}
use Rattle.hib_nodes.specs.Fencing.{IsFencedAt}
use Rattle.hib_nodes.specs.Standing.{NodeState, NodesPartsState, AreBefore, AreStanding, IsAtNode, is_node, node_in, entry_on}
use Rattle.hib_nodes.proofs.Lists.{other_part, same_list, at_other, at_node, late_own, before_node}
use Rattle.hib_nodes.specs.Parts.{AreShared, IsAlone}

-- ---- a list with two entries of one part

others_two : (p q : Part) (d e : Entry) (g : Journal) → d.part ≡ q → e.part ≡ q → same_part p q ≡ false → of_part p (e ∷ d ∷ g) ≡ of_part p g
others_two p q d e g s t o = other_part p e (d ∷ g) (ap (same_part p) t ∙ o) ∙ other_part p d g (ap (same_part p) s ∙ o)

same_two : (n : ℕ) (d e : Entry) (g : Journal) → d.part ≡ Part.Region n → e.part ≡ Part.Region n → of_part (Part.Region n) (e ∷ d ∷ g) ≡ e ∷ d ∷ of_part (Part.Region n) g
same_two n d e g s t =
    same_list (Part.Region n) e (d ∷ g) (ap (same_part (Part.Region n)) t ∙ eq-eqb n n refl)
    ∙ ap (λ l. e ∷ l) (same_list (Part.Region n) d g (ap (same_part (Part.Region n)) s ∙ eq-eqb n n refl))

node_fence : (script : Script) (g : Journal) (d e : Entry) (n : ℕ) (x y : NodeState) → d.part ≡ Part.Region n → e.part ≡ Part.Region n → y.registry ≡ x.registry →
    IsAtRegion n x.regions y.regions → IsPlaced script n (e ∷ d ∷ of_part (Part.Region n) g) (region_of y.regions n) → IsAtNode script g x → IsAtNode script (e ∷ d ∷ g) y
node_fence script g d e n x y s t b w r k = record {
  registry = subst (λ l. IsRegistry y.registry l) (sym (others_two Part.Registry (Part.Region n) d e g s t refl)) (subst (λ z. IsRegistry z (of_part Part.Registry g)) (sym b) k.registry);
  regions = λ m. by_entity m (tested (n == m));
  entities = w.all ∙ k.entities;
}
  where
    by_entity : (m : ℕ) → Tested (n == m) → IsPlaced script m (of_part (Part.Region m) (e ∷ d ∷ g)) (region_of y.regions m)
    by_entity m (inl q) =
        let i : n ≡ m = eqb-true n m q in
        subst (λ j. IsPlaced script j (of_part (Part.Region j) (e ∷ d ∷ g)) (region_of y.regions j)) i
        (subst (λ l. IsPlaced script n l (region_of y.regions n)) (sym (same_two n d e g s t)) r)
    by_entity m (inr q) =
        let o : (m == n) ≡ false = ne_eqb m n (λ i. true≢false (sym (eq-eqb n m (sym i)) ∙ q)) in
        subst (λ l. IsPlaced script m l (region_of y.regions m)) (sym (others_two (Part.Region m) (Part.Region n) d e g s t o))
        (subst (λ z. IsPlaced script m (of_part (Part.Region m) g) z) (sym (w.others m q)) (k.regions m))

-- ---- what a node answers

pub node_fenced : (script : Script) (g : Journal) (k : Key) (now f : ℕ) (p : Locked) (q : Unlocked) (d e : Entry) (x y : NodeState) →
    IsAtNode script g x → IsLate Part.Registry now g → IsLate (Part.Region k.entity) now g → strategy script k.entity ≡ Strategy.ReadWrite →
    f ≡ floor_in x.registry now → d ≡ fence_lock now k f p → e ≡ fence_unlock now k p q →
    ((given : Script) (l : Journal) → IsPlaced given k.entity l (region_of x.regions k.entity) → IsLate (Part.Region k.entity) now l → strategy given k.entity ≡ Strategy.ReadWrite →
    IsFenced (λ m. IsPlaced given k.entity m (region_of y.regions k.entity)) given l now k f p q) →
    IsAtRegion k.entity x.regions y.regions → y.registry ≡ x.registry → IsFencedAt script g k now d e y
node_fenced script g k now f p q d e x y here early late rw_k floors lock unlock served at same =
    let w : IsFenced (λ m. IsPlaced script k.entity m (region_of y.regions k.entity)) script (of_part (Part.Region k.entity) g) now k f p q =
    served script (of_part (Part.Region k.entity) g) (here.regions k.entity) (late_own (Part.Region k.entity) now g late) rw_k in
    let low : f ≡ floor (of_part Part.Registry g) now = floors ∙ floor_is x.registry (of_part Part.Registry g) now here.registry (late_own Part.Registry now g early) in
    record {
      locked = p;
      unlocked = q;
      lock = lock ∙ ap (λ t. fence_lock now k t p) low;
      unlock = unlock;
      lock_reply = subst (λ (t : Entry). IsReplyOf script (of_part (Part.Region k.entity) g) None now t.act t.reply) (sym lock) w.lock;
      unlock_reply = subst (λ (t : Entry). IsReplyOf script (t ∷ of_part (Part.Region k.entity) g) None (now + 1) e.act e.reply) (sym lock)
          (subst (λ (t : Entry). IsReplyOf script (fence_lock now k f p ∷ of_part (Part.Region k.entity) g) None (now + 1) t.act t.reply) (sym unlock) w.unlock);
      stands = subst (λ (t : Entry). IsAtNode script (t ∷ d ∷ g) y) (sym unlock) (subst (λ (t : Entry). IsAtNode script (fence_unlock now k p q ∷ t ∷ g) y) (sym lock)
          (node_fence script g (fence_lock now k f p) (fence_unlock now k p q) k.entity x y refl refl same at w.stands here));
    }

-- ---- all parts

two_other : (n m : ℕ) (d e : Entry) (h : Noded) → (n == m) ≡ false → of_node m (entry_on n e ∷ entry_on n d ∷ h) ≡ of_node m h
two_other n m d e h q = at_other m (entry_on n e) (entry_on n d ∷ h) q ∙ at_other m (entry_on n d) h q

two_same : (n m : ℕ) (d e : Entry) (h : Noded) → (n == m) ≡ true → of_node m (entry_on n e ∷ entry_on n d ∷ h) ≡ e ∷ d ∷ of_node m h
two_same n m d e h q = at_node m (entry_on n e) (entry_on n d ∷ h) q ∙ ap (λ l. e ∷ l) (at_node m (entry_on n d) h q)

pub fence_stands : (script : Script) (told : Option Tables) (h : Noded) (n i : ℕ) (d e : Entry) (x y : NodesPartsState) → d.part ≡ Part.Region i → e.part ≡ Part.Region i →
    AreStanding script told h x → AreShared x y → IsAtNode script (e ∷ d ∷ of_node n h) (node_in y n) →
    ((m : ℕ) → is_node m ≡ true → (n == m) ≡ false → node_in y m ≡ node_in x m) → AreStanding script told (entry_on n e ∷ entry_on n d ∷ h) y
fence_stands script told h n i d e x y s t k w here others = record {
  store = subst (λ l. IsStored told l y.store) (sym (others_two Part.Store (Part.Region i) d e (entries h) s t refl)) (subst (λ z. IsStored told (of_part Part.Store (entries h)) z) (sym w.store) k.store);
  stamps = subst (λ l. AreStamps script l y.stamps) (sym (others_two Part.Stamps (Part.Region i) d e (entries h) s t refl)) (subst (λ z. AreStamps script (of_part Part.Stamps (entries h)) z) (sym w.stamps) k.stamps);
  results = subst (λ l. AreResults script l y.results) (sym (others_two Part.Results (Part.Region i) d e (entries h) s t refl)) (subst (λ z. AreResults script (of_part Part.Results (entries h)) z) (sym w.results) k.results);
  nodes = λ m j. by_node m j (tested (n == m));
}
  where
    by_node : (m : ℕ) → is_node m ≡ true → Tested (n == m) → IsAtNode script (of_node m (entry_on n e ∷ entry_on n d ∷ h)) (node_in y m)
    by_node m j (inl q) =
        let c : n ≡ m = eqb-true n m q in
        subst (λ g. IsAtNode script g (node_in y m)) (sym (two_same n m d e h q)) (subst (λ z. IsAtNode script (e ∷ d ∷ of_node z h) (node_in y z)) c here)
    by_node m j (inr q) =
        subst (λ g. IsAtNode script g (node_in y m)) (sym (two_other n m d e h q)) (subst (λ z. IsAtNode script (of_node m h) z) (sym (others m j q)) (k.nodes m j))

-- what the region of a node answers is a fence of the parts
pub parts_fenced : (script : Script) (told : Option Tables) (h : Noded) (n now : ℕ) (k : Key) (d e : Entry) (x y : NodesPartsState) → AreStanding script told h x → AreBefore now h → is_node n ≡ true →
    strategy script k.entity ≡ Strategy.ReadWrite → IsAlone n x y →
    ((g : Journal) → IsAtNode script g (node_in x n) → IsLate Part.Registry now g → IsLate (Part.Region k.entity) now g → strategy script k.entity ≡ Strategy.ReadWrite → IsFencedAt script g k now d e (node_in y n)) →
    IsFencedAt script (of_node n h) k now d e (node_in y n) × AreStanding script told (entry_on n e ∷ entry_on n d ∷ h) y
parts_fenced script told h n now k d e x y s b i rw_k w f =
    let v : IsFencedAt script (of_node n h) k now d e (node_in y n) =
    f (of_node n h) (s.nodes n i) (before_node now n h (λ c. same_part Part.Registry c.part) b) (before_node now n h (λ c. same_part (Part.Region k.entity) c.part) b) rw_k in
    (v, fence_stands script told h n k.entity d e x y (ap (λ (t : Entry). t.part) v.lock) (ap (λ (t : Entry). t.part) v.unlock) s w.shared v.stands w.others)
