-- The two nodes, by their numbers.
use Rattle.std.proofs.Common.{◌≡◌, ℕ, true, ◌==◌, refl, sym, ◌∙◌, subst, inl, inr, eq-eqb}
use Rattle.std.proofs.lemmas.Bool.{true≢false, eqb-true, ne_eqb}
use Rattle.hib_base.proofs.Tables.{Tested, tested}
use Rattle.hib_nodes.specs.Standing.{NodeState, NodesPartsState, is_node, node_in}
use Rattle.hib_nodes.specs.Parts.{AreShared, IsAlone, with_node}
use Rattle.hib_nodes.proofs.Queues.{this_or_other}

pub at_second : (n : ℕ) (x : NodesPartsState) → n ≡ 2 → node_in x n ≡ x.second
at_second n x e = rw (eq-eqb n 2 e) refl

pub at_first : (n : ℕ) (x : NodesPartsState) → (n ≡ 2 → ⊥) → node_in x n ≡ x.first
at_first n x f = rw (ne_eqb n 2 f) refl

pub with_second : (n : ℕ) (y : NodeState) (x : NodesPartsState) → n ≡ 2 → with_node n y x ≡ record x { second = y }
with_second n y x e = rw (eq-eqb n 2 e) refl

pub with_first : (n : ℕ) (y : NodeState) (x : NodesPartsState) → (n ≡ 2 → ⊥) → with_node n y x ≡ record x { first = y }
with_first n y x f = rw (ne_eqb n 2 f) refl

pub second_alone : (n : ℕ) (x y : NodesPartsState) → n ≡ 2 → AreShared x y → y.first ≡ x.first → IsAlone n x y
second_alone n x y e s p = record {
  shared = s;
  others = λ m i d.
      let q : m ≡ 2 → ⊥ = λ t. true≢false (sym (eq-eqb n m (e ∙ sym t)) ∙ d) in
      at_first m y q ∙ (p ∙ sym (at_first m x q));
}

pub first_alone : (n : ℕ) (x y : NodesPartsState) → (n ≡ 2 → ⊥) → AreShared x y → y.second ≡ x.second → is_node n ≡ true → IsAlone n x y
first_alone n x y f s p j = record {
  shared = s;
  others = λ m i d.
      let q : m ≡ 2 = this_or_other n m j i d ∙ rw (ne_eqb n 2 f) refl in
      at_second m y q ∙ (p ∙ sym (at_second m x q));
}

pub node_with : (n : ℕ) (z : NodeState) (x : NodesPartsState) → node_in (with_node n z x) n ≡ z
node_with n z x = by_test (tested (n == 2))
  where
    by_test : Tested (n == 2) → node_in (with_node n z x) n ≡ z
    by_test (inl t) = rw t refl
    by_test (inr t) = rw t refl

pub same_with : (n : ℕ) (x : NodesPartsState) → with_node n (node_in x n) x ≡ x
same_with n x = by_test (tested (n == 2))
  where
    by_test : Tested (n == 2) → with_node n (node_in x n) x ≡ x
    by_test (inl t) = rw t refl
    by_test (inr t) = rw t refl

pub with_alone : (n : ℕ) (z : NodeState) (x : NodesPartsState) → is_node n ≡ true → IsAlone n x (with_node n z x)
with_alone n z x i = by_test (tested (n == 2))
  where
    by_test : Tested (n == 2) → IsAlone n x (with_node n z x)
    by_test (inl t) = let e : n ≡ 2 = eqb-true n 2 t in
        subst (λ y. IsAlone n x y) (sym (with_second n z x e)) (second_alone n x (record x { second = z }) e (record { store = refl; stamps = refl; results = refl }) refl)
    by_test (inr t) = let f : n ≡ 2 → ⊥ = λ e. true≢false (sym (eq-eqb n 2 e) ∙ t) in
        subst (λ y. IsAlone n x y) (sym (with_first n z x f)) (first_alone n x (record x { first = z }) f (record { store = refl; stamps = refl; results = refl }) refl i)
