-- An act that a session answers itself: its node hears of an End, and of no other.
use Rattle.std.proofs.Common.{◌≡◌, ℕ, true, false, cond, List, ◌∷◌, Some, None, Option, refl, sym, ap, ◌∙◌, subst, arith}
use Rattle.std.proofs.lemmas.Bool.{true≢false, false≢true}
use Rattle.std.proofs.lemmas.Option.{none-some, same_Some}
use Rattle.hib_base.specs.Tables.{Tables}
use Rattle.hib_journal.specs.Types.{Change, Script, Part, Act, Reply}
use Rattle.hib_journal.specs.Sessions.{Journal, own, same_part}
use Rattle.hib_journal.specs.Legal.{part_of}
use Rattle.hib_journal.specs.Lists.{entry_at, of_part, unsaved}
use Rattle.hib_journal.specs.Runs.{asks, is_fault}
use Rattle.hib_outside.specs.Causes.{Rose}
use Rattle.hib_session.specs.Session.{own_reply}
use Rattle.hib_session.proofs.OwnReplies.{own_no_fault}
use Rattle.hib_split_law.specs.Apart.{is_of_session}
use Rattle.hib_engines.specs.Counts.{RoseWithin}
use Rattle.hib_engines.specs.Registry.{without, own_after}
use Rattle.hib_engines.proofs.RegistryServed.{end_stands}
use Rattle.hib_nodes_law.specs.Types.{Noded}
use Rattle.hib_nodes_law.specs.Nodes.{entries, of_node}
use Rattle.hib_nodes.specs.Parts.{with_node}
use Rattle.hib_nodes.specs.Standing.{NodeState, NodesPartsState, AreStanding, IsAtNode, IsReady, IsAnswered, IsAskedFor, IsTold, node_in, entry_on}
use Rattle.hib_nodes.proofs.Lists.{late_own, before_node}
use Rattle.hib_nodes.proofs.Stands.{node_rests, node_registry, nodes_after, node_stands}
use Rattle.hib_nodes.proofs.Sides.{node_with, same_with, with_alone}

of_session : (script : Script) (mine : Journal) (a : Act) (r : Reply) → own_reply script mine a ≡ Some r → is_of_session a ≡ true
of_session script mine Act.End r p = refl
of_session script mine (Act.Find k) r p = refl
of_session script mine (Act.Persist k x) r p = refl
of_session script mine (Act.Set k cells) r p = refl
of_session script mine (Act.Remove k) r p = refl
of_session script mine Act.Clear r p = refl
of_session script mine _ r p = absurd (none-some r p)

silent : (a : Act) (cs : List Change) → is_of_session a ≡ true → asks cs a ≡ false
silent Act.End cs p = refl
silent (Act.Find k) cs p = refl
silent (Act.Persist k r) cs p = refl
silent (Act.Set k cells) cs p = refl
silent (Act.Remove k) cs p = refl
silent Act.Clear cs p = refl
silent _ cs p = absurd (false≢true p)

module _ (script : Script) (told : Option Tables) (h : Noded) (n s now : ℕ) (r : Reply) (x : NodesPartsState) where
  -- an act that no shared part hears of
  unheard : (a : Act) → IsReady script told h n s now a x → part_of a s ≡ Part.Own s → AreStanding script told (entry_on n (entry_at now (Some s) a r) ∷ h) x
  unheard a k p = node_stands script told h (entry_on n (entry_at now (Some s) a r)) x x k.standing (record { store = refl; stamps = refl; results = refl })
      (ap (same_part Part.Store) p) (ap (same_part Part.Stamps) p) (ap (same_part Part.Results) p)
      (nodes_after script h (entry_on n (entry_at now (Some s) a r)) x x k.standing.nodes
      (node_rests script (of_node n h) (entry_at now (Some s) a r) (node_in x n) (node_in x n) (ap (same_part Part.Registry) p) (λ m. ap (same_part (Part.Region m)) p) refl (k.standing.nodes n k.node))
      (λ m i j. refl))

  ends : IsReady script told h n s now Act.End x →
      AreStanding script told (entry_on n (entry_at now (Some s) Act.End r) ∷ h) (with_node n (record (node_in x n) { registry = without s (node_in x n).registry }) x)
  ends k = node_stands script told h (entry_on n (entry_at now (Some s) Act.End r)) x (with_node n z x) k.standing (with_alone n z x k.node).shared refl refl refl
      (nodes_after script h (entry_on n (entry_at now (Some s) Act.End r)) x (with_node n z x) k.standing.nodes
      (subst (λ v. IsAtNode script (entry_at now (Some s) Act.End r ∷ of_node n h) v) (sym (node_with n z x))
      (node_registry script (of_node n h) (entry_at now (Some s) Act.End r) (node_in x n) z refl refl
      (end_stands (of_part Part.Registry (of_node n h)) s now r (node_in x n).registry (without s (node_in x n).registry) (k.standing.nodes n k.node).registry
      (late_own Part.Registry now (of_node n h) (before_node now n h (λ d. same_part Part.Registry d.part) k.late)) refl)
      (k.standing.nodes n k.node)))
      (with_alone n z x k.node).others)
    where
      z : NodeState
      z = record (node_in x n) { registry = without s (node_in x n).registry }

  stands : (a : Act) → IsReady script told h n s now a x → is_of_session a ≡ true →
      AreStanding script told (entry_on n (entry_at now (Some s) a r) ∷ h) (with_node n (record (node_in x n) { registry = own_after s a (node_in x n).registry }) x)
  stands Act.End k o = ends k
  stands (Act.Find j) k o = subst (λ v. AreStanding script told (entry_on n (entry_at now (Some s) (Act.Find j) r) ∷ h) v) (sym (same_with n x)) (unheard (Act.Find j) k refl)
  stands (Act.Persist j w) k o = subst (λ v. AreStanding script told (entry_on n (entry_at now (Some s) (Act.Persist j w) r) ∷ h) v) (sym (same_with n x)) (unheard (Act.Persist j w) k refl)
  stands (Act.Set j w) k o = subst (λ v. AreStanding script told (entry_on n (entry_at now (Some s) (Act.Set j w) r) ∷ h) v) (sym (same_with n x)) (unheard (Act.Set j w) k refl)
  stands (Act.Remove j) k o = subst (λ v. AreStanding script told (entry_on n (entry_at now (Some s) (Act.Remove j) r) ∷ h) v) (sym (same_with n x)) (unheard (Act.Remove j) k refl)
  stands Act.Clear k o = subst (λ v. AreStanding script told (entry_on n (entry_at now (Some s) Act.Clear r) ∷ h) v) (sym (same_with n x)) (unheard Act.Clear k refl)
  stands _ k o = absurd (false≢true o)

pub own_told : (script : Script) (told : Option Tables) (h : Noded) (n s now : ℕ) (a : Act) (r : Reply) (x y : NodesPartsState) → IsReady script told h n s now a x →
    own_reply script (own s (entries h)) a ≡ Some r → y ≡ with_node n (record (node_in x n) { registry = own_after s a (node_in x n).registry }) x → IsTold script told h n s now a r x y
own_told script told h n s now a r x y k p q = record {
  answered = record {
    reply = λ i j. absurd (true≢false (sym (of_session script (own s (entries h)) a r p) ∙ j));
    standing = subst (λ v. AreStanding script told (entry_on n (entry_at now (Some s) a r) ∷ h) v) (sym q)
        (stands script told h n s now r x a k (of_session script (own s (entries h)) a r p));
  };
  mine = λ t e. same_Some r t (sym p ∙ e);
  asked = subst (λ b. RoseWithin x.store.asked (cond b 1 0) y.store.asked) (sym (silent a (unsaved s (of_part Part.Store (entries h))) (of_session script (own s (entries h)) a r p)))
      (subst (λ v. RoseWithin x.store.asked 0 v.asked) (sym store_same) (record { later = omega arith; few = omega arith }));
  fault = λ f. absurd (false≢true (sym (own_no_fault script (own s (entries h)) a r p) ∙ f));
}
  where
    store_same : y.store ≡ x.store
    store_same = ap (λ (v : NodesPartsState). v.store) q ∙ (with_alone n (record (node_in x n) { registry = own_after s a (node_in x n).registry }) x k.node).shared.store

pub part_told : (script : Script) (told : Option Tables) (h : Noded) (n s now : ℕ) (a : Act) (r : Reply) (x y : NodesPartsState) → own_reply script (own s (entries h)) a ≡ None →
    IsAnswered script told h n s now a r y → IsAskedFor h s a x y → (is_fault r ≡ true → Rose x.store.faults y.store.faults) → IsTold script told h n s now a r x y
part_told script told h n s now a r x y p v w f = record { answered = v; mine = λ q t. absurd (none-some q (sym p ∙ t)); asked = w; fault = f }
