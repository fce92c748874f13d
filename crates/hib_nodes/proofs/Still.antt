-- Nothing was added: the parts are as before but for the keeper's counts, and all stands as it did.
use Rattle.std.proofs.Common.{◌≡◌, ℕ, ◌==◌, Option, refl, sym, ap, ◌∙◌, subst, arith, inl, inr}
use Rattle.hib_base.specs.Tables.{Tables}
use Rattle.hib_base.proofs.Tables.{Tested, tested}
use Rattle.hib_journal.specs.Types.{Script, Part}
use Rattle.hib_journal.specs.Sessions.{Journal}
use Rattle.hib_journal.specs.Lists.{of_part}
use Rattle.hib_session.specs.declared.session.Session.{Session}
use Rattle.hib_session.specs.Session.{Follows, number_of}
use Rattle.hib_store.specs.Stores.{changes_in}
use Rattle.hib_engines.specs.Origin.{Origin}
use Rattle.hib_engines.specs.Stamps.{AreStamps}
use Rattle.hib_engines.specs.Results.{AreResults}
use Rattle.hib_nodes_law.specs.Types.{Noded, Nodings}
use Rattle.hib_nodes_law.specs.Nodes.{entries, of_node}
use Rattle.hib_nodes.specs.Kept.{past}
use Rattle.hib_nodes.specs.Standing.{NodesPartsState, AreStanding, IsAtNode, IsStepRefused, IsStill, node_in}
use Rattle.hib_nodes.specs.Queue.{QueuesState, AreQueues, AreWaiting}
use Rattle.hib_nodes.specs.Run.{IsRun}
use Rattle.hib_nodes.specs.Shared.{SharedState, IsShared, Leaves}
use Rattle.hib_nodes.specs.Turns.{IsKept}
use Rattle.hib_nodes.proofs.Turned.{waiting_pairs, waiting_taken}

pub still_same : (x y : NodesPartsState) → y ≡ x → IsStill x y
still_same x y e = subst (λ v. IsStill x v) (sym e) (record {
  store = record { tables = refl; written = refl; faults = omega arith; later = omega arith; few = omega arith };
  stamps = refl;
  results = refl;
  first = refl;
  second = refl;
})

still_node : (x y : NodesPartsState) (n : ℕ) → IsStill x y → node_in y n ≡ node_in x n
still_node x y n w = by_test (tested (n == 2))
  where
    by_test : Tested (n == 2) → node_in y n ≡ node_in x n
    by_test (inl t) = rw t w.second
    by_test (inr t) = rw t w.first

still_standing : (script : Script) (told : Option Tables) (h : Noded) (x y : NodesPartsState) → IsStill x y → AreStanding script told h x → AreStanding script told h y
still_standing script told h x y w k = record {
  store = record { rows = w.store.tables ∙ k.store.rows; changes = λ n. ap (λ v. changes_in v n) w.store.written ∙ k.store.changes n };
  stamps = subst (λ z. AreStamps script (of_part Part.Stamps (entries h)) z) (sym w.stamps) k.stamps;
  results = subst (λ z. AreResults script (of_part Part.Results (entries h)) z) (sym w.results) k.results;
  nodes = λ n i. subst (λ z. IsAtNode script (of_node n h) z) (sym (still_node x y n w)) (k.nodes n i);
}

run_still : (script : Script) (places : Nodings) (from : Origin) (h new : Noded) (x y : NodesPartsState) → IsRun script places from h x → IsStill x y → new ≡ h → IsRun script places from new y
run_still script places from h new x y run w e = subst (λ (g : Noded). IsRun script places from g y) (sym e) (record {
  turns = run.turns;
  whole = run.whole;
  nodes = run.nodes;
  apart = run.apart;
  standing = still_standing script from.tables h x y w run.standing;
  faults = omega (arith, run.faults, w.store.faults);
  built = run.built;
  set = run.set;
})

queues_still : (script : Script) (h new : Noded) (q r : QueuesState) → AreQueues script h q → AreWaiting q r → new ≡ h → AreQueues script new r
queues_still script h new q r k w e = subst (λ (g : Noded). AreQueues script g r) (sym e)
    (λ n i. record { pairs = waiting_pairs q r n w ∙ (k n i).pairs; taken = waiting_taken q r n w ∙ (k n i).taken })

pub shared_still : (script : Script) (places : Nodings) (from : Origin) (x w : SharedState) → IsShared script places from x → past w.journal ≡ past x.journal → IsStill x.parts w.parts →
    AreWaiting x.queues w.queues → IsShared script places from w
shared_still script places from x w k e s q = record {
  run = run_still script places from (past x.journal) (past w.journal) x.parts w.parts k.run s e;
  queues = queues_still script (past x.journal) (past w.journal) x.queues w.queues k.queues q e;
}

pub waiting_same : (q r : QueuesState) → r ≡ q → AreWaiting q r
waiting_same q r e = subst (λ z. AreWaiting q z) (sym e) (record { first_pairs = refl; first_taken = refl; second_pairs = refl; second_taken = refl })

-- a turn that added nothing, of a session that follows what it followed
pub leaves_of : (told script : Script) (x w : SharedState) (y z : Session) → told ≡ script → past w.journal ≡ past x.journal → IsStepRefused script (past x.journal) (number_of y) x.parts w.parts →
    AreWaiting x.queues w.queues → number_of z ≡ number_of y → ((mine : Journal) → Follows told y mine → Follows told z mine) → Leaves script x w y z
leaves_of told script x w y z q e s v n f = record {
  same = e;
  parts = s;
  queues = v;
  number = n;
  follows = subst (λ (t : Script). (mine : Journal) → Follows t y mine → Follows t z mine) q f;
}

pub leaves_then : (told script : Script) (x v w : SharedState) (y u z : Session) → told ≡ script → past v.journal ≡ past x.journal → v.parts ≡ x.parts → v.queues ≡ x.queues → IsKept told y u →
    Leaves script v w u z → Leaves script x w y z
leaves_then told script x v w y u z q e p r k l = record {
  same = l.same ∙ e;
  parts = subst (λ (t : NodesPartsState). IsStepRefused script (past x.journal) (number_of y) t w.parts) p
      (subst (λ (g : Noded). IsStepRefused script g (number_of y) v.parts w.parts) e (subst (λ i. IsStepRefused script (past v.journal) i v.parts w.parts) k.number l.parts));
  queues = subst (λ (t : QueuesState). AreWaiting t w.queues) r l.queues;
  number = l.number ∙ k.number;
  follows = λ mine g. l.follows mine (subst (λ (t : Script). (mine : Journal) → Follows t y mine → Follows t u mine) q k.follows mine g);
}
