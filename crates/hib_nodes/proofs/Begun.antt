-- What a run of two nodes is opened with stands for the empty journal.
use Rattle.std.proofs.Common.{◌≡◌, ◌≤◌, ◌<◌, ℕ, ◌==◌, List, [], length, map, Some, None, Option, refl, sym, ap, ◌∙◌, subst, arith, inl, inr}
use Rattle.std.proofs.lemmas.List.{length-map, length-replicate}
use Rattle.std.specs.Option.{option_map}
use Rattle.hib_base.specs.Tables.{Tables}
use Rattle.hib_base.proofs.Tables.{Tested, tested}
use Rattle.hib_journal.specs.Lists.{of_part, stored}
use Rattle.hib_journal.specs.Types.{Part, Script}
use Rattle.hib_split_law.specs.Apart.{IsPartLegal}
use Rattle.hib_update_stamps.specs.Stamped.{unstamped}
use Rattle.hib_update_stamps.specs.Standing.{IsStamps}
use Rattle.hib_query_cache.specs.Standing.{IsResults}
use Rattle.hib_session.specs.declared.session.Session.{Session}
use Rattle.hib_session.specs.Sessions as Plainly
use Rattle.hib_store.specs.Stores.{changes_in}
use Rattle.hib_engines.specs.Laws.{Laws}
use Rattle.hib_engines.specs.Origin.{Origin}
use Rattle.hib_engines.specs.Region.{empty, IsPlaced}
use Rattle.hib_engines.specs.Regions.{region_of}
use Rattle.hib_engines.specs.Registry.{IsRegistry}
use Rattle.hib_engines.proofs.Opened.{registry_begins}
use Rattle.hib_engines.proofs.Ready.{ready}
use Rattle.hib_engines.proofs.RegionList.{regions_begin}
use Rattle.hib_nodes_law.specs.Types.{Noded, Nodings}
use Rattle.hib_nodes_law.specs.Legal.{is_of_node, seen_at}
use Rattle.hib_nodes.specs.Kept.{past}
use Rattle.hib_nodes.specs.Standing.{NodeState, NodesPartsState, AreStanding, IsAtNode, node_in}
use Rattle.hib_nodes.specs.Queue.{QueuesState, AreQueues, IsQueue, queue_in}
use Rattle.hib_nodes.specs.Run.{AreSet, IsAsked, IsRun}
use Rattle.hib_nodes.specs.Shared.{SharedState, AreSessions, IsShared}

-- ---- the parts

told_same : (told : Option Tables) → told ≡ option_map (λ start. stored start []) told
told_same None = refl
told_same (Some start) = refl

pub node_begins : Laws → (script : Script) (z : NodeState) → z.registry ≡ [] → z.regions ≡ map (λ d. empty d.strategy d.capacity script.timeout) script.mapping → IsAtNode script [] z
node_begins l script z r g = record {
  registry = subst (λ v. IsRegistry v []) (sym r) registry_begins;
  regions = λ n. subst (λ v. IsPlaced script n [] (region_of v n)) (sym g) (regions_begin l script n);
  entities = ap length g ∙ length-map script.mapping (λ d. empty d.strategy d.capacity script.timeout);
}

pub parts_begin : Laws → (script : Script) (told : Option Tables) (x : NodesPartsState) → x.store.tables ≡ told → x.store.written ≡ [] → x.stamps ≡ unstamped (length script.mapping) →
    x.results ≡ record { capacity = script.results; kept = [] } → 0 < script.results → IsAtNode script [] x.first → IsAtNode script [] x.second → AreStanding script told [] x
parts_begin l script told x t w s u c a b = record {
  store = record { rows = t ∙ told_same told; changes = λ n. ap (λ v. changes_in v n) w };
  stamps = record {
    stands = subst (λ v. IsStamps script.timeout v []) (sym s) (l.stamps_begin script.timeout (length script.mapping));
    tables = ap length s ∙ length-replicate (length script.mapping) None;
  };
  results = record {
    stands = subst (λ v. IsResults (length script.queries) v []) (sym u) (l.results_begin (length script.queries) script.results c);
    capacity = ap (λ v. v.capacity) u;
  };
  nodes = λ n i. by_node n (tested (n == 2));
}
  where
    by_node : (n : ℕ) → Tested (n == 2) → IsAtNode script [] (node_in x n)
    by_node n (inl q) = rw q b
    by_node n (inr q) = rw q a

-- ---- the queues

pub queues_begin : (script : Script) (q : QueuesState) → q.first.pairs ≡ [] → q.first.taken ≡ 0 → q.second.pairs ≡ [] → q.second.taken ≡ 0 → AreQueues script [] q
queues_begin script q a b c d n i = by_node (tested (n == 2))
  where
    by_node : Tested (n == 2) → IsQueue script n [] (queue_in q n)
    by_node (inl t) = rw t (record { pairs = c; taken = d })
    by_node (inr t) = rw t (record { pairs = a; taken = b })

-- ---- the whole

parts_of_none : (script : Script) (told : Option Tables) (p : Part) (n : ℕ) → IsPartLegal script told (of_part p (seen_at p n []))
parts_of_none script told p n = by_test (tested (is_of_node p))
  where
    by_test : Tested (is_of_node p) → IsPartLegal script told (of_part p (seen_at p n []))
    by_test (inl q) = rw q tt
    by_test (inr q) = rw q tt

pub shared_begins : (script : Script) (places : Nodings) (from : Origin) (x : SharedState) → AreSet script places → past x.journal ≡ [] → AreStanding script from.tables [] x.parts →
    AreQueues script [] x.queues → from.faults ≤ x.parts.store.faults → IsShared script places from x
shared_begins script places from x set e s q f = record {
  run = subst (λ (h : Noded). IsRun script places from h x.parts) (sym e) (record {
    turns = tt;
    whole = refl;
    nodes = tt;
    apart = record { parts = λ p n o. parts_of_none script from.tables p n; sessions = λ s. tt };
    standing = s;
    faults = omega (arith, f);
    built = ready script set.valid;
    set = set;
  });
  queues = subst (λ (h : Noded). AreQueues script h x.queues) (sym e) q;
}

pub sessions_begin : (script : Script) (h : Noded) (xs : List Session) → h ≡ [] → Plainly.AreSessions script [] xs → AreSessions script h xs
sessions_begin script h xs e w = subst (λ (g : Noded). AreSessions script g xs) (sym e) (record { all = w.all; numbers = w.numbers; follow = λ s y p. w.follow s y p refl })

pub asked_begins : (from : Origin) (h : Noded) (x : NodesPartsState) → h ≡ [] → x.store.asked ≡ from.asked → IsAsked from h x
asked_begins from h x e a = subst (λ (g : Noded). IsAsked from g x) (sym e) (record { later = omega (arith, a); few = omega (arith, a) })
