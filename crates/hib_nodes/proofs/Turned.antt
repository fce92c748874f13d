-- What one turn of a session leaves: the run goes on, and so do the queues.
use Rattle.std.proofs.Common.{◌≡◌, ℕ, Bool, true, false, cond, ◌==◌, List, [], ◌∷◌, ◌++◌, Some, refl, sym, ap, ◌∙◌, subst, arith, inl, inr, eq-eqb}
use Rattle.std.proofs.lemmas.Bool.{true≢false, eqb-true}
use Rattle.hib_base.proofs.Tables.{Tested, tested}
use Rattle.hib_journal.specs.Types.{Key, Script, Part, Act, Reply, Commit}
use Rattle.hib_journal.specs.Sessions.{own, same_part}
use Rattle.hib_journal.specs.Legal.{part_of}
use Rattle.hib_journal.specs.Lists.{entry_at, of_part, unsaved}
use Rattle.hib_journal.specs.Runs.{asks}
use Rattle.hib_split_law.specs.Apart.{store_ask_count}
use Rattle.hib_engines.specs.Counts.{RoseWithin}
use Rattle.hib_nodes_law.specs.declared.nodes.NodeEntry.{NodeEntry}
use Rattle.hib_nodes_law.specs.Types.{Noded}
use Rattle.hib_nodes_law.specs.Nodes.{entries, shared_keys, committed_changes}
use Rattle.hib_nodes.specs.Standing.{NodesPartsState, IsAskedFor, entry_on, is_node}
use Rattle.hib_nodes.specs.Queue.{QueueState, QueuesState, AreQueues, AreWaiting, queue_in, other_node}
use Rattle.hib_nodes.specs.Turns.{keys_at, is_committed}
use Rattle.hib_nodes.proofs.Lists.{other_part, same_list}
use Rattle.hib_nodes.proofs.Queues.{queues_after, this_or_other}

-- ---- the keys that a turn queues

no_keys : (b : Bool) → ◌≡◌ {A = List Key} [] (cond b [] [])
no_keys true = refl
no_keys false = refl

pub committed_keys : (script : Script) (h : Noded) (n s now : ℕ) (a : Act) (r : Reply) →
    shared_keys script (committed_changes h (entry_on n (entry_at now (Some s) a r))) ≡ cond (is_committed r) (keys_at script a (own s (entries h))) []
committed_keys script h n s now Act.Commit (Reply.Commit Commit.Committed) = refl
committed_keys script h n s now Act.Commit (Reply.Commit _) = refl
committed_keys script h n s now Act.Commit _ = refl
committed_keys script h n s now _ r = no_keys (is_committed r)

-- ---- the queues

pub waiting_pairs : (q r : QueuesState) (n : ℕ) → AreWaiting q r → (queue_in r n).pairs ≡ (queue_in q n).pairs
waiting_pairs q r n w = by_test (tested (n == 2))
  where
    by_test : Tested (n == 2) → (queue_in r n).pairs ≡ (queue_in q n).pairs
    by_test (inl t) = rw t w.second_pairs
    by_test (inr t) = rw t w.first_pairs

pub waiting_taken : (q r : QueuesState) (n : ℕ) → AreWaiting q r → (queue_in r n).taken ≡ (queue_in q n).taken
waiting_taken q r n w = by_test (tested (n == 2))
  where
    by_test : Tested (n == 2) → (queue_in r n).taken ≡ (queue_in q n).taken
    by_test (inl t) = rw t w.second_taken
    by_test (inr t) = rw t w.first_taken

pub other_twice : (n : ℕ) → is_node n ≡ true → other_node (other_node n) ≡ n
other_twice n i = by_test (tested (n == 2))
  where
    by_test : Tested (n == 2) → other_node (other_node n) ≡ n
    by_test (inl t) = rw t (sym (eqb-true n 2 t))
    by_test (inr t) = let m : 2 ≡ other_node n = rw t refl in
        rw t (sym (this_or_other 2 n refl i (not_two t)))
      where
        not_two : (n == 2) ≡ false → (2 == n) ≡ false
        not_two t = Rattle.std.proofs.lemmas.Bool.ne_eqb 2 n (λ e. true≢false (sym (eq-eqb n 2 (sym e)) ∙ t))

-- what a turn has committed comes to the other node
pub queues_more : (script : Script) (h : Noded) (e : NodeEntry) (s : ℕ) (ks : List Key) (q p r : QueuesState) → AreQueues script h q → e.entry.session ≡ Some s → is_node e.node ≡ true → AreWaiting q p →
    shared_keys script (committed_changes h e) ≡ ks → (queue_in r (other_node e.node)).pairs ≡ (queue_in p (other_node e.node)).pairs ++ ks →
    (queue_in r (other_node e.node)).taken ≡ (queue_in p (other_node e.node)).taken → queue_in r (other_node (other_node e.node)) ≡ queue_in p (other_node (other_node e.node)) →
    AreQueues script (e ∷ h) r
queues_more script h e s ks q p r k by i w keys a b o =
    let same : queue_in r e.node ≡ queue_in p e.node = subst (λ m. queue_in r m ≡ queue_in p m) (other_twice e.node i) o in
    queues_after script h e s q r k by i
    (a ∙ (ap (λ xs. xs ++ ks) (waiting_pairs q p (other_node e.node) w) ∙ ap (λ xs. (queue_in q (other_node e.node)).pairs ++ xs) (sym keys)))
    (b ∙ waiting_taken q p (other_node e.node) w)
    (ap (λ (z : QueueState). z.pairs) same ∙ waiting_pairs q p e.node w)
    (ap (λ (z : QueueState). z.taken) same ∙ waiting_taken q p e.node w)

-- ---- how often the keeper was asked

asks_none : (cs : List Rattle.hib_journal.specs.Types.Change) (a : Act) (s : ℕ) → same_part Part.Store (part_of a s) ≡ false → asks cs a ≡ false
asks_none cs (Act.Load k) s p = absurd (true≢false p)
asks_none cs (Act.List q) s p = absurd (true≢false p)
asks_none cs _ s p = refl

pub asked_on : (h : Noded) (n s now : ℕ) (a : Act) (r : Reply) (x y : NodesPartsState) → IsAskedFor h s a x y → (b : ℕ) →
    RoseWithin b (store_ask_count (of_part Part.Store (entries h))) x.store.asked →
    RoseWithin b (store_ask_count (of_part Part.Store (entry_at now (Some s) a r ∷ entries h))) y.store.asked
asked_on h n s now a r x y f b w = by_part (tested (same_part Part.Store (part_of a s)))
  where
    by_part : Tested (same_part Part.Store (part_of a s)) → RoseWithin b (store_ask_count (of_part Part.Store (entry_at now (Some s) a r ∷ entries h))) y.store.asked
    by_part (inl p) = subst (λ l. RoseWithin b (store_ask_count l) y.store.asked) (sym (same_list Part.Store (entry_at now (Some s) a r) (entries h) p))
        (record { later = omega (arith, w.later, f.later); few = omega (arith, w.few, f.few) })
    by_part (inr p) =
        let none : ◌≡◌ {A = ℕ} (cond (asks (unsaved s (of_part Part.Store (entries h))) a) 1 0) 0 = ap (λ t. cond t 1 0) (asks_none (unsaved s (of_part Part.Store (entries h))) a s p) in
        subst (λ l. RoseWithin b (store_ask_count l) y.store.asked) (sym (other_part Part.Store (entry_at now (Some s) a r) (entries h) p))
        (record { later = omega (arith, w.later, f.later); few = omega (arith, w.few, f.few, none) })
