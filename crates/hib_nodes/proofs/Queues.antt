-- The queues go on: by an act of a session, which may commit, and by a fence.
use Rattle.std.proofs.Common.{◌≡◌, ◌+◌, ℕ, Bool, true, false, cond, ◌==◌, ◌&&◌, ◌||◌, [], ◌∷◌, ◌++◌, Some, refl, sym, ap, ◌∙◌, subst, arith, inl, inr, eq-eqb}
use Rattle.std.proofs.lemmas.Bool.{true≢false, eqb-true}
use Rattle.std.proofs.lemmas.List.{append-nil}
use Rattle.hib_base.proofs.Tables.{Tested, tested}
use Rattle.hib_journal.specs.Types.{Key, Script, Locked, Unlocked}
use Rattle.hib_engines.specs.Fenced.{fence_lock, fence_unlock}
use Rattle.hib_nodes_law.specs.declared.nodes.NodeEntry.{NodeEntry}
use Rattle.hib_nodes_law.specs.Types.{Noded}
use Rattle.hib_nodes_law.specs.Nodes.{pairs, fence_count, is_fence, shared_keys, committed_changes}
use Rattle.hib_nodes.specs.Standing.{is_node, entry_on}
use Rattle.hib_nodes.specs.Queue.{QueuesState, IsQueue, AreQueues, queue_in, other_node}

-- a node is this one or the other
pub this_or_other : (n m : ℕ) → is_node n ≡ true → is_node m ≡ true → (n == m) ≡ false → m ≡ other_node n
this_or_other n m p q d = by_second (tested (n == 2)) (tested (m == 2))
  where
    first : (i : ℕ) → is_node i ≡ true → (i == 2) ≡ false → i ≡ 1
    first i p s = eqb-true i 1 (or_false (i == 1) (i == 2) p s)
      where
        or_false : (a b : Bool) → (a || b) ≡ true → b ≡ false → a ≡ true
        or_false true b p s = refl
        or_false false b p s = absurd (true≢false (sym p ∙ s))

    by_second : Tested (n == 2) → Tested (m == 2) → m ≡ other_node n
    by_second (inl s) (inl t) = absurd (true≢false (sym (eq-eqb n m (eqb-true n 2 s ∙ sym (eqb-true m 2 t))) ∙ d))
    by_second (inl s) (inr t) = rw s (first m q t)
    by_second (inr s) (inl t) = rw s (eqb-true m 2 t)
    by_second (inr s) (inr t) = absurd (true≢false (sym (eq-eqb n m (first n p s ∙ sym (first m q t))) ∙ d))

-- ---- an act of a session

no_fence : (n s : ℕ) (e : NodeEntry) → e.entry.session ≡ Some s → is_fence n e ≡ false
no_fence n s e by = rw by (by_bool (e.node == n))
  where
    by_bool : (b : Bool) → (b && false) ≡ false
    by_bool true = refl
    by_bool false = refl

pub queues_after : (script : Script) (h : Noded) (e : NodeEntry) (s : ℕ) (q r : QueuesState) → AreQueues script h q → e.entry.session ≡ Some s → is_node e.node ≡ true →
    (queue_in r (other_node e.node)).pairs ≡ (queue_in q (other_node e.node)).pairs ++ shared_keys script (committed_changes h e) →
    (queue_in r (other_node e.node)).taken ≡ (queue_in q (other_node e.node)).taken →
    (queue_in r e.node).pairs ≡ (queue_in q e.node).pairs → (queue_in r e.node).taken ≡ (queue_in q e.node).taken → AreQueues script (e ∷ h) r
queues_after script h e s q r k by i a b c d n j = by_node (tested (e.node == n))
  where
    counted : fence_count n (e ∷ h) ≡ fence_count n h
    counted = rw (no_fence n s e by) (omega arith)

    by_node : Tested (e.node == n) → IsQueue script n (e ∷ h) (queue_in r n)
    by_node (inl t) =
        let m : e.node ≡ n = eqb-true e.node n t in
        let here : IsQueue script n h (queue_in q n) = k n j in
        record {
          pairs = subst (λ z. (queue_in r z).pairs ≡ (queue_in q z).pairs) m c ∙ (here.pairs ∙ rw t (sym (append-nil (pairs script n h))));
          taken = subst (λ z. (queue_in r z).taken ≡ (queue_in q z).taken) m d ∙ (here.taken ∙ sym counted);
        }
    by_node (inr t) =
        let m : n ≡ other_node e.node = this_or_other e.node n i j t in
        let here : IsQueue script n h (queue_in q n) = k n j in
        record {
          pairs = subst (λ z. (queue_in r z).pairs ≡ (queue_in q z).pairs ++ shared_keys script (committed_changes h e)) (sym m) a
              ∙ (ap (λ ks. ks ++ shared_keys script (committed_changes h e)) here.pairs ∙ rw t refl);
          taken = subst (λ z. (queue_in r z).taken ≡ (queue_in q z).taken) (sym m) b ∙ (here.taken ∙ sym counted);
        }

-- ---- a fence

no_pairs : (script : Script) (n m : ℕ) (h : Noded) (b : Bool) → pairs script n h ++ cond b [] [] ≡ pairs script n h
no_pairs script n m h true = append-nil (pairs script n h)
no_pairs script n m h false = append-nil (pairs script n h)

pub fence_pairs : (script : Script) (n m now f : ℕ) (k : Key) (p : Locked) (u : Unlocked) (h : Noded) →
    pairs script n (entry_on m (fence_unlock now k p u) ∷ entry_on m (fence_lock now k f p) ∷ h) ≡ pairs script n h
fence_pairs script n m now f k p u h = ap (λ ks. ks ++ cond (m == n) [] []) (no_pairs script n m h (m == n)) ∙ no_pairs script n m h (m == n)

pub fence_counts : (n m now f : ℕ) (k : Key) (p : Locked) (u : Unlocked) (h : Noded) →
    fence_count n (entry_on m (fence_unlock now k p u) ∷ entry_on m (fence_lock now k f p) ∷ h) ≡ cond (m == n) 1 0 + fence_count n h
fence_counts n m now f k p u h = by_test (tested (m == n))
  where
    by_test : Tested (m == n) → fence_count n (entry_on m (fence_unlock now k p u) ∷ entry_on m (fence_lock now k f p) ∷ h) ≡ cond (m == n) 1 0 + fence_count n h
    by_test (inl t) = rw t (omega arith)
    by_test (inr t) = rw t (omega arith)
