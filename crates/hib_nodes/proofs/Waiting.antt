-- What waits: the keys are of read-write regions, and a fence takes the first one.
use Rattle.std.specs.Prelude.{slice_get}
use Rattle.std.specs.List.{filter}
use Rattle.std.proofs.Common.{◌≡◌, ◌+◌, ◌<◌, ℕ, zero, suc, true, false, cond, ◌==◌, List, [], ◌∷◌, ◌++◌, length, drop, Some, None, refl, sym, ap, ◌∙◌, subst, arith, inl, inr, eq-eqb}
use Rattle.std.proofs.lemmas.Bool.{true≢false, false≢true, eqb-true}
use Rattle.std.proofs.lemmas.Option.{none-some, same_Some}
use Rattle.hib_base.proofs.Tables.{Tested, tested}
use Rattle.hib_journal.specs.Types.{Key, Strategy, Script, Locked, Unlocked}
use Rattle.hib_journal.specs.Next.{keys_of, strategy}
use Rattle.hib_engines.specs.Fenced.{fence_lock, fence_unlock}
use Rattle.hib_nodes_law.specs.Types.{Noded}
use Rattle.hib_nodes_law.specs.Nodes.{committed_changes, fence_count, is_read_write, pairs, queue, shared_keys}
use Rattle.hib_nodes.specs.Standing.{entry_on, is_node}
use Rattle.hib_nodes.specs.Queue.{QueueState, QueuesState, AreQueues, IsQueue, queue_in, waiting, with_queue}
use Rattle.hib_nodes.proofs.Queues.{fence_counts, fence_pairs}

-- ---- the keys

-- each key that is found in a list is of a read-write region
abbrev AreShared : Script → List Key → Type 0
AreShared script [] = Unit {0}
AreShared script (k ∷ ks) = AreShared script ks × (is_read_write (strategy script k.entity) ≡ true)

shared_in : (script : Script) (ks : List Key) → AreShared script (filter (λ k. is_read_write (strategy script k.entity)) ks)
shared_in script [] = tt
shared_in script (k ∷ ks) = by_test (tested (is_read_write (strategy script k.entity))) (shared_in script ks)
  where
    by_test : Tested (is_read_write (strategy script k.entity)) → AreShared script (filter (λ k. is_read_write (strategy script k.entity)) ks) →
        AreShared script (filter (λ k. is_read_write (strategy script k.entity)) (k ∷ ks))
    by_test (inl p) i = rw p (i, p)
    by_test (inr p) i = rw p i

shared_both : (script : Script) (ks js : List Key) → AreShared script ks → AreShared script js → AreShared script (ks ++ js)
shared_both script [] js a b = b
shared_both script (k ∷ ks) js a b = (shared_both script ks js a.0 b, a.1)

shared_pairs : (script : Script) (n : ℕ) (h : Noded) → AreShared script (pairs script n h)
shared_pairs script n [] = tt
shared_pairs script n (e ∷ h) = shared_both script (pairs script n h) (cond (e.node == n) [] (shared_keys script (committed_changes h e))) (shared_pairs script n h) (by_test (tested (e.node == n)))
  where
    by_test : Tested (e.node == n) → AreShared script (cond (e.node == n) [] (shared_keys script (committed_changes h e)))
    by_test (inl p) = rw p tt
    by_test (inr p) = rw p (shared_in script (keys_of (committed_changes h e)))

shared_left : (script : Script) (c : ℕ) (ks : List Key) → AreShared script ks → AreShared script (drop c ks)
shared_left script zero ks a = a
shared_left script (suc c) [] a = a
shared_left script (suc c) (k ∷ ks) a = shared_left script c ks a.0

first_shared : (script : Script) (ks : List Key) (k : Key) → AreShared script ks → slice_get ks 0 ≡ Some k → is_read_write (strategy script k.entity) ≡ true
first_shared script [] k a e = absurd (none-some k e)
first_shared script (j ∷ ks) k a e = subst (λ (i : Key). is_read_write (strategy script i.entity) ≡ true) (same_Some j k e) a.1

read_write : (g : Strategy) → is_read_write g ≡ true → g ≡ Strategy.ReadWrite
read_write Strategy.ReadWrite p = refl
read_write _ p = absurd (false≢true p)

-- the first key that waits
pub waits_shared : (script : Script) (n : ℕ) (h : Noded) (k : Key) → slice_get (queue script n h) 0 ≡ Some k → strategy script k.entity ≡ Strategy.ReadWrite
waits_shared script n h k e =
    read_write (strategy script k.entity) (first_shared script (queue script n h) k (shared_left script (fence_count n h) (pairs script n h) (shared_pairs script n h)) e)

-- ---- the queues

pub queue_is : (script : Script) (n : ℕ) (h : Noded) (q : QueueState) → IsQueue script n h q → waiting q ≡ queue script n h
queue_is script n h q k = ap (λ c. drop c q.pairs) k.taken ∙ ap (drop (fence_count n h)) k.pairs

no_first : (ks : List Key) → slice_get ks 0 ≡ None → ks ≡ []
no_first [] e = refl
no_first (k ∷ ks) e = absurd (none-some k (sym e))

-- nothing waits
pub none_waits : (script : Script) (n : ℕ) (h : Noded) (q : QueueState) → IsQueue script n h q → slice_get (waiting q) 0 ≡ None → queue script n h ≡ []
none_waits script n h q k e = sym (queue_is script n h q k) ∙ no_first (waiting q) e

pub first_below : {A : Type 0} (c : ℕ) (ks : List A) (k : A) → slice_get (drop c ks) 0 ≡ Some k → c < length ks
first_below zero [] k e = absurd (none-some k e)
first_below zero (j ∷ ks) k e = omega arith
first_below (suc c) [] k e = absurd (none-some k e)
first_below (suc c) (j ∷ ks) k e = let l = first_below c ks k e in omega (arith, l)

queue_with : (n m : ℕ) (y : QueueState) (q : QueuesState) → (n == m) ≡ true → queue_in (with_queue n y q) m ≡ y
queue_with n m y q p = let e : n ≡ m = eqb-true n m p in subst (λ i. queue_in (with_queue n y q) i ≡ y) e (by_test (tested (n == 2)))
  where
    by_test : Tested (n == 2) → queue_in (with_queue n y q) n ≡ y
    by_test (inl t) = rw t refl
    by_test (inr t) = rw t refl

queue_beside : (n m : ℕ) (y : QueueState) (q : QueuesState) → is_node n ≡ true → is_node m ≡ true → (n == m) ≡ false → queue_in (with_queue n y q) m ≡ queue_in q m
queue_beside n m y q i j d = by_test (tested (n == 2)) (tested (m == 2))
  where
    by_test : Tested (n == 2) → Tested (m == 2) → queue_in (with_queue n y q) m ≡ queue_in q m
    by_test (inl s) (inl t) = absurd (true≢false (sym (eq-eqb n m (eqb-true n 2 s ∙ sym (eqb-true m 2 t))) ∙ d))
    by_test (inl s) (inr t) = rw (s, t) refl
    by_test (inr s) (inl t) = rw (s, t) refl
    by_test (inr s) (inr t) =
        let o : m ≡ Rattle.hib_nodes.specs.Queue.other_node n = Rattle.hib_nodes.proofs.Queues.this_or_other n m i j d in
        absurd (true≢false (sym (eq-eqb m 2 (o ∙ rw s refl)) ∙ t))

-- after a fence
pub queues_fenced : (script : Script) (n now f : ℕ) (k : Key) (p : Locked) (u : Unlocked) (h : Noded) (q r : QueuesState) → AreQueues script h q → is_node n ≡ true →
    r ≡ with_queue n (record (queue_in q n) { taken = (queue_in q n).taken + 1 }) q → AreQueues script (entry_on n (fence_unlock now k p u) ∷ entry_on n (fence_lock now k f p) ∷ h) r
queues_fenced script n now f k p u h q r w i e m j = by_test (tested (n == m))
  where
    y : QueueState
    y = record (queue_in q n) { taken = (queue_in q n).taken + 1 }

    by_test : Tested (n == m) → IsQueue script m (entry_on n (fence_unlock now k p u) ∷ entry_on n (fence_lock now k f p) ∷ h) (queue_in r m)
    by_test (inl t) =
        let s : n ≡ m = eqb-true n m t in
        let here : queue_in r m ≡ y = ap (λ z. queue_in z m) e ∙ queue_with n m y q t in
        let old : IsQueue script m h (queue_in q m) = w m j in
        let pairs_same : y.pairs ≡ (queue_in q m).pairs = ap (λ a. (queue_in q a).pairs) s in
        let taken_more : y.taken ≡ (queue_in q m).taken + 1 = ap (λ a. (queue_in q a).taken + 1) s in
        let count : fence_count m (entry_on n (fence_unlock now k p u) ∷ entry_on n (fence_lock now k f p) ∷ h) ≡ 1 + fence_count m h = fence_counts m n now f k p u h ∙ ap (λ b. cond b 1 0 + fence_count m h) t in
        record {
          pairs = ap (λ (z : QueueState). z.pairs) here ∙ (pairs_same ∙ (old.pairs ∙ sym (fence_pairs script m n now f k p u h)));
          taken = ap (λ (z : QueueState). z.taken) here ∙ (taken_more ∙ omega (arith, old.taken, count));
        }
    by_test (inr t) =
        let there : queue_in r m ≡ queue_in q m = ap (λ z. queue_in z m) e ∙ queue_beside n m y q i j t in
        let old : IsQueue script m h (queue_in q m) = w m j in
        let count : fence_count m (entry_on n (fence_unlock now k p u) ∷ entry_on n (fence_lock now k f p) ∷ h) ≡ fence_count m h = fence_counts m n now f k p u h ∙ (ap (λ b. cond b 1 0 + fence_count m h) t ∙ omega arith) in
        record {
          pairs = ap (λ (z : QueueState). z.pairs) there ∙ (old.pairs ∙ sym (fence_pairs script m n now f k p u h));
          taken = ap (λ (z : QueueState). z.taken) there ∙ (old.taken ∙ sym count);
        }
