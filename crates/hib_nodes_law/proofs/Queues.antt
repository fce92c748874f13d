-- The queue of a node: each fence takes the first pair; so what a node knows of a key, and what is behind, make up all commits on it.
use Rattle.std.proofs.Common.{◌≡◌, ℕ, zero, suc, ◌+◌, ◌-◌, ◌≤◌, ◌<◌, inl, inr, Bool, true, false, cond, not, ◌&&◌, ◌==◌, List, [], ◌∷◌, ◌++◌, length, take, slice_get, Some, None, Option, refl, ap, sym, ◌∙◌, subst, arith}
use Rattle.std.specs.List.{filter}
use Rattle.std.proofs.lemmas.Bool.{true≢false, eqb-true}
use Rattle.std.proofs.lemmas.List.{length-append, append-nil, take-append-le, length-drop, length-take-le, take_all}
use Rattle.std.proofs.lemmas.Option.{slice_get_within}
use Rattle.hib_journal.specs.Types.{Key, Change, Strategy, Script}
use Rattle.hib_base.specs.Keys.{same_key}
use Rattle.hib_base.specs.Tables.{Tables, key_of}
use Rattle.hib_journal.specs.Sessions.{committer}
use Rattle.hib_journal.specs.Next.{strategy, is_in, keys_of}
use Rattle.hib_base.proofs.Tables.{Tested, tested, same_key_eq, same_key_refl}
use Rattle.hib_law.proofs.Basics.{none_some, some_same}
use Rattle.hib_nodes_law.specs.Types.{NodeEntry, Noded, Nodings}
use Rattle.hib_nodes_law.specs.Nodes.{is_read_write, shared_keys, committed_changes, pairs, is_fence, fence_count, queue, changes_key, commit_count, crossed, fenced, behind}
use Rattle.hib_nodes_law.specs.Legal.{AreNodesLegal}
use Rattle.hib_nodes_law.proofs.Rules.{Doer, doer}

-- how often a key stands in a list
abbrev pub key_count : Key → List Key → ℕ
key_count k [] = 0
key_count k (j ∷ js) = cond (same_key j k) 1 0 + key_count k js

count_append : (k : Key) (xs ys : List Key) → key_count k (xs ++ ys) ≡ key_count k xs + key_count k ys
count_append k [] ys = omega arith
count_append k (x ∷ xs) ys = omega (arith, count_append k xs ys)

count_take : (k : Key) (n : ℕ) (xs : List Key) → key_count k (take n xs) ≤ key_count k xs
count_take k zero xs = omega arith
count_take k (suc n) [] = omega arith
count_take k (suc n) (x ∷ xs) = omega (arith, count_take k n xs)

count_next : (k : Key) (n : ℕ) (xs : List Key) (j : Key) → slice_get xs n ≡ Some j →
    key_count k (take (suc n) xs) ≡ cond (same_key j k) 1 0 + key_count k (take n xs)
count_next k n [] j p = none_some p
count_next k zero (x ∷ xs) j p = ap (λ z. cond (same_key z k) 1 0 + 0) (some_same p)
count_next k (suc n) (x ∷ xs) j p = omega (arith, count_next k n xs j p)

-- the keys of some changes name each once

not_here : (a k : Key) → same_key a k ≡ true → (j : Key) → same_key j k ≡ true → not (same_key j a) ≡ false
not_here a k p j q =
    let e : j ≡ a = same_key_eq j k q ∙ sym (same_key_eq a k p) in
    rw (subst (λ z. same_key z a ≡ true) (sym e) (same_key_refl a)) refl

elsewhere : (a k : Key) → same_key a k ≡ false → (j : Key) → same_key j k ≡ true → not (same_key j a) ≡ true
elsewhere a k p j q = by_test (tested (same_key j a))
  where
    by_test : Tested (same_key j a) → not (same_key j a) ≡ true
    by_test (inl r) = absurd (true≢false (sym q ∙ (ap (λ z. same_key z k) (same_key_eq j a r) ∙ p)))
    by_test (inr r) = rw r refl

filter_none : (k : Key) (p : Key → Bool) (xs : List Key) → ((j : Key) → same_key j k ≡ true → p j ≡ false) → key_count k (filter p xs) ≡ 0
filter_none k p [] f = refl
filter_none k p (x ∷ xs) f = by_test (tested (p x)) (tested (same_key x k)) (filter_none k p xs f)
  where
    by_test : Tested (p x) → Tested (same_key x k) → key_count k (filter p xs) ≡ 0 → key_count k (filter p (x ∷ xs)) ≡ 0
    by_test (inr a) b i = rw a i
    by_test (inl a) (inl b) i = absurd (true≢false (sym a ∙ f x b))
    by_test (inl a) (inr b) i = rw (a, b) (omega arith)

filter_all : (k : Key) (p : Key → Bool) (xs : List Key) → ((j : Key) → same_key j k ≡ true → p j ≡ true) → key_count k (filter p xs) ≡ key_count k xs
filter_all k p [] f = refl
filter_all k p (x ∷ xs) f = by_test (tested (p x)) (tested (same_key x k)) (filter_all k p xs f)
  where
    by_test : Tested (p x) → Tested (same_key x k) → key_count k (filter p xs) ≡ key_count k xs → key_count k (filter p (x ∷ xs)) ≡ key_count k (x ∷ xs)
    by_test (inl a) b i = rw a (ap (λ z. cond (same_key x k) 1 0 + z) i)
    by_test (inr a) (inl b) i = absurd (true≢false (sym (f x b) ∙ a))
    by_test (inr a) (inr b) i = rw (a, b) (omega (arith, i))

keys_once : (k : Key) (cs : List Change) → key_count k (keys_of cs) ≡ cond (is_in k cs) 1 0
keys_once k [] = refl
keys_once k (c ∷ cs) = by_test (tested (same_key (key_of c) k)) (keys_once k cs)
  where
    by_test : Tested (same_key (key_of c) k) → key_count k (keys_of cs) ≡ cond (is_in k cs) 1 0 → key_count k (keys_of (c ∷ cs)) ≡ cond (is_in k (c ∷ cs)) 1 0
    by_test (inl a) i = rw a (omega (arith, filter_none k (λ j. not (same_key j (key_of c))) (keys_of cs) (not_here (key_of c) k a)))
    by_test (inr a) i = rw a (omega (arith, i, filter_all k (λ j. not (same_key j (key_of c))) (keys_of cs) (elsewhere (key_of c) k a)))

pub shared_once : (script : Script) (k : Key) (cs : List Change) → strategy script k.entity ≡ Strategy.ReadWrite →
    key_count k (shared_keys script cs) ≡ cond (is_in k cs) 1 0
shared_once script k cs rw_k =
    filter_all k (λ j. is_read_write (strategy script j.entity)) (keys_of cs) here ∙ keys_once k cs
  where
    here : (j : Key) → same_key j k ≡ true → is_read_write (strategy script j.entity) ≡ true
    here j p = ap (λ z. is_read_write (strategy script z.entity)) (same_key_eq j k p) ∙ rw rw_k refl

committed_is_in : (k : Key) (h : Noded) (e : NodeEntry) → is_in k (committed_changes h e) ≡ changes_key k h e
committed_is_in k h e = by_committer (committer e.entry.act e.entry.reply e.entry.session) refl
  where
    by_committer : (o : Option ℕ) → committer e.entry.act e.entry.reply e.entry.session ≡ o → is_in k (committed_changes h e) ≡ changes_key k h e
    by_committer None p = rw p refl
    by_committer (Some s) p = rw p refl

-- the commits on k at node n
abbrev pub local : ℕ → Key → Noded → ℕ
local n k [] = 0
local n k (e ∷ h) = cond ((e.node == n) && changes_key k h e) 1 0 + local n k h

-- how many commits on k node n knows
abbrev pub known : ℕ → Key → Noded → ℕ
known n k h = local n k h + fenced n k h

pub all_commits : (n : ℕ) (k : Key) (h : Noded) → commit_count k h ≡ local n k h + length (crossed n k h)
all_commits n k [] = omega arith
all_commits n k (e ∷ h) = by_test (tested (e.node == n)) (tested (changes_key k h e)) (all_commits n k h)
  where
    by_test : Tested (e.node == n) → Tested (changes_key k h e) → commit_count k h ≡ local n k h + length (crossed n k h) →
        commit_count k (e ∷ h) ≡ local n k (e ∷ h) + length (crossed n k (e ∷ h))
    by_test (inl a) (inl b) i = rw (a, b) (omega arith)
    by_test (inl a) (inr b) i = rw (a, b) (omega arith)
    by_test (inr a) (inl b) i = rw (a, b) (omega arith)
    by_test (inr a) (inr b) i = rw (a, b) (omega arith)

module _ (script : Script) (start : Tables) (places : Nodings) (n : ℕ) (k : Key) (rw_k : strategy script k.entity ≡ Strategy.ReadWrite) where
  -- each commit of the other node on k has one pair
  pub pairs_count : (h : Noded) → key_count k (pairs script n h) ≡ length (crossed n k h)
  pairs_count [] = refl
  pairs_count (e ∷ h) = by_test (tested (e.node == n)) (tested (changes_key k h e)) (pairs_count h)
    where
      more : key_count k (shared_keys script (committed_changes h e)) ≡ cond (changes_key k h e) 1 0
      more = shared_once script k (committed_changes h e) rw_k ∙ ap (λ b. cond b 1 0) (committed_is_in k h e)

      by_test : Tested (e.node == n) → Tested (changes_key k h e) → key_count k (pairs script n h) ≡ length (crossed n k h) →
          key_count k (pairs script n (e ∷ h)) ≡ length (crossed n k (e ∷ h))
      by_test (inl a) b i = rw a (omega (arith, count_append k (pairs script n h) [], i))
      by_test (inr a) (inl b) i =
          let m : key_count k (shared_keys script (committed_changes h e)) ≡ 1 = rw b at more in
          rw (a, b) (omega (arith, count_append k (pairs script n h) (shared_keys script (committed_changes h e)), i, m))
      by_test (inr a) (inr b) i =
          let m : key_count k (shared_keys script (committed_changes h e)) ≡ 0 = rw b at more in
          rw (a, b) (omega (arith, count_append k (pairs script n h) (shared_keys script (committed_changes h e)), i, m))

  -- the fences have taken the first pairs
  pub record IsTaken (h : Noded) : Type 0 where
    pub within : fence_count n h ≤ length (pairs script n h)
    pub keys : key_count k (take (fence_count n h) (pairs script n h)) ≡ fenced n k h

  pub taken : (h : Noded) → AreNodesLegal script (Some start) places h → IsTaken h
  taken [] l = record { within = omega arith; keys = refl }
  taken (e ∷ h) l = by_doer (doer script (Some start) places h e l.1) (taken h l.0) (tested (e.node == n))
    where
      longer : (ys : List Key) → length (pairs script n h ++ ys) ≡ length (pairs script n h) + length ys
      longer ys = length-append (pairs script n h) ys

      -- no fence at n
      rests : is_fence n e ≡ false → IsTaken h → IsTaken (e ∷ h)
      rests f i =
          let c : fence_count n (e ∷ h) ≡ fence_count n h = rw f (omega arith) in
          let z : take (fence_count n h) (pairs script n h ++ cond (e.node == n) [] (shared_keys script (committed_changes h e))) ≡ take (fence_count n h) (pairs script n h) =
          take-append-le (fence_count n h) (pairs script n h) (cond (e.node == n) [] (shared_keys script (committed_changes h e))) i.within in
          let d : fenced n k (e ∷ h) ≡ fenced n k h = rw f (omega arith) in
          record {
            within = omega (arith, c, i.within, longer (cond (e.node == n) [] (shared_keys script (committed_changes h e))));
            keys = ap (λ m. key_count k (take m (pairs script n (e ∷ h)))) c ∙ (ap (key_count k) z ∙ (i.keys ∙ sym d));
          }

      by_doer : Doer script places h e → IsTaken h → Tested (e.node == n) → IsTaken (e ∷ h)
      by_doer d i (inr a) = rests (rw a refl) i
      by_doer (Doer.Session s q b m z a) i (inl x) = rests (rw (x, q) refl) i
      by_doer (Doer.Second j m q z a) i (inl x) = rests (rw (x, q, a) refl) i
      by_doer (Doer.First j q z a b) i (inl x) =
          let m : e.node ≡ n = eqb-true e.node n x in
          let a2 : slice_get (pairs script n h) (fence_count n h) ≡ Some j = subst (λ w. slice_get (pairs script w h) (fence_count w h) ≡ Some j) m a in
          let l2 : fence_count n h < length (pairs script n h) = slice_get_within (pairs script n h) (fence_count n h) j a2 in
          let f : is_fence n e ≡ true = rw (x, q, b) refl in
          let c : fence_count n (e ∷ h) ≡ suc (fence_count n h) = rw f (omega arith) in
          let p : pairs script n (e ∷ h) ≡ pairs script n h = rw x (append-nil (pairs script n h)) in
          let d : fenced n k (e ∷ h) ≡ cond (same_key j k) 1 0 + fenced n k h = rw (f, b) refl in
          record {
            within = omega (arith, c, l2, ap length p);
            keys = ap (λ w. key_count k (take w (pairs script n (e ∷ h)))) c ∙ (ap (λ w. key_count k (take (suc (fence_count n h)) w)) p
                ∙ (count_next k (fence_count n h) (pairs script n h) j a2 ∙ (ap (λ w. cond (same_key j k) 1 0 + w) i.keys ∙ sym d)));
          }

  pub fenced_le : (h : Noded) → AreNodesLegal script (Some start) places h → fenced n k h ≤ length (crossed n k h)
  fenced_le h l =
      let t : IsTaken h = taken h l in
      omega (arith, t.keys, pairs_count h, count_take k (fence_count n h) (pairs script n h))

  -- what is known and what is behind are all commits
  pub known_behind : (h : Noded) → AreNodesLegal script (Some start) places h → commit_count k h ≡ known n k h + length (behind n k h)
  known_behind h l =
      let f : fenced n k h ≤ length (crossed n k h) = fenced_le h l in
      let b : length (behind n k h) ≡ length (crossed n k h) - fenced n k h = length-take-le (length (crossed n k h) - fenced n k h) (crossed n k h) (omega arith) in
      omega (arith, all_commits n k h, b, f)

  pub known_le : (h : Noded) → AreNodesLegal script (Some start) places h → known n k h ≤ commit_count k h
  known_le h l = omega (arith, known_behind h l)

  -- nothing is behind once the queue is empty
  pub none_behind : (h : Noded) → AreNodesLegal script (Some start) places h → queue script n h ≡ [] → length (behind n k h) ≡ 0
  none_behind h l q =
      let t : IsTaken h = taken h l in
      let e : length (pairs script n h) - fence_count n h ≡ 0 = sym (length-drop (fence_count n h) (pairs script n h)) ∙ ap length q in
      let w : take (fence_count n h) (pairs script n h) ≡ pairs script n h = take_all (fence_count n h) (pairs script n h) (omega (arith, e, t.within)) in
      let c : fenced n k h ≡ length (crossed n k h) = sym t.keys ∙ (ap (key_count k) w ∙ pairs_count h) in
      let b : length (behind n k h) ≡ length (crossed n k h) - fenced n k h = length-take-le (length (crossed n k h) - fenced n k h) (crossed n k h) (omega arith) in
      omega (arith, b, c)
