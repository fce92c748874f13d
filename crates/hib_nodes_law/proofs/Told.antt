-- What the lists of parts tell of a legal journal of two nodes, and how a queue goes on.
use Rattle.std.specs.Prelude.{unwrap_or}
use Rattle.std.proofs.Common.{◌≡◌, ℕ, zero, suc, ◌+◌, ◌≤◌, ◌<◌, inl, inr, true, false, cond, ◌==◌, List, [], ◌∷◌, ◌++◌, length, drop, slice_get, Some, None, Option, refl, ap, sym, ◌∙◌, subst, arith}
use Rattle.std.proofs.lemmas.Bool.{true≢false, eqb-true}
use Rattle.std.proofs.lemmas.List.{append-nil, length-append, drop-append-le}
use Rattle.std.proofs.lemmas.Option.{slice_get_within}
use Rattle.hib_base.specs.Tables.{Tables}
use Rattle.hib_journal.specs.Types.{Key, Script, Part}
use Rattle.hib_journal.specs.Sessions.{changes, committed, floor, same_part}
use Rattle.hib_journal.specs.Legal.{IsReply, IsAnswerBy, reply_by, reply_of, fault_of, is_told, part_of}
use Rattle.hib_journal.specs.Lists.{of_part, seen_by, stored}
use Rattle.hib_journal.specs.Runs.{ask_count, fault_count, is_fault}
use Rattle.hib_journal.specs.Coherence.{takes}
use Rattle.hib_journal.specs.Due.{asks_store}
use Rattle.hib_base.proofs.Tables.{Tested, tested, same_key_refl}
use Rattle.hib_law.proofs.Basics.{none_some, some_same}
use Rattle.hib_split_law.specs.Apart.{store_ask_count}
use Rattle.hib_split_law.proofs.Local.{AllFit, committed_local, floor_local}
use Rattle.hib_split_law.proofs.Counts.{asked_local, elsewhere, calm}
use Rattle.hib_nodes_law.specs.Types.{NodeEntry, Noded, Nodings}
use Rattle.hib_nodes_law.specs.Nodes.{entries, of_node, pairs, is_fence, fence_count, queue, shared_keys, committed_changes}
use Rattle.hib_nodes_law.specs.Legal.{is_of_node, IsNodeReply, IsNodeStep, AreNodesLegal}
use Rattle.hib_nodes_law.specs.Apart.{IsQueueAfter, AreOfParts}
use Rattle.hib_nodes_law.proofs.Rules.{Doer, doer}
use Rattle.hib_nodes_law.proofs.Apart.{node_case, seen_quiet, quiet_all, quiet_at, fit_all, fit_at}

module _ (script : Script) (h : Noded) (e : NodeEntry) (part : part_of e.entry.act (unwrap_or e.entry.session 0) ≡ e.entry.part) where
  -- the reply that is due is a plain reply over what the part sees
  answer_in : is_of_node e.entry.part ≡ true → (start : Tables) →
      IsAnswerBy (changes (unwrap_or e.entry.session 0) (entries h)) (reply_by script (changes (unwrap_or e.entry.session 0) (entries h)) (committed start (entries h))
      (of_node e.node h) (unwrap_or e.entry.session 0) e.entry.tick e.entry.act) e.entry →
      IsAnswerBy (changes (unwrap_or e.entry.session 0) (of_node e.node h)) (reply_of script start (of_node e.node h) (unwrap_or e.entry.session 0) e.entry.tick e.entry.act) e.entry
  answer_in q start p =
      let c : (reply_by script (changes (unwrap_or e.entry.session 0) (entries h)) (committed start (entries h)) (of_node e.node h) (unwrap_or e.entry.session 0) e.entry.tick e.entry.act
      ≡ reply_by script (changes (unwrap_or e.entry.session 0) (of_node e.node h)) (committed start (of_node e.node h)) (of_node e.node h) (unwrap_or e.entry.session 0) e.entry.tick e.entry.act)
      × (fault_of (changes (unwrap_or e.entry.session 0) (entries h)) e.entry.act ≡ None) × (is_told (changes (unwrap_or e.entry.session 0) (entries h)) e.entry.act ≡ false) =
      node_case script (changes (unwrap_or e.entry.session 0) (entries h)) (changes (unwrap_or e.entry.session 0) (of_node e.node h)) (committed start (entries h)) (committed start (of_node e.node h))
      (of_node e.node h) (unwrap_or e.entry.session 0) e.entry.tick e.entry.act (ap is_of_node part ∙ q) in
      elim p [ inl x ↦ inl (x ∙ c.0) | inr x ↦ none_some (sym c.1 ∙ x) ]

  pub node_in : is_of_node e.entry.part ≡ true → (told : Option Tables) → IsNodeReply script told h e → IsReply script told (of_node e.node h) e.entry
  node_in q (Some start) p = answer_in q start (rw q at p)
  node_in q None p =
      let c : is_told (changes (unwrap_or e.entry.session 0) (entries h)) e.entry.act ≡ false =
      (node_case script (changes (unwrap_or e.entry.session 0) (entries h)) (changes (unwrap_or e.entry.session 0) (of_node e.node h)) [] []
      (of_node e.node h) (unwrap_or e.entry.session 0) e.entry.tick e.entry.act (ap is_of_node part ∙ q)).2 in
      (p.0, λ t. answer_in q [] (rw q at (p.1 c)))

  pub whole_in : is_of_node e.entry.part ≡ false → (told : Option Tables) → IsNodeReply script told h e → IsReply script told (entries h) e.entry
  whole_in q (Some start) p = rw q at p
  whole_in q None p = rw q at p

module _ (script : Script) (told : Option Tables) (places : Nodings) where
  -- an entry of no store says no fault
  no_fault : (h : Noded) (e : NodeEntry) → IsNodeStep script told places h e → same_part Part.Store e.entry.part ≡ false → is_fault e.entry.reply ≡ false
  no_fault h e t p = by_part (tested (is_of_node e.entry.part))
    where
      o : asks_store e.entry.act ≡ false
      o = elsewhere e.entry.act (unwrap_or e.entry.session 0) (ap (same_part Part.Store) t.part ∙ p)

      by_part : Tested (is_of_node e.entry.part) → is_fault e.entry.reply ≡ false
      by_part (inl q) = calm script e.entry (of_node e.node h) o told (node_in script h e t.part q told t.reply)
      by_part (inr q) = calm script e.entry (entries h) o told (whole_in script h e t.part q told t.reply)

  faults : (h : Noded) → AreNodesLegal script told places h → fault_count (entries h) ≡ fault_count (of_part Part.Store (entries h))
  faults [] l = refl
  faults (e ∷ h) l = by_part (tested (same_part Part.Store e.entry.part)) (faults h l.0)
    where
      by_part : Tested (same_part Part.Store e.entry.part) → fault_count (entries h) ≡ fault_count (of_part Part.Store (entries h)) →
          fault_count (entries (e ∷ h)) ≡ fault_count (of_part Part.Store (entries (e ∷ h)))
      by_part (inl q) i = rw q (ap (λ n. n + cond (is_fault e.entry.reply) 1 0) i)
      by_part (inr q) i = let n : is_fault e.entry.reply ≡ false = no_fault h e l.1 q in rw (q, n) (omega (arith, i))

  pub of_parts : (h : Noded) → AreNodesLegal script told places h → AreOfParts h
  of_parts h l =
      let s : seen_by Part.Store (entries h) ≡ of_part Part.Store (entries h) = seen_quiet Part.Store (entries h) (quiet_all script told places h l) in
      let a : AllFit (entries h) = fit_all script told places h l in
      record {
        store = record {
          rows = λ start. subst (λ j. committed start (entries h) ≡ stored start j) s (committed_local start (entries h) a);
          asked = subst (λ j. ask_count (entries h) ≡ store_ask_count j) s (asked_local (entries h) a);
          faults = faults h l;
        };
        floors = λ n now.
            let r : seen_by Part.Registry (of_node n h) ≡ of_part Part.Registry (of_node n h) = seen_quiet Part.Registry (of_node n h) (quiet_at script told places n h l) in
            subst (λ j. floor (of_node n h) now ≡ floor j now) r (floor_local (of_node n h) now (fit_at script told places n h l));
      }

  -- how a queue goes on

  drop_one : (c : ℕ) (xs : List Key) (k : Key) → slice_get xs c ≡ Some k → drop c xs ≡ k ∷ drop (suc c) xs
  drop_one c [] k p = none_some p
  drop_one zero (x ∷ xs) k p = ap (λ z. z ∷ xs) (some_same p)
  drop_one (suc c) (x ∷ xs) k p = drop_one c xs k p

  -- the fences have taken pairs that came
  within : (n : ℕ) (h : Noded) → AreNodesLegal script told places h → fence_count n h ≤ length (pairs script n h)
  within n [] l = omega arith
  within n (e ∷ h) l = by_doer (doer script told places h e l.1) (within n h l.0) (tested (e.node == n))
    where
      longer : length (pairs script n (e ∷ h)) ≡ length (pairs script n h) + length (cond (e.node == n) [] (shared_keys script (committed_changes h e)))
      longer = length-append (pairs script n h) (cond (e.node == n) [] (shared_keys script (committed_changes h e)))

      rests : is_fence n e ≡ false → fence_count n h ≤ length (pairs script n h) → fence_count n (e ∷ h) ≤ length (pairs script n (e ∷ h))
      rests f i =
          let c : fence_count n (e ∷ h) ≡ fence_count n h = rw f (omega arith) in
          omega (arith, longer, i)

      by_doer : Doer script places h e → fence_count n h ≤ length (pairs script n h) → Tested (e.node == n) → fence_count n (e ∷ h) ≤ length (pairs script n (e ∷ h))
      by_doer d i (inr a) = rests (rw a refl) i
      by_doer (Doer.Session s q b m z a) i (inl x) = rests (rw (x, q) refl) i
      by_doer (Doer.Second j m q z a) i (inl x) = rests (rw (x, q, a) refl) i
      by_doer (Doer.First j q z a b) i (inl x) =
          let a2 : slice_get (pairs script n h) (fence_count n h) ≡ Some j = subst (λ w. slice_get (pairs script w h) (fence_count w h) ≡ Some j) (eqb-true e.node n x) a in
          let m : fence_count n h < length (pairs script n h) = slice_get_within (pairs script n h) (fence_count n h) j a2 in
          let f : is_fence n e ≡ true = rw (x, q, b) refl in
          let c : fence_count n (e ∷ h) ≡ suc (fence_count n h) = rw f (omega arith) in
          omega (arith, longer, m)

  pub queue_after : (n : ℕ) (h : Noded) (e : NodeEntry) → AreNodesLegal script told places (e ∷ h) → IsQueueAfter script n h e
  queue_after n h e l = record { more = more; less = less }
    where
      more : is_fence n e ≡ false → queue script n (e ∷ h) ≡ queue script n h ++ cond (e.node == n) [] (shared_keys script (committed_changes h e))
      more f =
          let c : fence_count n (e ∷ h) ≡ fence_count n h = rw f (omega arith) in
          ap (λ m. drop m (pairs script n (e ∷ h))) c
          ∙ drop-append-le (fence_count n h) (pairs script n h) (cond (e.node == n) [] (shared_keys script (committed_changes h e))) (within n h l.0)

      less : is_fence n e ≡ true → (j : Key) × (takes j e.entry.act ≡ true) × (queue script n h ≡ j ∷ queue script n (e ∷ h))
      less f = by_doer (doer script told places h e l.1) (tested (e.node == n))
        where
          not_fence : is_fence n e ≡ false → (j : Key) × (takes j e.entry.act ≡ true) × (queue script n h ≡ j ∷ queue script n (e ∷ h))
          not_fence g = absurd (true≢false (sym f ∙ g))

          by_doer : Doer script places h e → Tested (e.node == n) → (j : Key) × (takes j e.entry.act ≡ true) × (queue script n h ≡ j ∷ queue script n (e ∷ h))
          by_doer d (inr a) = not_fence (rw a refl)
          by_doer (Doer.Session s q b m z a) (inl x) = not_fence (rw (x, q) refl)
          by_doer (Doer.Second j m q z a) (inl x) = not_fence (rw (x, q, a) refl)
          by_doer (Doer.First j q z a b) (inl x) =
              let a2 : slice_get (pairs script n h) (fence_count n h) ≡ Some j = subst (λ w. slice_get (pairs script w h) (fence_count w h) ≡ Some j) (eqb-true e.node n x) a in
              let c : fence_count n (e ∷ h) ≡ suc (fence_count n h) = rw f (omega arith) in
              let p : pairs script n (e ∷ h) ≡ pairs script n h = rw x (append-nil (pairs script n h)) in
              let r : queue script n (e ∷ h) ≡ drop (suc (fence_count n h)) (pairs script n h) =
              ap (λ m. drop m (pairs script n (e ∷ h))) c ∙ ap (λ ys. drop (suc (fence_count n h)) ys) p in
              (j, rw b (same_key_refl j), drop_one (fence_count n h) (pairs script n h) j a2 ∙ ap (λ ys. j ∷ ys) (sym r))
