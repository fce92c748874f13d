-- The committed rows of one key, by the number of commits on it; and that versions do not fall.
use Rattle.std.specs.Prelude.{unwrap_or, cond}
use Rattle.std.specs.List.{list_any}
use Rattle.std.proofs.Common.{◌≡◌, ℕ, ◌+◌, ◌≤◌, ◌⊎◌, inl, inr, Bool, true, false, ◌&&◌, ◌||◌, List, [], ◌∷◌, Some, None, Option, refl, sym, ◌∙◌, subst, arith, eq-eqb}
use Rattle.std.proofs.lemmas.Bool.{true≢false, or_parts, or_left, or_right, le-ltb}
use Rattle.hib_journal.specs.Types.{Key, Row, Change, Commit, Strategy, Script, Act, Reply}
use Rattle.hib_base.specs.Keys.{same_key}
use Rattle.hib_base.specs.Tables.{Tables, row_at, key_of, first_on, last_on, after_changes, commit_answer}
use Rattle.hib_journal.specs.Sessions.{is_by, is_empty, own, changes, committed, committer, is_restart}
use Rattle.hib_journal.specs.Regions.{is_below}
use Rattle.hib_journal.specs.Next.{strategy, is_in}
use Rattle.hib_journal.specs.Legal.{reply_of, fault_of, is_outside}
use Rattle.hib_journal.specs.Sound.{was_deleted, was_reused, commits, inserts_key, deletes_key}
use Rattle.hib_journal.specs.Coherence.{done_in}
use Rattle.hib_journal.specs.Sessions.{is_begun}
use Rattle.hib_base.proofs.Tables.{Tested, tested, row_at_changes}
use Rattle.hib_law.proofs.Basics.{none_some, some_same}
use Rattle.hib_law.proofs.Guarded.{IsGrown}
use Rattle.hib_law.proofs.Commits.{AreSteps, Meets, first_meets, IsUp, goes_up}
use Rattle.hib_law.proofs.Coherent.{IsCommitBy, commit_act, first_none, first_inserts}
use Rattle.hib_law.proofs.Whole.{view_unchanged}
use Rattle.hib_law.proofs.Working.{Allowed, IsReadyIn, holds}
use Rattle.hib_nodes_law.specs.Types.{NodeEntry, Noded, Nodings}
use Rattle.hib_nodes_law.specs.Nodes.{entries, changes_key, commit_count}
use Rattle.hib_nodes_law.specs.Legal.{AreNodesLegal}
use Rattle.hib_nodes_law.proofs.Sight.{IsGrowing}
use Rattle.hib_nodes_law.proofs.Rules.{whole_reply, not_restart, allowed_act}

-- b was the committed row of k after m commits on it
abbrev pub WasRow : Tables → Key → ℕ → Row → Noded → Type 0
WasRow start k m b [] = (m ≡ 0) × (row_at start k ≡ Some b)
WasRow start k m b (e ∷ h) =
    ((m ≡ commit_count k (e ∷ h)) × (row_at (committed start (entries (e ∷ h))) k ≡ Some b)) ⊎ WasRow start k m b h

-- what a journal was at one of its entries, or at first
abbrev pub IsTail : Noded → Noded → Type 0
IsTail g [] = g ≡ []
IsTail g (e ∷ h) = (g ≡ e ∷ h) ⊎ IsTail g h

pub tail_refl : (h : Noded) → IsTail h h
tail_refl [] = refl
tail_refl (e ∷ h) = inl refl

pub was_now : (start : Tables) (k : Key) (b : Row) (h : Noded) → row_at (committed start (entries h)) k ≡ Some b → WasRow start k (commit_count k h) b h
was_now start k b [] p = (refl, p)
was_now start k b (e ∷ h) p = inl (refl, p)

count_le : (b : Bool) (n : ℕ) → n ≤ cond b 1 0 + n
count_le true n = omega arith
count_le false n = omega arith

count_same : (b : Bool) (n m : ℕ) → m ≡ cond b 1 0 + n → m ≤ n → b ≡ false
count_same true n m e l = absurd (omega arith)
count_same false n m e l = refl

pub was_le : (start : Tables) (k : Key) (m : ℕ) (b : Row) (h : Noded) → WasRow start k m b h → m ≤ commit_count k h
was_le start k m b [] w = omega (arith, w.0)
was_le start k m b (e ∷ h) (inl w) = omega (arith, w.0)
was_le start k m b (e ∷ h) (inr w) = omega (arith, was_le start k m b h w, count_le (changes_key k h e) (commit_count k h))

pub tail_le : (k : Key) (g h : Noded) → IsTail g h → commit_count k g ≤ commit_count k h
tail_le k g [] p = subst (λ z. commit_count k z ≤ 0) (sym p) (omega arith)
tail_le k g (e ∷ h) (inl p) = subst (λ z. commit_count k z ≤ commit_count k (e ∷ h)) (sym p) (omega arith)
tail_le k g (e ∷ h) (inr p) = omega (arith, tail_le k g h p, count_le (changes_key k h e) (commit_count k h))

-- an entry that commits no change on k leaves its row
pub row_rests : (start : Tables) (k : Key) (h : Noded) (e : NodeEntry) → changes_key k h e ≡ false →
    row_at (committed start (entries (e ∷ h))) k ≡ row_at (committed start (entries h)) k
row_rests start k h e n = by_committer (committer e.entry.act e.entry.reply e.entry.session) refl
  where
    by_committer : (o : Option ℕ) → committer e.entry.act e.entry.reply e.entry.session ≡ o →
        row_at (committed start (entries (e ∷ h))) k ≡ row_at (committed start (entries h)) k
    by_committer None p = rw p refl
    by_committer (Some s) p =
        let m : list_any (λ c. same_key (key_of c) k) (changes s (entries h)) ≡ false = rw p at n in
        rw p (view_unchanged start (entries h) s k m)

-- rows after equally many commits are the same
pub was_at : (start : Tables) (k : Key) (b : Row) (g h : Noded) → IsTail g h → WasRow start k (commit_count k g) b h →
    row_at (committed start (entries g)) k ≡ Some b
was_at start k b g [] p w = subst (λ z. row_at (committed start (entries z)) k ≡ Some b) (sym p) w.1
was_at start k b g (e ∷ h) (inl p) w =
    subst (λ z. row_at (committed start (entries z)) k ≡ Some b) (sym p)
    (here (subst (λ z. WasRow start k (commit_count k z) b (e ∷ h)) p w) (was_at start k b h h (tail_refl h)))
  where
    here : WasRow start k (commit_count k (e ∷ h)) b (e ∷ h) → (WasRow start k (commit_count k h) b h → row_at (committed start (entries h)) k ≡ Some b) →
        row_at (committed start (entries (e ∷ h))) k ≡ Some b
    here (inl w) i = w.1
    here (inr w) i =
        let n : changes_key k h e ≡ false = count_same (changes_key k h e) (commit_count k h) (commit_count k (e ∷ h)) refl (was_le start k (commit_count k (e ∷ h)) b h w) in
        let c : commit_count k (e ∷ h) ≡ commit_count k h = rw n (omega arith) in
        row_rests start k h e n ∙ i (subst (λ z. WasRow start k z b h) c w)
was_at start k b g (e ∷ h) (inr p) (inl w) =
    let l : commit_count k g ≤ commit_count k h = tail_le k g h p in
    let n : changes_key k h e ≡ false = count_same (changes_key k h e) (commit_count k h) (commit_count k g) w.0 l in
    let c : commit_count k g ≡ commit_count k h = w.0 ∙ rw n (omega arith) in
    was_at start k b g h p (subst (λ z. WasRow start k z b h) (sym c) (was_now start k b h (sym (row_rests start k h e n) ∙ w.1)))
was_at start k b g (e ∷ h) (inr p) (inr w) = was_at start k b g h p w

-- a list of changes has a first one on each key that it names, and on no other

first_in : (k : Key) (cs : List Change) (d : Change) → first_on k cs ≡ Some d → is_in k cs ≡ true
first_in k [] d p = none_some p
first_in k (c ∷ cs) d p = by_key (tested (same_key (key_of c) k)) p (first_in k cs d)
  where
    by_key : Tested (same_key (key_of c) k) → first_on k (c ∷ cs) ≡ Some d → (first_on k cs ≡ Some d → is_in k cs ≡ true) → is_in k (c ∷ cs) ≡ true
    by_key (inl x) p i = rw x refl
    by_key (inr x) p i = let g : first_on k cs ≡ Some d = rw x at p in rw x (i g)

first_out : (k : Key) (cs : List Change) → first_on k cs ≡ None → is_in k cs ≡ false
first_out k [] p = refl
first_out k (c ∷ cs) p = by_key (tested (same_key (key_of c) k)) p (first_out k cs)
  where
    by_key : Tested (same_key (key_of c) k) → first_on k (c ∷ cs) ≡ None → (first_on k cs ≡ None → is_in k cs ≡ false) → is_in k (c ∷ cs) ≡ false
    by_key (inl x) p i = let g : Some c ≡ None = rw x at p in none_some (sym g)
    by_key (inr x) p i = let g : first_on k cs ≡ None = rw x at p in rw x (i g)

-- commits of legal journals

inside_runs : (a : Act) → is_outside a ≡ false → is_restart a ≡ false
inside_runs Act.Restart e = absurd (true≢false e)
inside_runs _ e = refl

pub irreflexive : (v : Option ℕ) → is_below v v ≡ false
irreflexive None = refl
irreflexive (Some n) = le-ltb n n (omega arith)

-- what is known of a Committed entry of s
pub record IsApplied (start : Tables) (k : Key) (s : ℕ) (h : Noded) (e : NodeEntry) : Type 0 where
  pub said : IsCommitBy e.entry.act e.entry.reply e.entry.session s
  pub mine : is_by s e.entry ≡ true
  pub applied : commit_answer (changes s (entries h)) (committed start (entries h)) ≡ Commit.Committed
  pub undone : done_in (own s (entries h)) ≡ false
  pub ready : IsReadyIn k (own s (entries h)) (first_on k (changes s (entries h)))
  pub begun : is_begun (own s (entries h)) ≡ true

module _ (script : Script) (start : Tables) (places : Nodings) (k : Key) (rw_k : strategy script k.entity ≡ Strategy.ReadWrite) where
  pub runs_on : (h : Noded) (e : NodeEntry) → AreNodesLegal script (Some start) places (e ∷ h) → is_restart e.entry.act ≡ false
  runs_on h e l = inside_runs e.entry.act (not_restart script (Some start) places h e l)

  pub applied_by : (s : ℕ) (h : Noded) (e : NodeEntry) → AreNodesLegal script (Some start) places (e ∷ h) →
      committer e.entry.act e.entry.reply e.entry.session ≡ Some s → IsApplied start k s h e
  applied_by s h e l c = record { said = said; mine = mine; applied = applied; undone = a.0; ready = a.1; begun = a.2 }
    where
      said : IsCommitBy e.entry.act e.entry.reply e.entry.session s
      said = commit_act e.entry.act e.entry.reply e.entry.session s c

      mine : is_by s e.entry ≡ true
      mine = rw said.session (eq-eqb s s refl)

      a : (done_in (own s (entries h)) ≡ false) × IsReadyIn k (own s (entries h)) (first_on k (changes s (entries h))) × (is_begun (own s (entries h)) ≡ true)
      a = subst (λ z. Allowed script k (own s (entries h)) z) said.act (allowed_act script start places k rw_k s h e l mine)

      not_free : (b : Bool) → cond b None (Some (Reply.Commit Commit.Fault)) ≡ Some (Reply.Commit Commit.Committed) → ⊥
      not_free true f = none_some f
      not_free false f = let g : Reply.Commit Commit.Fault ≡ Reply.Commit Commit.Committed = some_same f in absurd (cc)

      applied : commit_answer (changes s (entries h)) (committed start (entries h)) ≡ Commit.Committed
      applied = elim (whole_reply script start places h e l.1 (rw said.act refl)) [
        | inl q ↦ let g : Reply.Commit Commit.Committed ≡ reply_of script start (entries h) (unwrap_or (Some s) 0) e.entry.tick Act.Commit =
            subst (λ r. r ≡ reply_of script start (entries h) (unwrap_or (Some s) 0) e.entry.tick Act.Commit) said.reply
            (subst (λ a. e.entry.reply ≡ reply_of script start (entries h) (unwrap_or (Some s) 0) e.entry.tick a) said.act
            (subst (λ b. e.entry.reply ≡ reply_of script start (entries h) (unwrap_or b 0) e.entry.tick e.entry.act) said.session q)) in
            same_commit g
        | inr f ↦ let g : fault_of (changes (unwrap_or e.entry.session 0) (entries h)) Act.Commit ≡ Some (Reply.Commit Commit.Committed) =
            subst (λ r. fault_of (changes (unwrap_or e.entry.session 0) (entries h)) Act.Commit ≡ Some r) said.reply
            (subst (λ a. fault_of (changes (unwrap_or e.entry.session 0) (entries h)) a ≡ Some e.entry.reply) said.act f) in
            absurd (not_free (is_empty (changes (unwrap_or e.entry.session 0) (entries h))) g)
      ]
        where
          same_commit : {x : Commit} → Reply.Commit Commit.Committed ≡ Reply.Commit x → x ≡ Commit.Committed
          same_commit g = cc

  -- a reuse is one now, or one before
  pub once : (h : Noded) (e : NodeEntry) → AreNodesLegal script (Some start) places (e ∷ h) → was_reused k (entries (e ∷ h)) ≡ false →
      ((commits (inserts_key k) (entries h) e.entry && was_deleted k (entries h)) ≡ false) × (was_reused k (entries h) ≡ false)
  once h e l w =
      let g : ((commits (inserts_key k) (entries h) e.entry && was_deleted k (entries h)) || was_reused k (entries h)) ≡ false = rw (runs_on h e l) at w in
      or_parts (commits (inserts_key k) (entries h) e.entry && was_deleted k (entries h)) (was_reused k (entries h)) g

  -- the first change of a commit on a key that was never deleted inserts it, or goes up from the row that is there
  pub data Step (s : ℕ) (h : Noded) (e : NodeEntry) : Type 0 where
    Passes : row_at (committed start (entries (e ∷ h))) k ≡ row_at (committed start (entries h)) k → first_on k (changes s (entries h)) ≡ None →
        changes_key k h e ≡ false → Step s h e
    Adds : row_at (committed start (entries h)) k ≡ None → was_deleted k (entries h) ≡ false → Step s h e
    Changes : (r : Row) → row_at (committed start (entries h)) k ≡ Some r →
        ((d : Row) → row_at (committed start (entries (e ∷ h))) k ≡ Some d → (w : Option ℕ) → is_below r.version w ≡ false → is_below d.version w ≡ false) →
        (row_at (committed start (entries (e ∷ h))) k ≡ None → was_deleted k (entries (e ∷ h)) ≡ true) →
        holds k (own s (entries h)) ≡ true → changes_key k h e ≡ true → Step s h e

  pub step_of : (s : ℕ) (h : Noded) (e : NodeEntry) → AreNodesLegal script (Some start) places (e ∷ h) → was_reused k (entries (e ∷ h)) ≡ false →
      committer e.entry.act e.entry.reply e.entry.session ≡ Some s → Step s h e
  step_of s h e l w c =
      by_first (first_on k (changes s (entries h))) refl (first_meets k (changes s (entries h)) (committed start (entries h)) z.applied) z.ready
    where
      z : IsApplied start k s h e
      z = applied_by s h e l c

      commits_here : (p : Change → Bool) → commits p (entries h) e.entry ≡ list_any p (changes s (entries h))
      commits_here p = rw c refl

      row_is : row_at (committed start (entries (e ∷ h))) k ≡ row_at (after_changes (changes s (entries h)) (committed start (entries h))) k
      row_is = rw c refl

      changed : (r : Row) → row_at (committed start (entries h)) k ≡ Some r → AreSteps k (changes s (entries h)) →
          holds k (own s (entries h)) ≡ true → is_in k (changes s (entries h)) ≡ true → Step s h e
      changed r m st i y =
          let u : IsUp k (changes s (entries h)) r (row_at (after_changes (changes s (entries h)) (committed start (entries h))) k) =
          goes_up k (changes s (entries h)) (committed start (entries h)) r z.applied st m in
          Step.Changes r m (λ d q. u.newer d (sym row_is ∙ q))
          (λ q. rw (runs_on h e l) (or_left (commits (deletes_key k) (entries h) e.entry) (was_deleted k (entries h)) (commits_here (deletes_key k) ∙ u.gone (sym row_is ∙ q))))
          i (rw c y)

      by_first : (o : Option Change) → first_on k (changes s (entries h)) ≡ o → Meets k o (row_at (committed start (entries h)) k) →
          IsReadyIn k (own s (entries h)) o → Step s h e
      by_first None p m r =
          let q : last_on k (changes s (entries h)) ≡ None = first_none k (changes s (entries h)) p in
          Step.Passes (row_is ∙ (row_at_changes (changes s (entries h)) (committed start (entries h)) k ∙ rw q refl)) p (rw c (first_out k (changes s (entries h)) p))
      by_first (Some (Change.Insert j x)) p m r =
          let i : commits (inserts_key k) (entries h) e.entry ≡ true = commits_here (inserts_key k) ∙ first_inserts k (changes s (entries h)) j x p in
          let o : (commits (inserts_key k) (entries h) e.entry && was_deleted k (entries h)) ≡ false = (once h e l w).0 in
          let d : was_deleted k (entries h) ≡ false = rw i at o in
          Step.Adds m d
      by_first (Some (Change.Update j v x)) p m r = changed m.0 m.1 r.0 r.1 (first_in k (changes s (entries h)) (Change.Update j v x) p)
      by_first (Some (Change.Delete j v)) p m r = changed m.0 m.1 r.0 r.1 (first_in k (changes s (entries h)) (Change.Delete j v) p)

  -- a row that was committed once: the committed one is not below it, or the key was deleted
  pub grown : (m : ℕ) (b : Row) (h : Noded) → AreNodesLegal script (Some start) places h → was_reused k (entries h) ≡ false → WasRow start k m b h →
      IsGrown b (row_at (committed start (entries h)) k) (was_deleted k (entries h))
  grown m b h l w p = at_each h l w p
    where
      now : (h : Noded) → row_at (committed start (entries h)) k ≡ Some b → IsGrown b (row_at (committed start (entries h)) k) (was_deleted k (entries h))
      now h p = record {
        newer = λ r q. subst (λ z. is_below z.version b.version ≡ false) (some_same (sym p ∙ q)) (irreflexive b.version);
        gone = λ q. none_some (sym q ∙ p);
      }

      at_each : (h : Noded) → AreNodesLegal script (Some start) places h → was_reused k (entries h) ≡ false → WasRow start k m b h →
          IsGrown b (row_at (committed start (entries h)) k) (was_deleted k (entries h))
      at_each [] l w p = now [] p.1
      at_each (e ∷ h) l w (inl p) = now (e ∷ h) p.1
      at_each (e ∷ h) l w (inr p) = by_committer (committer e.entry.act e.entry.reply e.entry.session) refl (at_each h l.0 (once h e l w).1 p)
        where
          G : Type 0
          G = IsGrown b (row_at (committed start (entries (e ∷ h))) k) (was_deleted k (entries (e ∷ h)))

          deleted : was_deleted k (entries h) ≡ true → was_deleted k (entries (e ∷ h)) ≡ true
          deleted d = rw (runs_on h e l) (or_right (commits (deletes_key k) (entries h) e.entry) (was_deleted k (entries h)) d)

          by_step : (s : ℕ) → Step s h e → IsGrown b (row_at (committed start (entries h)) k) (was_deleted k (entries h)) → G
          by_step s (Step.Passes q f c) g = record { newer = λ r x. g.newer r (sym q ∙ x); gone = λ x. deleted (g.gone (sym q ∙ x)) }
          by_step s (Step.Adds q d) g = absurd (true≢false (sym (g.gone q) ∙ d))
          by_step s (Step.Changes r q u d i c) g = record { newer = λ x y. u x y b.version (g.newer r q); gone = d }

          by_committer : (o : Option ℕ) → committer e.entry.act e.entry.reply e.entry.session ≡ o →
              IsGrown b (row_at (committed start (entries h)) k) (was_deleted k (entries h)) → G
          by_committer None q g =
              let r : row_at (committed start (entries (e ∷ h))) k ≡ row_at (committed start (entries h)) k = rw q refl in
              record { newer = λ x y. g.newer x (sym r ∙ y); gone = λ y. deleted (g.gone (sym r ∙ y)) }
          by_committer (Some s) q g = by_step s (step_of s h e l w q) g

  -- versions do not fall
  pub growing : (h : Noded) → AreNodesLegal script (Some start) places h → was_reused k (entries h) ≡ false → IsGrowing (λ m b. WasRow start k m b h)
  growing [] l w m n b d p q o = subst (λ z. is_below z.version b.version ≡ false) (some_same (sym p.1 ∙ q.1)) (irreflexive b.version)
  growing (e ∷ h) l w m n b d p (inl q) o = (grown m b (e ∷ h) l w p).newer d q.1
  growing (e ∷ h) l w m n b d (inr p) (inr q) o = growing h l.0 (once h e l w).1 m n b d p q o
  growing (e ∷ h) l w m n b d (inl p) (inr q) o =
      let a : n ≤ commit_count k h = was_le start k n d h q in
      let c : changes_key k h e ≡ false = count_same (changes_key k h e) (commit_count k h) m p.0 (omega arith) in
      let f : m ≡ commit_count k h = p.0 ∙ rw c (omega arith) in
      let g : n ≡ commit_count k h = omega arith in
      let x : row_at (committed start (entries h)) k ≡ Some d = was_at start k d h h (tail_refl h) (subst (λ z. WasRow start k z d h) g q) in
      let y : row_at (committed start (entries h)) k ≡ Some b = sym (row_rests start k h e c) ∙ p.1 in
      subst (λ z. is_below z.version b.version ≡ false) (some_same (sym y ∙ x)) (irreflexive b.version)
