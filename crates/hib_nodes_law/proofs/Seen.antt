-- What the sessions of a node have seen of one key, by the number of commits on it.
use Rattle.std.specs.Prelude.{option_and_then, is_some}
use Rattle.std.proofs.Common.{◌≡◌, ℕ, ◌≤◌, ◌<◌, ◌⊎◌, inl, inr, Bool, true, false, ◌&&◌, ◌==◌, [], ◌∷◌, length, Some, None, Option, refl, ap, sym, ◌∙◌, subst, arith, eq-eqb}
use Rattle.std.proofs.lemmas.Bool.{true≢false, false≢true, cases_eq}
use Rattle.hib_journal.specs.Types.{Key, Row, Change, Strategy, Script, Act, Reply}
use Rattle.hib_base.specs.Tables.{Tables, row_at, last_on, row_left}
use Rattle.hib_journal.specs.Sessions.{is_by, own, changes, changes_in, changes_after, is_open, is_begun, was_killed, time, committed, committer, last_tick, view}
use Rattle.hib_journal.specs.Held.{is_begin}
use Rattle.hib_journal.specs.Next.{strategy, is_in}
use Rattle.hib_journal.specs.Coherence.{Unless, holders, is_done, done_in, done_after, last_row}
use Rattle.hib_base.proofs.Tables.{Tested, tested, left_by, row_at_changes, same_key_refl}
use Rattle.hib_journal.proofs.Sessions.{is_some_session, time_le_tick, by}
use Rattle.hib_journal.proofs.Open.{begun_open, killed_same}
use Rattle.hib_law.proofs.Basics.{none_some}
use Rattle.hib_law.proofs.Guarded.{In}
use Rattle.hib_law.proofs.Holders.{holder_holds_by}
use Rattle.hib_law.proofs.Orderly.{Kind, kind}
use Rattle.hib_law.proofs.Working.{Allowed, holds}
use Rattle.hib_law.proofs.StoreRules.{AllowedStore, MayPut, allowed_store_by}
use Rattle.hib_law.proofs.Whole.{loaded_by, view_unchanged}
use Rattle.hib_nodes_law.specs.Types.{NodeEntry, Noded, Nodings}
use Rattle.hib_nodes_law.specs.Nodes.{entries, of_node, commit_count, up_to, loads}
use Rattle.hib_nodes_law.specs.Legal.{node_of, AreNodesLegal}
use Rattle.hib_nodes_law.proofs.Rules.{whole_reply, at_home, next_of, in_order, own_at, own_away, not_restart, last_le, ordered_at, allowed_act, allowed_at}
use Rattle.hib_nodes_law.proofs.Rows.{WasRow, was_now}
use Rattle.hib_nodes_law.proofs.Queues.{known, known_le}

-- an entry of session s at node n
abbrev pub is_mine : ℕ → ℕ → NodeEntry → Bool
is_mine n s e = (e.node == n) && is_by s e.entry

-- at some entry of s since its last Begin, b was the committed row after m commits, and the node knew no more commits then
abbrev pub SeenAt : Tables → ℕ → Key → ℕ → Row → ℕ → Noded → Type 0
SeenAt start n k s b m [] = ⊥
SeenAt start n k s b m (e ∷ h) =
    Unless (is_mine n s e && is_begin e.entry.act)
    (((is_mine n s e ≡ true) × WasRow start k m b (e ∷ h) × (known n k (e ∷ h) ≤ m)) ⊎ SeenAt start n k s b m h)

pub seen_on : (start : Tables) (n : ℕ) (k : Key) (s : ℕ) (b : Row) (m : ℕ) (e : NodeEntry) (h : Noded) → (is_mine n s e && is_begin e.entry.act) ≡ false →
    SeenAt start n k s b m h → SeenAt start n k s b m (e ∷ h)
seen_on start n k s b m e h p z = rw p (inr z)

pub seen_now : (start : Tables) (n : ℕ) (k : Key) (s : ℕ) (b : Row) (m : ℕ) (e : NodeEntry) (h : Noded) → is_mine n s e ≡ true → is_begin e.entry.act ≡ false →
    WasRow start k m b (e ∷ h) → known n k (e ∷ h) ≤ m → SeenAt start n k s b m (e ∷ h)
seen_now start n k s b m e h p q w l = rw (p, q) (inl (refl, w, l))

-- a session's Load of k, and its Committed entries
abbrev pub loads_by : ℕ → Key → NodeEntry → Bool
loads_by s k d = is_by s d.entry && loads k d.entry.act

abbrev pub commits_by : ℕ → NodeEntry → Bool
commits_by s d = is_by s d.entry && is_some (committer d.entry.act d.entry.reply d.entry.session)

module _ (script : Script) (start : Tables) (places : Nodings) (n : ℕ) (k : Key) (rw_k : strategy script k.entity ≡ Strategy.ReadWrite) where
  pub mine_is : (s : ℕ) (h : Noded) (e : NodeEntry) → AreNodesLegal script (Some start) places (e ∷ h) → node_of places s ≡ n → is_by s e.entry ≡ true →
      is_mine n s e ≡ true
  mine_is s h e l p b = rw (eq-eqb e.node n (sym (at_home script (Some start) places h e l.1 s b) ∙ p), b) refl

  pub not_mine : (s : ℕ) (e : NodeEntry) → is_by s e.entry ≡ false → is_mine n s e ≡ false
  not_mine s e b = by_test (e.node == n)
    where
      by_test : (x : Bool) → (x && is_by s e.entry) ≡ false
      by_test true = b
      by_test false = refl

  pub unbegun : (s : ℕ) (e : NodeEntry) → is_mine n s e ≡ false → (is_mine n s e && is_begin e.entry.act) ≡ false
  unbegun s e p = rw p refl

  pub never_killed : (s : ℕ) (h : Noded) → AreNodesLegal script (Some start) places h → was_killed s (of_node n h) ≡ false
  never_killed s [] l = refl
  never_killed s (e ∷ h) l = by_node (tested (e.node == n)) (never_killed s h l.0)
    where
      by_node : Tested (e.node == n) → was_killed s (of_node n h) ≡ false → was_killed s (of_node n (e ∷ h)) ≡ false
      by_node (inl q) i = rw q (killed_same s e.entry (of_node n h) (not_restart script (Some start) places h e l) ∙ i)
      by_node (inr q) i = rw q i

  -- a session that is in a transaction is open
  pub open_now : (s : ℕ) (h : Noded) → AreNodesLegal script (Some start) places h → node_of places s ≡ n → is_begun (own s (entries h)) ≡ true →
      is_open s (of_node n h) ≡ true
  open_now s h l p b =
      begun_open s (of_node n h) (never_killed s h l) ∙ (ap is_begun (own_at script (Some start) places s n h l p) ∙ b)

  -- an open session and a holder are at the node
  pub has_own : (s : ℕ) (h : Noded) → AreNodesLegal script (Some start) places h → (own s (of_node n h) ≡ [] → ⊥) → node_of places s ≡ n
  has_own s h l f = elim (cases_eq (node_of places s) n) [
    | inl p ↦ p
    | inr p ↦ absurd (f (own_away script (Some start) places s n h l p))
  ]

  pub open_home : (s : ℕ) (h : Noded) → AreNodesLegal script (Some start) places h → is_open s (of_node n h) ≡ true → node_of places s ≡ n
  open_home s h l o =
      let b : is_begun (own s (of_node n h)) ≡ true = sym (begun_open s (of_node n h) (never_killed s h l)) ∙ o in
      has_own s h l (λ e. false≢true (ap is_begun (sym e) ∙ b))

  pub holder_holds : (s : ℕ) (h : Noded) → AreNodesLegal script (Some start) places h → In s (holders k (of_node n h)) → holds k (own s (of_node n h)) ≡ true
  holder_holds s h l i = holder_holds_by script k s (of_node n h) (allowed_at script start places k rw_k n h l) i

  pub holder_home : (s : ℕ) (h : Noded) → AreNodesLegal script (Some start) places h → In s (holders k (of_node n h)) → node_of places s ≡ n
  holder_home s h l i = has_own s h l (λ e. false≢true (ap (holds k) (sym e) ∙ holder_holds s h l i))

  -- every tick of a session is before the next
  pub time_before : (s : ℕ) (h : Noded) (e : NodeEntry) → AreNodesLegal script (Some start) places (e ∷ h) → time s (of_node n h) < e.entry.tick
  time_before s h e l =
      let a : time s (of_node n h) ≤ last_tick (by s) (of_node n h) = time_le_tick s (of_node n h) (ordered_at script (Some start) places n h l.0) in
      let b : last_tick (by s) (of_node n h) ≤ length h = last_le script (Some start) places n (by s) h l.0 in
      omega (arith, l.1.tick)

  -- what a session may store

  pub may_store : (s : ℕ) (h : Noded) (e : NodeEntry) → AreNodesLegal script (Some start) places (e ∷ h) → is_by s e.entry ≡ true →
      AllowedStore (own s (entries h)) e.entry.act
  may_store s h e l b = allowed_store_by script s (own s (entries h)) e.entry.act (in_order script (Some start) places s h l.0) (next_of script (Some start) places h e l.1 s b)

  committed_same : (h : Noded) (e : NodeEntry) → committer e.entry.act e.entry.reply e.entry.session ≡ None →
      row_at (committed start (entries (e ∷ h))) k ≡ row_at (committed start (entries h)) k
  committed_same h e c = rw c refl

  -- the row of a Load that its session has just had
  pub seen_load : (s : ℕ) (r : Row) (h : Noded) → AreNodesLegal script (Some start) places h → node_of places s ≡ n → MayPut (own s (entries h)) k r →
      SeenAt start n k s r (commit_count k (up_to (loads_by s k) h)) h
  seen_load s r [] l p m = absurd m
  seen_load s r (e ∷ h) l p m = by_session (tested (is_by s e.entry)) (seen_load s r h l.0 p)
    where
      by_session : Tested (is_by s e.entry) → (MayPut (own s (entries h)) k r → SeenAt start n k s r (commit_count k (up_to (loads_by s k) h)) h) →
          SeenAt start n k s r (commit_count k (up_to (loads_by s k) (e ∷ h))) (e ∷ h)
      by_session (inr b) i =
          let m2 : MayPut (own s (entries h)) k r = rw b at m in
          let u : up_to (loads_by s k) (e ∷ h) ≡ up_to (loads_by s k) h = rw b refl in
          subst (λ g. SeenAt start n k s r (commit_count k g) (e ∷ h)) (sym u)
          (seen_on start n k s r (commit_count k (up_to (loads_by s k) h)) e h (unbegun s e (not_mine s e b)) (i m2))
      by_session (inl b) i =
          let m2 : (e.entry.act ≡ Act.Load k) × (e.entry.reply ≡ Reply.Row (Some r)) × (is_in k (changes s (entries h)) ≡ false) × (is_begun (own s (entries h)) ≡ true) = rw b at m in
          let v : Some r ≡ view start (entries h) s k =
          loaded_by script start k (entries h) e.entry s (Some r) (whole_reply script start places h e l.1 (rw m2.0 refl)) (is_some_session s e.entry.session b) m2.0 m2.1 in
          let w : row_at (committed start (entries h)) k ≡ Some r = sym (view_unchanged start (entries h) s k m2.2) ∙ sym v in
          let u : up_to (loads_by s k) (e ∷ h) ≡ e ∷ h = rw (b, m2.0, same_key_refl k) refl in
          subst (λ g. SeenAt start n k s r (commit_count k g) (e ∷ h)) (sym u)
          (seen_now start n k s r (commit_count k (e ∷ h)) e h (mine_is s h e l p b) (rw m2.0 refl)
          (was_now start k r (e ∷ h) (committed_same h e (rw m2.0 refl) ∙ w)) (known_le script start places n k rw_k (e ∷ h) l))

  -- a session that has committed has seen what its last change left
  pub seen_done : (s : ℕ) (r : Row) (h : Noded) → AreNodesLegal script (Some start) places h → node_of places s ≡ n → is_done s (entries h) ≡ true →
      last_row k s (entries h) ≡ Some r → SeenAt start n k s r (commit_count k (up_to (commits_by s) h)) h
  seen_done s r [] l p d q = absurd (false≢true d)
  seen_done s r (e ∷ h) l p d q = by_session (tested (is_by s e.entry)) (seen_done s r h l.0 p)
    where
      IH : Type 0
      IH = is_done s (entries h) ≡ true → last_row k s (entries h) ≡ Some r → SeenAt start n k s r (commit_count k (up_to (commits_by s) h)) h

      T : Type 0
      T = SeenAt start n k s r (commit_count k (up_to (commits_by s) (e ∷ h))) (e ∷ h)

      left_some : (o : Option Change) (x : Option Row) → option_and_then row_left o ≡ Some r → left_by o x ≡ Some r
      left_some None x p = none_some p
      left_some (Some c) x p = p

      begin_not : (a : Act) (r : Reply) (d : Bool) → is_begin a ≡ true → done_after a r d ≡ false
      begin_not Act.Begin r d p = refl
      begin_not _ r d p = absurd (false≢true p)

      mine : is_by s e.entry ≡ true → e.entry.session ≡ Some s → Allowed script k (own s (entries h)) e.entry.act → Kind e.entry.act e.entry.reply → IH → T
      mine b w a (Kind.Begins x) i = let g : false ≡ true = rw (b, x) at d in absurd (false≢true g)
      mine b w a (Kind.Writes c x) i =
          let g : is_done s (entries h) ≡ true = rw (b, x) at d in
          let f : Allowed script k (own s (entries h)) (Act.Write c) = subst (λ y. Allowed script k (own s (entries h)) y) x a in
          absurd (true≢false (sym g ∙ f.0))
      mine b w a (Kind.Commits x y) i =
          let g : option_and_then row_left (last_on k (changes s (entries h))) ≡ Some r = rw (b, x) at q in
          let c : row_at (committed start (entries (e ∷ h))) k ≡ left_by (last_on k (changes s (entries h))) (row_at (committed start (entries h)) k) =
          rw (x, y, w) (row_at_changes (changes s (entries h)) (committed start (entries h)) k) in
          let u : up_to (commits_by s) (e ∷ h) ≡ e ∷ h = rw (b, x, y, w) refl in
          subst (λ g. SeenAt start n k s r (commit_count k g) (e ∷ h)) (sym u)
          (seen_now start n k s r (commit_count k (e ∷ h)) e h (mine_is s h e l p b) (rw x refl)
          (was_now start k r (e ∷ h) (c ∙ left_some (last_on k (changes s (entries h))) (row_at (committed start (entries h)) k) g))
          (known_le script start places n k rw_k (e ∷ h) l))
      mine b w a (Kind.Other x y z) i = by_begin (tested (is_begin e.entry.act))
        where
          by_begin : Tested (is_begin e.entry.act) → T
          by_begin (inl v) =
              let g : done_after e.entry.act e.entry.reply (done_in (own s (entries h))) ≡ true = rw b at d in
              absurd (false≢true (sym (begin_not e.entry.act e.entry.reply (done_in (own s (entries h))) v) ∙ g))
          by_begin (inr v) =
              let g : done_after e.entry.act e.entry.reply (done_in (own s (entries h))) ≡ true = rw b at d in
              let f : option_and_then row_left (last_on k (changes_after e.entry.act (changes_in (own s (entries h))))) ≡ Some r = rw b at q in
              let g2 : is_done s (entries h) ≡ true = sym (x (done_in (own s (entries h)))) ∙ g in
              let f2 : last_row k s (entries h) ≡ Some r = sym (ap (λ cs. option_and_then row_left (last_on k cs)) (y (changes_in (own s (entries h))))) ∙ f in
              let u : up_to (commits_by s) (e ∷ h) ≡ up_to (commits_by s) h = rw (b, z e.entry.session) refl in
              subst (λ g. SeenAt start n k s r (commit_count k g) (e ∷ h)) (sym u)
              (seen_on start n k s r (commit_count k (up_to (commits_by s) h)) e h (rw (mine_is s h e l p b, v) refl) (i g2 f2))

      by_session : Tested (is_by s e.entry) → IH → T
      by_session (inr b) i =
          let g : is_done s (entries h) ≡ true = rw b at d in
          let f : last_row k s (entries h) ≡ Some r = rw b at q in
          let u : up_to (commits_by s) (e ∷ h) ≡ up_to (commits_by s) h = rw b refl in
          subst (λ g. SeenAt start n k s r (commit_count k g) (e ∷ h)) (sym u)
          (seen_on start n k s r (commit_count k (up_to (commits_by s) h)) e h (unbegun s e (not_mine s e b)) (i g f))
      by_session (inl b) i =
          mine b (is_some_session s e.entry.session b) (allowed_act script start places k rw_k s h e l b) (kind e.entry.act e.entry.reply) i
