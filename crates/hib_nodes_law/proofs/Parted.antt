-- Of a legal journal of two nodes each entry comes in its turn, and the list of each part and that of each session is legal by itself.
use Rattle.std.specs.Prelude.{unwrap_or}
use Rattle.std.proofs.Common.{◌≡◌, ℕ, ◌+◌, ◌≤◌, inl, inr, Bool, true, false, cond, ◌==◌, [], ◌∷◌, length, Some, None, Option, refl, ap, sym, ◌∙◌, subst, arith}
use Rattle.std.proofs.lemmas.Bool.{eqb-true}
use Rattle.hib_base.specs.Tables.{Tables}
use Rattle.hib_journal.specs.Types.{Script, Part, Entry}
use Rattle.hib_journal.specs.Sessions.{Journal, own, is_by, last_tick, same_part}
use Rattle.hib_journal.specs.Legal.{reply_of, part_of}
use Rattle.hib_journal.specs.Lists.{of_part, IsStoreReply}
use Rattle.hib_base.proofs.Tables.{Tested, tested}
use Rattle.hib_journal.proofs.Sessions.{is_some_session}
use Rattle.hib_law.proofs.Basics.{none_some}
use Rattle.hib_split_law.specs.Apart.{is_of_session, IsPartStep, IsPartLegal, IsOwnStep, IsOwnLegal}
use Rattle.hib_split_law.proofs.Apart.{same_is}
use Rattle.hib_split_law.proofs.Local.{Fits}
use Rattle.hib_split_law.proofs.Replies.{reply_in, mine_in}
use Rattle.hib_nodes_law.specs.Types.{NodeEntry, Noded, Nodings}
use Rattle.hib_nodes_law.specs.Nodes.{entries, of_node}
use Rattle.hib_nodes_law.specs.Legal.{node_of, second_half, due_of, is_of_node, seen_at, IsNodeStep, AreNodesLegal}
use Rattle.hib_nodes_law.specs.Apart.{IsTurn, IsInTurn, AreInTurn, AreNodesApart}
use Rattle.hib_nodes_law.proofs.Rules.{Doer, doer, at_home, next_of, own_at, last_le}
use Rattle.hib_nodes_law.proofs.Apart.{seen_quiet, quiet_all, quiet_at, fit_all, fit_at, fits_in}
use Rattle.hib_nodes_law.proofs.Told.{node_in, whole_in}

-- the last tick of a part's list, and of a session's

last_part : (q : Part) (g : Journal) → last_tick (λ _. true) (of_part q g) ≡ last_tick (λ d. same_part q d.part) g
last_part q [] = refl
last_part q (e ∷ g) = by_test (tested (same_part q e.part)) (last_part q g)
  where
    by_test : Tested (same_part q e.part) → last_tick (λ _. true) (of_part q g) ≡ last_tick (λ d. same_part q d.part) g →
        last_tick (λ _. true) (of_part q (e ∷ g)) ≡ last_tick (λ d. same_part q d.part) (e ∷ g)
    by_test (inl t) i = rw t refl
    by_test (inr t) i = rw t i

last_own : (s : ℕ) (g : Journal) → last_tick (λ _. true) (own s g) ≡ last_tick (λ d. is_by s d) g
last_own s [] = refl
last_own s (e ∷ g) = by_test (tested (is_by s e)) (last_own s g)
  where
    by_test : Tested (is_by s e) → last_tick (λ _. true) (own s g) ≡ last_tick (λ d. is_by s d) g →
        last_tick (λ _. true) (own s (e ∷ g)) ≡ last_tick (λ d. is_by s d) (e ∷ g)
    by_test (inl t) i = rw t refl
    by_test (inr t) i = rw t i

module _ (script : Script) (told : Option Tables) (places : Nodings) where
  last_all : (p : Entry → Bool) (h : Noded) → AreNodesLegal script told places h → last_tick p (entries h) ≤ length h
  last_all p [] l = omega arith
  last_all p (e ∷ h) l = by_test (tested (p e.entry)) (last_all p h l.0) l.1.tick
    where
      by_test : Tested (p e.entry) → last_tick p (entries h) ≤ length h → e.entry.tick ≡ length h + 1 → last_tick p (entries (e ∷ h)) ≤ length (e ∷ h)
      by_test (inl t) i w = rw t (omega arith)
      by_test (inr t) i w = rw t (omega arith)

  last_seen : (p : Entry → Bool) (q : Part) (n : ℕ) (h : Noded) → AreNodesLegal script told places h → last_tick p (seen_at q n h) ≤ length h
  last_seen p q n h l = by_part (tested (is_of_node q))
    where
      by_part : Tested (is_of_node q) → last_tick p (seen_at q n h) ≤ length h
      by_part (inl x) = rw x (last_le script told places n p h l)
      by_part (inr x) = rw x (last_all p h l)

  -- each entry comes in its turn

  turn_of : (h : Noded) (e : NodeEntry) → IsNodeStep script told places h e → IsInTurn script places h e
  turn_of h e t = record { tick = t.tick; bounded = t.bounded; turn = by_session e.entry.session refl (doer script told places h e t) }
    where
      by_session : (o : Option ℕ) → e.entry.session ≡ o → Doer script places h e → IsTurn script places h e o
      by_session None p d = (
        subst (λ o. due_of script places h e.node e.entry.tick o (second_half h) ≡ Some e.entry.act) p t.act,
        subst (λ o. part_of e.entry.act (unwrap_or o 0) ≡ e.entry.part) p t.part,
      )
      by_session (Some s) p (Doer.Session u q b m z a) = (subst (λ x. node_of places x ≡ e.node) (same q) m, z)
        where
          same : e.entry.session ≡ Some u → u ≡ s
          same q = let g : Some u ≡ Some s = sym q ∙ p in cc
      by_session (Some s) p (Doer.First k q z a b) = none_some (sym q ∙ p)
      by_session (Some s) p (Doer.Second k i q z a) = none_some (sym q ∙ p)

  turns : (h : Noded) → AreNodesLegal script told places h → AreInTurn script places h
  turns [] l = tt
  turns (e ∷ h) l = (turns h l.0, turn_of h e l.1)

  -- each part answers by its own list

  part_step : (h : Noded) (e : NodeEntry) → AreNodesLegal script told places (e ∷ h) → IsPartStep script told (of_part e.entry.part (seen_at e.entry.part e.node h)) e.entry
  part_step h e l = record {
    tick = rw (last_part e.entry.part (seen_at e.entry.part e.node h))
        (omega (arith, l.1.tick, last_seen (λ d. same_part e.entry.part d.part) e.entry.part e.node h l.0));
    reply = λ o. by_part o (tested (is_of_node e.entry.part));
  }
    where
      by_part : is_of_session e.entry.act ≡ false → Tested (is_of_node e.entry.part) → IsStoreReply script told (of_part e.entry.part (seen_at e.entry.part e.node h)) e.entry
      by_part o (inl q) =
          let f : Fits e.entry (of_node e.node h) = fits_in script told places h e (of_node e.node h) l (quiet_at script told places e.node h l.0) (λ s p. own_at script told places s e.node h l.0 p) in
          rw q (subst (λ j. IsStoreReply script told j e.entry) (seen_quiet e.entry.part (of_node e.node h) (quiet_at script told places e.node h l.0))
          (reply_in script e.entry (of_node e.node h) (fit_at script told places e.node h l.0) f o told (node_in script h e l.1.part q told l.1.reply)))
      by_part o (inr q) =
          let f : Fits e.entry (entries h) = fits_in script told places h e (entries h) l (quiet_all script told places h l.0) (λ s p. refl) in
          rw q (subst (λ j. IsStoreReply script told j e.entry) (seen_quiet e.entry.part (entries h) (quiet_all script told places h l.0))
          (reply_in script e.entry (entries h) (fit_all script told places h l.0) f o told (whole_in script h e l.1.part q told l.1.reply)))

  parts : (p : Part) (n : ℕ) (h : Noded) → AreNodesLegal script told places h → IsPartLegal script told (of_part p (seen_at p n h))
  parts p n [] l = by_part (is_of_node p)
    where
      by_part : (b : Bool) → IsPartLegal script told (of_part p (cond b [] []))
      by_part true = tt
      by_part false = tt
  parts p n (e ∷ h) l = by_part (tested (is_of_node p)) (tested (e.node == n)) (tested (same_part p e.entry.part)) (parts p n h l.0)
    where
      step : (g : Journal) → same_part p e.entry.part ≡ true → e.node ≡ n → seen_at p n h ≡ g → IsPartStep script told (of_part p g) e.entry
      step g s m q =
          let a : p ≡ e.entry.part = same_is p e.entry.part s in
          subst (λ j. IsPartStep script told (of_part p j) e.entry) (subst (λ x. seen_at p x h ≡ g) (sym m) q)
          (subst (λ x. IsPartStep script told (of_part x (seen_at x e.node h)) e.entry) (sym a) (part_step h e l))

      step_all : same_part p e.entry.part ≡ true → is_of_node p ≡ false → IsPartStep script told (of_part p (entries h)) e.entry
      step_all s q =
          let a : p ≡ e.entry.part = same_is p e.entry.part s in
          let g : seen_at p e.node h ≡ entries h = rw q refl in
          subst (λ j. IsPartStep script told (of_part p j) e.entry) g
          (subst (λ x. IsPartStep script told (of_part x (seen_at x e.node h)) e.entry) (sym a) (part_step h e l))

      by_part : Tested (is_of_node p) → Tested (e.node == n) → Tested (same_part p e.entry.part) → IsPartLegal script told (of_part p (seen_at p n h)) →
          IsPartLegal script told (of_part p (seen_at p n (e ∷ h)))
      by_part (inl q) (inl x) (inl s) i =
          let j : IsPartLegal script told (of_part p (of_node n h)) = rw q at i in
          let g : seen_at p n h ≡ of_node n h = rw q refl in
          rw (q, x, s) (j, step (of_node n h) s (eqb-true e.node n x) g)
      by_part (inl q) (inl x) (inr s) i = let j : IsPartLegal script told (of_part p (of_node n h)) = rw q at i in rw (q, x, s) j
      by_part (inl q) (inr x) s i = let j : IsPartLegal script told (of_part p (of_node n h)) = rw q at i in rw (q, x) j
      by_part (inr q) x (inl s) i = let j : IsPartLegal script told (of_part p (entries h)) = rw q at i in rw (q, s) (j, step_all s q)
      by_part (inr q) x (inr s) i = let j : IsPartLegal script told (of_part p (entries h)) = rw q at i in rw (q, s) j

  -- and each session by its own entries

  own_step : (s : ℕ) (h : Noded) (e : NodeEntry) → AreNodesLegal script told places (e ∷ h) → is_by s e.entry ≡ true → IsOwnStep script s (own s (entries h)) e.entry
  own_step s h e l b = record {
    tick = rw (last_own s (entries h)) (omega (arith, l.1.tick, last_all (λ d. is_by s d) h l.0));
    act = next_of script told places h e l.1 s b;
    part = subst (λ o. part_of e.entry.act (unwrap_or o 0) ≡ e.entry.part) q l.1.part;
    reply = λ o. by_part o (tested (is_of_node e.entry.part));
  }
    where
      q : e.entry.session ≡ Some s
      q = is_some_session s e.entry.session b

      is_s : unwrap_or e.entry.session 0 ≡ s
      is_s = ap (λ y. unwrap_or y 0) q

      by_part : is_of_session e.entry.act ≡ true → Tested (is_of_node e.entry.part) → e.entry.reply ≡ reply_of script [] (own s (entries h)) s e.entry.tick e.entry.act
      by_part o (inl x) =
          subst (λ j. e.entry.reply ≡ reply_of script [] j s e.entry.tick e.entry.act) (own_at script told places s e.node h l.0 (at_home script told places h e l.1 s b))
          (subst (λ u. e.entry.reply ≡ reply_of script [] (own u (of_node e.node h)) u e.entry.tick e.entry.act) is_s
          (mine_in script e.entry (of_node e.node h) o told (node_in script h e l.1.part x told l.1.reply)))
      by_part o (inr x) =
          subst (λ u. e.entry.reply ≡ reply_of script [] (own u (entries h)) u e.entry.tick e.entry.act) is_s
          (mine_in script e.entry (entries h) o told (whole_in script h e l.1.part x told l.1.reply))

  sessions : (s : ℕ) (h : Noded) → AreNodesLegal script told places h → IsOwnLegal script s (own s (entries h))
  sessions s [] l = tt
  sessions s (e ∷ h) l = by_session (tested (is_by s e.entry)) (sessions s h l.0)
    where
      by_session : Tested (is_by s e.entry) → IsOwnLegal script s (own s (entries h)) → IsOwnLegal script s (own s (entries (e ∷ h)))
      by_session (inl b) i = rw b (i, own_step s h e l b)
      by_session (inr b) i = rw b i

  pub apart : (h : Noded) → AreNodesLegal script told places h → AreNodesApart script told h
  apart h l = record { parts = λ p n o. parts p n h l; sessions = λ s. sessions s h l }

  pub in_turn : (h : Noded) → AreNodesLegal script told places h → AreInTurn script places h
  in_turn h l = turns h l
