-- The item of a key of a read-only region is the row that the start tables or a committed insert gave to it.
use Rattle.std.specs.Prelude.{IsSomeAnd}
use Rattle.std.specs.List.{IsAmong}
use Rattle.std.proofs.Common.{◌≡◌, ℕ, suc, ◌+◌, ◌<◌, ◌⊎◌, arith, length, inl, inr, true, false, List, [], ◌∷◌, ◌++◌, Some, None, Option, refl, ap, sym, ◌∙◌}
use Rattle.std.proofs.lemmas.Bool.{true≢false}
use Rattle.hib_journal.specs.Types.{Key, Row, Change, Strategy, Script, Act}
use Rattle.hib_base.specs.Keys.{same_key}
use Rattle.hib_base.specs.Tables.{Tables, row_at, key_of, row_left, last_on, after_changes}
use Rattle.hib_journal.specs.Sessions.{Journal, is_by, own, changes, changes_in, changes_after, committed, committer}
use Rattle.hib_journal.specs.Next.{strategy}
use Rattle.hib_journal.specs.Legal.{IsLegal}
use Rattle.hib_law.specs.Prefixes.{AtEachPrefix}
use Rattle.hib_law.specs.Rows.{WasCommitted}
use Rattle.hib_law.specs.Items.{WasGiven, IsItemGiven}
use Rattle.hib_base.proofs.Tables.{Tested, tested, same_key_eq, left_by, row_at_changes}
use Rattle.hib_law.proofs.ReadOnlyRules.{AllowedOnly, allowed_only}
use Rattle.hib_law.proofs.Stored.{is_item_old}
use Rattle.hib_law.proofs.Basics.{none_some, some_same}

-- no change in a list updates k

abbrev IsNoUpdate : Key → Change → Type 0
IsNoUpdate k (Change.Update j v r) = same_key j k ≡ false
IsNoUpdate k _ = Unit {0}

abbrev AreNoUpdates : Key → List Change → Type 0
AreNoUpdates k [] = Unit {0}
AreNoUpdates k (c ∷ cs) = IsNoUpdate k c × AreNoUpdates k cs

none_append : (k : Key) (cs : List Change) (c : Change) → AreNoUpdates k cs → IsNoUpdate k c → AreNoUpdates k (cs ++ c ∷ [])
none_append k [] c a b = (b, tt)
none_append k (d ∷ cs) c a b = (a.0, none_append k cs c a.1 b)

-- a value is the first of a list, or among the others
among_here : (c : Change) (cs : List Change) (d : Change) → c ≡ d → IsAmong (c ∷ cs) d
among_here c cs d e = (0, (omega arith, sym e))

among_later : (c : Change) (cs : List Change) (d : Change) → IsAmong cs d → IsAmong (c ∷ cs) d
among_later c cs d a = (suc a.0, (omega (arith, a.1.0), a.1.1))

-- then the row that its last change left was inserted
last_inserts : (k : Key) (cs : List Change) (z : Change) (r : Row) → AreNoUpdates k cs → last_on k cs ≡ Some z → row_left z ≡ Some r → IsAmong cs (Change.Insert k r)
last_inserts k [] z r a e f = none_some e
last_inserts k (c ∷ cs) z r a e f = by_last (last_on k cs) refl (λ p. last_inserts k cs z r a.1 p f) (tested (same_key (key_of c) k))
  where
    here : (c : Change) → IsNoUpdate k c → same_key (key_of c) k ≡ true → row_left c ≡ Some r → c ≡ Change.Insert k r
    here (Change.Insert j x) n s p = ap (λ y. Change.Insert y x) (same_key_eq j k s) ∙ ap (λ y. Change.Insert k y) (some_same p)
    here (Change.Update j v x) n s p = absurd (true≢false (sym s ∙ n))
    here (Change.Delete j v) n s p = none_some p

    by_last : (o : Option Change) → last_on k cs ≡ o → (last_on k cs ≡ Some z → IsAmong cs (Change.Insert k r)) → Tested (same_key (key_of c) k) → IsAmong (c ∷ cs) (Change.Insert k r)
    by_last (Some d) p i t = let g : Some d ≡ Some z = rw p at e in among_later c cs (Change.Insert k r) (i (p ∙ g))
    by_last None p i (inl s) =
        let g : Some c ≡ Some z = rw (p, s) at e in
        among_here c cs (Change.Insert k r) (here c a.0 s (ap row_left (some_same g) ∙ f))
    by_last None p i (inr s) = let g : ◌≡◌ {A = Option Change} None (Some z) = rw (p, s) at e in none_some g

module _ (script : Script) (start : Tables) (k : Key) (only : strategy script k.entity ≡ Strategy.ReadOnly) where
  no_updates : (s : ℕ) (h : Journal) → IsLegal script (Some start) h → AreNoUpdates k (changes s h)
  no_updates s [] l = tt
  no_updates s (e ∷ h) l = by_session (tested (is_by s e)) (no_updates s h l.0)
    where
      by_act : (a : Act) → AllowedOnly k (own s h) a → AreNoUpdates k (changes s h) → AreNoUpdates k (changes_after a (changes_in (own s h)))
      by_act Act.Begin w a = tt
      by_act (Act.Write (Change.Insert j r)) w a = none_append k (changes s h) (Change.Insert j r) a tt
      by_act (Act.Write (Change.Update j v r)) w a = none_append k (changes s h) (Change.Update j v r) a w
      by_act (Act.Write (Change.Delete j v)) w a = none_append k (changes s h) (Change.Delete j v) a tt
      by_act _ w a = a

      by_session : Tested (is_by s e) → AreNoUpdates k (changes s h) → AreNoUpdates k (changes s (e ∷ h))
      by_session (inl p) a = rw p (by_act e.act (allowed_only k script start s only h e l.0 l.1 p) a)
      by_session (inr p) a = rw p a

  -- each committed row was given
  committed_given : (r : Row) (h : Journal) → IsLegal script (Some start) h → row_at (committed start h) k ≡ Some r → WasGiven start k r h
  committed_given r [] l e = e
  committed_given r (e ∷ h) l p = by_committer (committer e.act e.reply e.session) refl (committed_given r h l.0)
    where
      by_last : (s : ℕ) (o : Option Change) → last_on k (changes s h) ≡ o → left_by o (row_at (committed start h) k) ≡ Some r →
          (row_at (committed start h) k ≡ Some r → WasGiven start k r h) → IsSomeAnd (Some s) (λ x. IsAmong (changes x h) (Change.Insert k r)) ⊎ WasGiven start k r h
      by_last s None q f i = inr (i f)
      by_last s (Some z) q f i = inl (last_inserts k (changes s h) z r (no_updates s h l.0) q f)

      by_committer : (o : Option ℕ) → committer e.act e.reply e.session ≡ o → (row_at (committed start h) k ≡ Some r → WasGiven start k r h) → WasGiven start k r (e ∷ h)
      by_committer None q i = let g : row_at (committed start h) k ≡ Some r = rw q at p in inr (i g)
      by_committer (Some s) q i =
          let g : row_at (after_changes (changes s h) (committed start h)) k ≡ Some r = rw q at p in
          let f : left_by (last_on k (changes s h)) (row_at (committed start h) k) ≡ Some r = sym (row_at_changes (changes s h) (committed start h) k) ∙ g in
          rw q (by_last s (last_on k (changes s h)) refl f i)

  was_given : (r : Row) (h : Journal) → IsLegal script (Some start) h → WasCommitted start k r h → WasGiven start k r h
  was_given r [] l e = e
  was_given r (e ∷ h) l (inl p) = committed_given r (e ∷ h) l p
  was_given r (e ∷ h) l (inr p) = inr (was_given r h l.0 p.1)

  pub items_given : (h : Journal) → IsLegal script (Some start) h → AtEachPrefix (IsItemGiven start k) h
  items_given [] l = λ r t e. was_given r [] l ((is_item_old script start k [] l).item r t e)
  items_given (e ∷ h) l = ((λ r t p. was_given r (e ∷ h) l ((is_item_old script start k (e ∷ h) l).item r t p)), items_given h l.0)
