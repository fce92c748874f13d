-- A session that has written a change of a row, and not given the lock of its key back, holds that lock.
use Rattle.std.proofs.Common.{◌≡◌, ℕ, inl, inr, Bool, true, false, cond, ◌||◌, List, [], ◌∷◌, ◌++◌, Some, None, Option, refl, sym, ◌∙◌, subst}
use Rattle.std.proofs.lemmas.Bool.{true≢false}
use Rattle.hib_journal.specs.Types.{Key, Change, Strategy, Script, Act}
use Rattle.hib_base.specs.Keys.{same_key}
use Rattle.hib_base.specs.Tables.{Tables, key_of, first_on}
use Rattle.hib_journal.specs.Sessions.{Journal, own, is_by, changes_in, changes_after}
use Rattle.hib_journal.specs.Held.{is_begin}
use Rattle.hib_journal.specs.Next.{strategy}
use Rattle.hib_journal.specs.Coherence.{gives_back, holders}
use Rattle.hib_journal.specs.Legal.{IsLegal}
use Rattle.hib_journal.specs.Sound.{inserts_key}
use Rattle.hib_law.specs.Writers.{gave_back, AreWritersHolders}
use Rattle.hib_base.proofs.Tables.{Tested, tested}
use Rattle.hib_law.proofs.Basics.{none_some, some_same}
use Rattle.hib_law.proofs.Working.{Allowed, MayWrite, holds, holds_after}
use Rattle.hib_law.proofs.Flushing.{first_append_none, first_append_some, first_append_other}
use Rattle.hib_law.proofs.Blocks.{AreAllowed, are_allowed}
use Rattle.hib_law.proofs.Holders.{holds_holder}
use Rattle.hib_law.proofs.Ids.{in_holder}

-- of changes, whether the lock is held, and whether it was given back
abbrev IsWriter : Key → List Change → Bool → Bool → Type 0
IsWriter k cs held back = (c : Change) → first_on k cs ≡ Some c → inserts_key k c ≡ false → back ≡ false → held ≡ true

abbrev back_after : Key → Act → Bool → Bool
back_after k a x = cond (is_begin a) false (gives_back k a || x)

none_or : (x y : Bool) → (x || y) ≡ false → (x ≡ false) × (y ≡ false)
none_or false y p = (refl, p)
none_or true y p = absurd (true≢false p)

-- a change that comes first is written under the lock; one that comes later leaves the first as it was
writer_write : (k : Key) (m : Journal) (d : Change) → MayWrite k m d → IsWriter k (changes_in m) (holds k m) (gave_back k m) →
    IsWriter k (changes_in m ++ d ∷ []) (holds k m) (gave_back k m)
writer_write k m d w i c p n b = by_first (first_on k (changes_in m)) refl
  where
    under : (d : Change) → MayWrite k m d → same_key (key_of d) k ≡ true → first_on k (changes_in m) ≡ None → inserts_key k d ≡ false → holds k m ≡ true
    under (Change.Insert j r) w s u n = absurd (true≢false (sym s ∙ n))
    under (Change.Update j v r) w s u n = (w s).1 u
    under (Change.Delete j v) w s u n = w s u

    by_key : first_on k (changes_in m) ≡ None → Tested (same_key (key_of d) k) → holds k m ≡ true
    by_key u (inl s) =
        let g : d ≡ c = some_same (sym (first_append_none k (changes_in m) d u s) ∙ p) in
        under d w s u (subst (λ x. inserts_key k x ≡ false) (sym g) n)
    by_key u (inr s) = none_some (sym u ∙ (sym (first_append_other k (changes_in m) d s) ∙ p))

    by_first : (o : Option Change) → first_on k (changes_in m) ≡ o → holds k m ≡ true
    by_first None u = by_key u (tested (same_key (key_of d) k))
    by_first (Some x) u = i c (u ∙ (sym (first_append_some k (changes_in m) d x u) ∙ p)) n b

writer_after : (script : Script) (k : Key) (m : Journal) (a : Act) → Allowed script k m a → IsWriter k (changes_in m) (holds k m) (gave_back k m) →
    IsWriter k (changes_after a (changes_in m)) (holds_after k a (holds k m)) (back_after k a (gave_back k m))
writer_after script k m Act.Begin w i = λ c p n b. none_some p
writer_after script k m (Act.Write d) w i = writer_write k m d w.1 i
writer_after script k m (Act.Lock j v f) w i = λ c p n b. by_key (same_key j k) (i c p n b)
  where
    by_key : (x : Bool) → holds k m ≡ true → cond x true (holds k m) ≡ true
    by_key true g = refl
    by_key false g = g
writer_after script k m (Act.Unlock j u) w i = λ c p n b.
    let g : (same_key j k ≡ false) × (gave_back k m ≡ false) = none_or (same_key j k) (gave_back k m) b in
    rw (g.0) (i c p n g.1)
writer_after script k m (Act.AfterUpdate j u r) w i = λ c p n b.
    let g : (same_key j k ≡ false) × (gave_back k m ≡ false) = none_or (same_key j k) (gave_back k m) b in
    rw (g.0) (i c p n g.1)
writer_after script k m _ w i = i

writer : (script : Script) (k : Key) (s : ℕ) (h : Journal) → AreAllowed script k h → IsWriter k (changes_in (own s h)) (holds k (own s h)) (gave_back k (own s h))
writer script k s [] l = λ c p n b. none_some p
writer script k s (e ∷ h) l = by_session (tested (is_by s e)) (writer script k s h l.0)
  where
    by_session : Tested (is_by s e) → IsWriter k (changes_in (own s h)) (holds k (own s h)) (gave_back k (own s h)) →
        IsWriter k (changes_in (own s (e ∷ h))) (holds k (own s (e ∷ h))) (gave_back k (own s (e ∷ h)))
    by_session (inl p) i = rw p (writer_after script k (own s h) e.act (l.1 s p) i)
    by_session (inr p) i = rw p i

pub writers_hold : (script : Script) (start : Tables) (k : Key) → strategy script k.entity ≡ Strategy.ReadWrite →
    (h : Journal) → IsLegal script (Some start) h → AreWritersHolders k h
writers_hold script start k rw_k h l s c o p n b =
    in_holder s (holders k h) (holds_holder script start k rw_k s h l o (writer script k s h (are_allowed script start k rw_k h l) c p n b))
