-- What a run over parts under locks of their own comes to.
use Rattle.std.proofs.Common.{◌≡◌, ◌≤◌, ◌+◌, ◌^◌, ℕ, Bool, true, false, List, [], ◌∷◌, ◌++◌, length, Result, Option, sym, subst, arith}
use Rattle.std.specs.Prelude.{not, is_ok}
use Rattle.hib_base.specs.Tables.{Tables}
use Rattle.hib_base.specs.Valid.{is_valid}
use Rattle.hib_base.proofs.Valid.{rules}
use Rattle.hib_journal.specs.Types.{Script, Entry}
use Rattle.hib_journal.specs.Legal.{IsLegal}
use Rattle.hib_journal.specs.Runs.{name_identifiers}
use Rattle.hib_journal.specs.Sessions.{Journal}
use Rattle.hib_listeners.specs.Heard.{HaveHeard}
use Rattle.hib_listeners.specs.Told.{Told, AreTold}
use Rattle.hib_formed.specs.Early.{AreEarly}
use Rattle.hib_split_law.specs.Merged.{AreDue}
use Rattle.hib_split_law.proofs.Merge.{last_few}
use Rattle.hib_core.specs.Bound.{outside_count}
use Rattle.hib_core.specs.Standing.{Origin}
use Rattle.hib_core.proofs.Evictions.{all_named}
use Rattle.hib_joined.specs.Run.{IsOneByOne, IsOneRun}
use Rattle.hib_top.specs.declared.turns.Turns.{Turns}
use Rattle.hib_top.specs.Running.{IsFinished, IsPlayed}
use Rattle.hib_top.proofs.Finished.{all_ended}
use Rattle.hib_top.proofs.Formed.{Formed, early_enough, start_formed}

-- ---- laws that are called
abbrev pub Short : Type 0
Short = (script : Script) (told : Option Tables) (h : Journal) → is_valid script ≡ true → IsLegal script told h → outside_count h ≤ length script.schedule → length h ≤ 150000

-- ---- who hears of it
abbrev pub Carries : Type 0
Carries = (e : Entry) (whole : Bool) (es : List Entry) (start now next : List Told) → HaveHeard false es start now → AreTold e whole now next → HaveHeard (not whole) (es ++ e ∷ []) start next

pub heard_on : {T E : Type 0} (law : Carries) (r : Result T E) (start now next : List Told) (e : Entry) (es list : List Entry) → list ≡ es ++ e ∷ [] → is_ok r ≡ true → HaveHeard false es start now →
    AreTold e (is_ok r) now next → HaveHeard false list start next
heard_on law r start now next e es list q ok heard told =
    subst (λ (l : List Entry). HaveHeard false l start next) (sym q) (subst (λ b. HaveHeard (not b) (es ++ e ∷ []) start next) ok (law e (is_ok r) es start now next heard told))

-- ---- one journal
-- a tick that is due is at most the number of entries
early : (h : Journal) → AreDue h → length h ≤ 2 ^ 61 → AreEarly h
early [] d few = tt
early (e ∷ h) d few =
    let l : e.tick ≤ length (e ∷ h) = last_few (λ _. true) (e ∷ h) d in
    (early h d.0 (omega (arith, few)), omega (arith, l, few))

pub is_played : Short → Formed → (n : ℕ) (script : Script) (from : Origin) (h : Journal) (rows : Option Tables) (failed asked_for : ℕ) → is_valid script ≡ true →
    IsOneRun script from h rows failed asked_for → (n ≡ 1 → IsOneByOne h) → IsPlayed (Turns.OnParts n) script from.tables rows h
is_played short formed n script from h rows failed asked_for v one order =
    let few : length h ≤ 150000 = short script from.tables h v one.legal (let o : outside_count h ≡ 0 = one.inside in omega (arith, o)) in
    let small : length h ≤ 2 ^ 61 = early_enough h few in
    let named : name_identifiers h ≡ true = all_named h one.inside in
    record {
      legal = one.legal;
      law = one.law;
      declared = (rules script v).declared;
      ticked = (one.due, λ e. (order e).numbered);
      few = few;
      named = named;
      formed = start_formed formed script from.tables h v small (early h one.due small) named one.legal;
      committed = one.committed;
    }

pub is_finished : (n : ℕ) (script : Script) (from : Origin) (h : Journal) (rows : Option Tables) (failed asked_for : ℕ) → IsOneRun script from h rows failed asked_for →
    (n ≡ 1 → IsOneByOne h) → IsFinished (Turns.OnParts n) script h
is_finished n script from h rows failed asked_for one order = all_ended (Turns.OnParts n) script h one.over (one.inside, λ e. (order e).order)
