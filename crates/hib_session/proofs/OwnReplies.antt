-- What a session answers itself is the reply that is due, and no fault.
use Rattle.std.specs.Prelude.{is_some}
use Rattle.std.proofs.Common.{◌≡◌, ℕ, Bool, true, false, cond, not, ◌||◌, Some, None, Option, refl, sym, ap, ◌∙◌, subst, eq-eqb}
use Rattle.std.proofs.lemmas.Bool.{true≢false, false≢true, not-true}
use Rattle.std.proofs.lemmas.Option.{none-some}
use Rattle.hib_base.specs.Tables.{Tables}
use Rattle.hib_journal.specs.Types.{Strategy, Script, Part, Act, Reply}
use Rattle.hib_journal.specs.Sessions.{Journal, own, changes_in, same_part}
use Rattle.hib_journal.specs.Held.{held}
use Rattle.hib_journal.specs.Next.{strategy, is_in}
use Rattle.hib_journal.specs.Legal.{part_of, is_outside, set_unless, row_of, reply_of}
use Rattle.hib_journal.specs.Runs.{is_fault}
use Rattle.hib_session.specs.Session.{own_reply}

same_some : (x y : Reply) → Some x ≡ Some y → x ≡ y
same_some x y e = cc

some_none : (r : Reply) → ◌≡◌ {A = Option Reply} (Some r) None → ⊥
some_none r p = cc

-- a session's own reply
pub own_is : (script : Script) (h : Journal) (s now : ℕ) (a : Act) (r : Reply) → own_reply script (own s h) a ≡ Some r → (start : Tables) → r ≡ reply_of script start h s now a
own_is script h s now Act.End r p start = same_some r _ (sym p)
own_is script h s now (Act.Find k) r p start = same_some r _ (sym p)
own_is script h s now (Act.Persist k y) r p start = same_some r _ (sym p)
own_is script h s now (Act.Set k cs) r p start = same_some r _ (sym p)
own_is script h s now (Act.Remove k) r p start = same_some r _ (sym p)
own_is script h s now Act.Clear r p start = same_some r _ (sym p)
own_is script h s now _ r p start = absurd (none-some r p)

-- what is a session's own no part is asked
pub own_is_none : (script : Script) (mine : Journal) (a : Act) (s n : ℕ) → part_of a s ≡ Part.Own n → own_reply script mine a ≡ None → ⊥
own_is_none script mine (Act.Find k) s n p o = some_none _ o
own_is_none script mine (Act.Persist k r) s n p o = some_none _ o
own_is_none script mine (Act.Set k cells) s n p o = some_none _ o
own_is_none script mine (Act.Remove k) s n p o = some_none _ o
own_is_none script mine Act.Clear s n p o = some_none _ o
own_is_none script mine _ s n p o = false≢true (ap (same_part (Part.Own n)) p ∙ eq-eqb n n refl)

-- of the registry a session asks a Begin alone
pub begins_only : (script : Script) (mine : Journal) (a : Act) (s : ℕ) → same_part Part.Registry (part_of a s) ≡ true → own_reply script mine a ≡ None → is_outside a ≡ false → a ≡ Act.Begin
begins_only script mine Act.Begin s p o i = refl
begins_only script mine Act.End s p o i = absurd (some_none _ o)
begins_only script mine (Act.Kill n) s p o i = absurd (true≢false i)
begins_only script mine Act.Restart s p o i = absurd (true≢false i)
begins_only script mine _ s p o i = absurd (false≢true p)

-- a session answers no fault
abbrev is_calm : Option Reply → Bool
is_calm None = true
is_calm (Some r) = not (is_fault r)

calm_persist : (b : Bool) → is_calm (Some (cond b Reply.Known Reply.New)) ≡ true
calm_persist true = refl
calm_persist false = refl

calm_set : (b : Bool) (g : Strategy) → is_calm (Some (cond b (set_unless g) Reply.Unknown)) ≡ true
calm_set false g = refl
calm_set true Strategy.ReadOnly = refl
calm_set true _ = refl

calm_remove : (b : Bool) → is_calm (Some (cond b Reply.Removed Reply.Unknown)) ≡ true
calm_remove true = refl
calm_remove false = refl

own_calm : (script : Script) (mine : Journal) (a : Act) → is_calm (own_reply script mine a) ≡ true
own_calm script mine (Act.Persist k r) = calm_persist (is_some (held mine k) || is_in k (changes_in mine))
own_calm script mine (Act.Set k cells) = calm_set (is_some (row_of (held mine k))) (strategy script k.entity)
own_calm script mine (Act.Remove k) = calm_remove (is_some (row_of (held mine k)))
own_calm script mine _ = refl

pub own_no_fault : (script : Script) (mine : Journal) (a : Act) (r : Reply) → own_reply script mine a ≡ Some r → is_fault r ≡ false
own_no_fault script mine a r p = not-true (is_fault r) (subst (λ o. is_calm o ≡ true) p (own_calm script mine a))
