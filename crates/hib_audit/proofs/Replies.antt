-- Which acts a fault may answer.
use Rattle.std.specs.Prelude.{cond}
use Rattle.std.proofs.Common.{◌≡◌, Bool, true, false, List, Some, None, refl, subst}
use Rattle.std.proofs.lemmas.Option.{none-some, same_Some}
use Rattle.hib_journal.specs.Types.{Change, Commit, Script, Act, Reply}
use Rattle.hib_journal.specs.Sessions.{Journal, is_empty}
use Rattle.hib_journal.specs.Legal.{fault_of}
use Rattle.hib_journal.specs.Next.{is_in}
use Rattle.hib_journal.specs.Runs.{is_fault}
use Rattle.hib_session.specs.Session.{own_reply}

unless_fault : (b : Bool) (f r : Reply) → is_fault f ≡ true → cond b None (Some f) ≡ Some r → is_fault r ≡ true
unless_fault true f r t p = absurd (none-some r p)
unless_fault false f r t p = subst (λ x. is_fault x ≡ true) (same_Some f r p) t

-- the answer that an act may fail with is a fault
pub fault_is : (cs : List Change) (a : Act) (r : Reply) → fault_of cs a ≡ Some r → is_fault r ≡ true
fault_is cs (Act.Load k) r p = unless_fault (is_in k cs) Reply.Fault r refl p
fault_is cs (Act.List q) r p = subst (λ x. is_fault x ≡ true) (same_Some Reply.Fault r p) refl
fault_is cs Act.Commit r p = unless_fault (is_empty cs) (Reply.Commit Commit.Fault) r refl p
fault_is cs _ r p = absurd (none-some r p)

-- an act of a session's own has no such answer
pub own_unfailing : (script : Script) (mine : Journal) (cs : List Change) (a : Act) (r q : Reply) → own_reply script mine a ≡ Some r → fault_of cs a ≡ Some q → ⊥
own_unfailing script mine cs (Act.Load k) r q p f = none-some r p
own_unfailing script mine cs (Act.List k) r q p f = none-some r p
own_unfailing script mine cs Act.Commit r q p f = none-some r p
own_unfailing script mine cs _ r q p f = none-some q f
