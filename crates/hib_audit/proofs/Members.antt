-- The sessions of an audit, and the act that is due in one.
use Rattle.std.proofs.Common.{◌≡◌, ℕ, ◌<◌, ◌≤◌, Bool, true, false, cond, List, [], ◌∷◌, length, get_or, IfSome, Some, None, Option, refl, sym, ap, ◌∙◌, subst, arith, inl, inr}
use Rattle.std.proofs.lemmas.Bool.{ltb-true}
use Rattle.std.proofs.lemmas.Bool.Decides.{nat_tests}
use Rattle.std.proofs.lemmas.Option.{slice_get-get_or, slice_get_past}
use Rattle.std.specs.Prelude.{nat_lt, slice_get, slice_set}
use Rattle.std.specs.Option.{option_map_or}
use Rattle.hib_base.proofs.Tables.{Tested, tested}
use Rattle.hib_journal.specs.Types.{SessionDef, Script, Act, Entry}
use Rattle.hib_journal.specs.Sessions.{Journal, own, was_killed}
use Rattle.hib_journal.specs.Plan.{Plan, left_of, after, first_act}
use Rattle.hib_journal.specs.Next.{next, blocks}
use Rattle.hib_journal.specs.Legal.{due_by, is_outside}
use Rattle.hib_journal.specs.Due.{IsAllowed}
use Rattle.hib_session.specs.declared.session.Session.{Session}
use Rattle.hib_session.specs.Session.{Follows, IsTaken, number_of, is_killed}
use Rattle.hib_session.specs.Sessions.{AreSessions}
use Rattle.hib_session.proofs.Together.{sessions_step}

none_some : (a : Act) → ◌≡◌ {A = Option Act} None (Some a) → ⊥
none_some a e = cc

-- nothing is left of a plan without acts
over_left : (mine : Journal) → left_of Plan.Over mine ≡ Plan.Over
over_left [] = refl
over_left (e ∷ mine) = ap (λ p. after p e) (over_left mine)

none_next : (script : Script) (s : ℕ) (mine : Journal) → slice_get script.sessions s ≡ None → next script s mine ≡ None
unfolding next
none_next script s mine e = ap first_act (ap (λ (o : Option SessionDef). left_of (blocks script Rattle.hib_journal.specs.Types.Mode.Normal true (option_map_or (λ d. d.statements) o []) []) mine) e ∙ over_left mine)

cond_none : (b : Bool) (o : Option Act) → o ≡ None → cond b None o ≡ None
cond_none true o e = refl
cond_none false o e = e

-- no act is due in a session that the script hasn't
pub none_due : (script : Script) (h : Journal) (s : ℕ) (a : Act) → length script.sessions ≤ s → due_by script h (Some s) a ≡ None
none_due script h s a l = cond_none (was_killed s h) (next script s (own s h)) (none_next script s (own s h) (slice_get_past script.sessions s l))

-- one in which an act is due it has
pub due_within : (script : Script) (h : Journal) (s : ℕ) (a b : Act) → due_by script h (Some s) a ≡ Some b → s < length script.sessions
due_within script h s a b e = by_test (tested (nat_lt s (length script.sessions)))
  where
    by_test : Tested (nat_lt s (length script.sessions)) → s < length script.sessions
    by_test (inl p) = grind (arith, nat_tests, p)
    by_test (inr p) = let l : length script.sessions ≤ s = grind (arith, nat_tests, p) in absurd (none_some b (sym (none_due script h s a l) ∙ e))

-- and it lives
pub due_lives : (script : Script) (h : Journal) (s : ℕ) (a b : Act) → due_by script h (Some s) a ≡ Some b → (was_killed s h ≡ false) × (next script s (own s h) ≡ Some b)
due_lives script h s a b e = by_kill (was_killed s h) refl e
  where
    by_kill : (k : Bool) → was_killed s h ≡ k → cond k None (next script s (own s h)) ≡ Some b → (k ≡ false) × (next script s (own s h) ≡ Some b)
    by_kill true q p = absurd (none_some b p)
    by_kill false q p = (refl, p)

-- the act that a session names
pub due_of : (script : Script) (h : Journal) (xs : List Session) (s : ℕ) (y : Session) (o : Option Act) (a : Act) → AreSessions script h xs → slice_get xs s ≡ Some y →
    ((mine : Journal) → Follows script y mine → o ≡ next script (number_of y) mine) → (is_killed y ≡ true → o ≡ None) → o ≡ due_by script h (Some s) a
due_of script h xs s y o a w p f k = by_kill (tested (was_killed s h))
  where
    by_kill : Tested (was_killed s h) → o ≡ cond (was_killed s h) None (next script s (own s h))
    by_kill (inl t) = rw t (k (w.killed s y p ∙ t))
    by_kill (inr t) = rw t (f (own s h) (w.follow s y p t) ∙ ap (λ n. next script n (own s h)) (w.numbers s y p))

pub allowed_of : (script : Script) (h : Journal) (xs : List Session) (s : ℕ) (y : Session) (o : Option Act) → AreSessions script h xs → slice_get xs s ≡ Some y →
    ((mine : Journal) → Follows script y mine → IfSome o (IsAllowed script (number_of y) mine)) → (is_killed y ≡ true → o ≡ None) → IfSome o (IsAllowed script s (own s h))
allowed_of script h xs s y o w p f k = by_kill (tested (was_killed s h))
  where
    by_kill : Tested (was_killed s h) → IfSome o (IsAllowed script s (own s h))
    by_kill (inl t) = rw (k (w.killed s y p ∙ t)) tt
    by_kill (inr t) = subst (λ n. IfSome o (IsAllowed script n (own s h))) (w.numbers s y p) (f (own s h) (w.follow s y p t))

-- the session at a place
pub place_of : (xs : List Session) (i s : ℕ) (y : Session) → i ≡ s → nat_lt i (length xs) ≡ true → y ≡ get_or xs i y → slice_get xs s ≡ Some y
place_of xs i s y e l v = subst (λ n. slice_get xs n ≡ Some y) e (slice_get-get_or xs i y (ltb-true i (length xs) l) ∙ ap Some (sym v))

-- with the session that was read at its place
pub session_taken : (script : Script) (h : Journal) (i s : ℕ) (e : Entry) (xs : List Session) (y z : Session) → i ≡ s → y ≡ get_or xs i y → e.session ≡ Some s → AreSessions script h xs → s < length xs →
    was_killed s h ≡ false → is_outside e.act ≡ false → IsTaken script s (own s h) e → number_of z ≡ number_of y → is_killed z ≡ is_killed y →
    ((mine : Journal) → Follows script y mine → IsTaken script (number_of y) mine e → Follows script z (e ∷ mine)) → AreSessions script (e ∷ h) (slice_set xs i z)
session_taken script h i s e xs y z g v b w l live o t m k f = subst (λ j. AreSessions script (e ∷ h) (slice_set xs j z)) (sym g)
    (sessions_step script h s e xs z b w l (m ∙ here) (k ∙ w.killed s y place) o
    (f (own s h) (w.follow s y place live) (subst (λ n. IsTaken script n (own s h) e) (sym here) t)))
  where
    place : slice_get xs s ≡ Some y
    place = slice_get-get_or xs s y l ∙ ap Some (sym (subst (λ n. y ≡ get_or xs n y) g v))

    here : number_of y ≡ s
    here = w.numbers s y place
