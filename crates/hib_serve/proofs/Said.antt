-- What a session says, and why it doesn't.
use Rattle.std.proofs.Common.{◌≡◌, ◌⊎◌, ◌≤◌, ◌&&◌, ℕ, List, length, true, false, Option, Some, None, Ok, refl, ap, ◌∙◌, subst, inl, inr}
use Rattle.hib_base.specs.Fits.{fits_statement}
use Rattle.hib_base.specs.Scripts.{is_known}
use Rattle.hib_journal.specs.Kept.{Kept, past}
use Rattle.hib_journal.specs.Played.{has_next}
use Rattle.hib_journal.specs.Sessions.{was_killed}
use Rattle.hib_journal.specs.Types.{Statement, Script}
use Rattle.hib_live.specs.Live.{LiveState}
use Rattle.hib_live.specs.declared.refusal.Refusal.{Refusal as Unasked}
use Rattle.hib_serve_answers.specs.declared.refusals.Refusal.{Refusal}
use Rattle.hib_serve.specs.Sessions.{IsRefused, IsWhyNot, IsWhyUnsaid, number_in, refusal_of, with_named}
use Rattle.hib_serve.specs.Statements.{IsNoStatement, statement_in}

pub refused_same : (x y : LiveState) → y ≡ x → IsRefused x y
refused_same x y e = (ap (λ (z : LiveState). z.journal.list) e, inl (ap (λ (z : LiveState). z.script) e))

named_or : (s : Script) (o : Option ℕ) → (with_named s o ≡ s) ⊎ (with_named s o ≡ with_named s None)
named_or s None = inr refl
named_or s (Some n) = inl refl

by_script : (x y : LiveState) (o : Option ℕ) → y.script ≡ with_named x.script o → (with_named x.script o ≡ x.script) ⊎ (with_named x.script o ≡ with_named x.script None) →
    (y.script ≡ x.script) ⊎ (y.script ≡ with_named x.script None)
by_script x y o e (inl h) = inl (e ∙ h)
by_script x y o e (inr h) = inr (e ∙ h)

-- at most the session has begun
pub refused_begun : (x z y : LiveState) (o : Option ℕ) → z.script ≡ with_named x.script o → z.journal ≡ x.journal → y ≡ z → IsRefused x y
refused_begun x z y o s j e =
    (ap (λ (v : LiveState). v.journal.list) e ∙ ap (λ (k : Kept). k.list) j, by_script x y o (ap (λ (v : LiveState). v.script) e ∙ s) (named_or x.script o))

-- why a session doesn't take a statement
pub why_not : (script : Script) (j : Kept) (n : ℕ) (st : Statement) (u : Unasked) → (u ≡ Unasked.NoSession → length script.sessions ≤ n) → (u ≡ Unasked.Killed → was_killed n (past j) ≡ true) →
    (u ≡ Unasked.Busy → has_next script (past j) n ≡ true) → (u ≡ Unasked.Unfit → (fits_statement script.mapping st && is_known (length script.queries) st) ≡ false) →
    IsWhyNot script j n st (refusal_of u)
why_not script j n st Unasked.NoSession a b c d = a refl
why_not script j n st Unasked.Killed a b c d = b refl
why_not script j n st Unasked.Busy a b c d = c refl
why_not script j n st Unasked.Unfit a b c d = d refl
why_not script j n st Unasked.NoMemory a b c d = tt
why_not script j n st Unasked.Deaf a b c d = tt

here : (named : Option ℕ) (text : List ℕ) (x : LiveState) (st : Statement) (r : Refusal) → statement_in x.script text ≡ Ok st → IsWhyNot (with_named x.script named) x.journal (number_in x.script named) st r →
    IsWhyUnsaid named text x r
here named text x st Refusal.Line e h = absurd h
here named text x st Refusal.Long e h = absurd h
here named text x st (Refusal.Unknown w) e h = absurd h
here named text x st Refusal.Members e h = absurd h
here named text x st Refusal.Session e h = (st, (e, h))
here named text x st Refusal.Killed e h = (st, (e, h))
here named text x st Refusal.Busy e h = (st, (e, h))
here named text x st (Refusal.Statement k) e h = absurd h
here named text x st Refusal.Unfit e h = (st, (e, h))
here named text x st Refusal.Memory e h = tt

-- why a text isn't said, once its session has begun
pub why_unsaid : (named : Option ℕ) (text : List ℕ) (x z : LiveState) (n : ℕ) (st : Statement) (r : Refusal) → statement_in x.script text ≡ Ok st → z.script ≡ with_named x.script named →
    z.journal ≡ x.journal → n ≡ number_in x.script named → IsWhyNot z.script z.journal n st r → IsWhyUnsaid named text x r
why_unsaid named text x z n st r e s j m h =
    here named text x st r e (subst (λ (v : Script). IsWhyNot v x.journal (number_in x.script named) st r) s
    (subst (λ (k : Kept). IsWhyNot z.script k (number_in x.script named) st r) j (subst (λ (i : ℕ). IsWhyNot z.script z.journal i st r) m h)))

-- a text is no statement
pub no_statement : (named : Option ℕ) (text : List ℕ) (x : LiveState) (r : Refusal) → IsNoStatement (statement_in x.script text) r → IsWhyUnsaid named text x r
no_statement named text x Refusal.Line h = absurd h
no_statement named text x Refusal.Long h = absurd h
no_statement named text x (Refusal.Unknown w) h = absurd h
no_statement named text x Refusal.Members h = absurd h
no_statement named text x Refusal.Session h = absurd h
no_statement named text x Refusal.Killed h = absurd h
no_statement named text x Refusal.Busy h = absurd h
no_statement named text x (Refusal.Statement k) h = h
no_statement named text x Refusal.Unfit h = absurd h
no_statement named text x Refusal.Memory h = tt
