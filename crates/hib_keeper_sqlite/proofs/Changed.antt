-- What changes in a transaction leave, of tables that are told or not.
use Rattle.std.proofs.Common.{◌≡◌, ◌<◌, ◌≤◌, ◌+◌, ℕ, inl, inr, true, false, List, [], ◌∷◌, ◌++◌, length, take, drop, get_or, Some, None, Option, IfSome, refl, sym, ◌∙◌, ap, subst}
use Rattle.std.proofs.lemmas.List.{take_more, take_all}
use Rattle.hib_base.specs.Tables.{Tables, row_at, key_of, after_change, after_changes, unless_there, with_absent}
use Rattle.hib_outside.specs.Verdicts.{refused_at, verdict}
use Rattle.hib_outside.proofs.Commits.{after_changes_push, with_absent_push, verdict_next}
use Rattle.hib_keeper_sqlite.specs.Types.{Key, Row, Change}
use Rattle.hib_sqlite_rows.specs.Told.{Told, at_rest, changed, begun, committed, rolled_back, LeavesOrUndoes}
use Rattle.hib_keeper_sqlite.specs.Batches.{IsAtRest, made}

-- a change leaves what a rollback goes back to
pub rolled_back-changed : (f : Tables → Tables) (o : Option Told) → rolled_back (changed f o) ≡ rolled_back o
rolled_back-changed f None = refl
rolled_back-changed f (Some t) = refl

pub rolled_back-begun : (o : Option Told) → rolled_back (begun o) ≡ rolled_back o
rolled_back-begun None = refl
rolled_back-begun (Some t) = refl

pub rolled_back-twice : (o : Option Told) → rolled_back (rolled_back o) ≡ rolled_back o
rolled_back-twice None = refl
rolled_back-twice (Some t) = refl

-- and so does a call that fails
pub rolled_back-undone : (old new : Option Told) → LeavesOrUndoes old new → rolled_back new ≡ rolled_back old
rolled_back-undone old new (inl same) = ap rolled_back same
rolled_back-undone old new (inr undone) = ap rolled_back undone ∙ rolled_back-twice old

pub changed-twice : (f g : Tables → Tables) (o : Option Told) → changed g (changed f o) ≡ changed (λ t. g (f t)) o
changed-twice f g None = refl
changed-twice f g (Some t) = refl

pub changed-same : (o : Option Told) → changed (λ t. t) o ≡ o
changed-same None = refl
changed-same (Some t) = refl

-- it stays in a transaction
pub inside-changed : (f : Tables → Tables) (o : Option Told) → IfSome o (λ t. t.in_transaction ≡ true) → IfSome (changed f o) (λ t. t.in_transaction ≡ true)
inside-changed f None h = h
inside-changed f (Some t) h = h

pub inside-begun : (o : Option Told) → IfSome (begun o) (λ t. t.in_transaction ≡ true)
inside-begun None = tt
inside-begun (Some t) = refl

pub outside : (o : Option Told) → IsAtRest o → IfSome o (λ t. t.in_transaction ≡ false)
outside None h = tt
outside (Some t) h = let same : at_rest t.before ≡ t = cc in sym (ap (λ (x : Told). x.in_transaction) same)

-- what is changed between begin and commit
pub committed-changed : (f : Tables → Tables) (o : Option Told) → committed (changed f (begun o)) ≡ made f o
committed-changed f None = refl
committed-changed f (Some t) = refl

-- ---- one change more, and one row more

pub next_change : (o loop new : Option Told) (cs : List Change) (n : ℕ) (c : Change) → n < length cs → c ≡ get_or cs n c → loop ≡ changed (after_changes (take n cs)) o → new ≡ changed (after_change c) loop
    → new ≡ changed (after_changes (take (n + 1) cs)) o
next_change o loop new cs n c low is so_far more =
    let past : take (n + 1) cs ≡ take n cs ++ c ∷ [] = take_more cs n c low ∙ ap (λ d. take n cs ++ d ∷ []) (sym is) in
    let grown : (t : Tables) → after_change c (after_changes (take n cs) t) ≡ after_changes (take (n + 1) cs) t = λ t. sym (ap (λ ds. after_changes ds t) past ∙ after_changes_push (take n cs) c t) in
    more ∙ ap (changed (after_change c)) so_far ∙ changed-twice (after_changes (take n cs)) (after_change c) o ∙ (λ i. changed (λ t. grown t i) o)

pub next_verdict : (o loop : Option Told) (cs : List Change) (n : ℕ) (c : Change) → n < length cs → c ≡ get_or cs n c → loop ≡ changed (after_changes (take n cs)) o
    → IfSome loop (λ t. None ≡ refused_at n c (row_at t.now (key_of c)))
    → IfSome o (λ t. verdict t.now cs 0 ≡ verdict (after_changes (take n cs) t.now) (drop n cs) n) → IfSome o (λ t. verdict t.now cs 0 ≡ verdict (after_changes (take (n + 1) cs) t.now) (drop (n + 1) cs) (n + 1))
next_verdict None loop cs n c low is so_far applies answered = tt
next_verdict (Some t) loop cs n c low is so_far applies answered =
    let found = subst (λ (p : Option Told). IfSome p (λ t. None ≡ refused_at n c (row_at t.now (key_of c)))) so_far applies in
    verdict_next (verdict t.now cs 0) t.now cs n c (row_at (after_changes (take n cs) t.now) (key_of c)) low is refl found answered

pub all_changes : (o loop : Option Told) (cs : List Change) (n : ℕ) → length cs ≤ n → loop ≡ changed (after_changes (take n cs)) o → loop ≡ changed (after_changes cs) o
all_changes o loop cs n over so_far = so_far ∙ ap (λ l. changed (after_changes l) o) (take_all n cs over)

pub next_row : (o loop new : Option Told) (es : Tables) (n : ℕ) (e : Key × Row) → n < length es → e ≡ get_or es n e → loop ≡ changed (λ t. with_absent t (take n es)) o
    → new ≡ changed (λ t. unless_there t e.0 e.1 (row_at t e.0)) loop → new ≡ changed (λ t. with_absent t (take (n + 1) es)) o
next_row o loop new es n e low is so_far more =
    let past : take (n + 1) es ≡ take n es ++ e ∷ [] = take_more es n e low ∙ ap (λ d. take n es ++ d ∷ []) (sym is) in
    let grown : (t : Tables) → unless_there (with_absent t (take n es)) e.0 e.1 (row_at (with_absent t (take n es)) e.0) ≡ with_absent t (take (n + 1) es) = λ t. sym (ap (with_absent t) past ∙ with_absent_push t (take n es) e) in
    more ∙ ap (changed (λ t. unless_there t e.0 e.1 (row_at t e.0))) so_far ∙ changed-twice (λ t. with_absent t (take n es)) (λ t. unless_there t e.0 e.1 (row_at t e.0)) o ∙ (λ i. changed (λ t. grown t i) o)
