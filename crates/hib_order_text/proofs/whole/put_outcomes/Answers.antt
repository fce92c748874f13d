use Rattle.std.proofs.Common.{◌≡◌, ◌∷◌, ◌++◌, ◌+◌, ◌∙◌, ℕ, List, ap, sym, drop, drop-cons, get_or, add-one}
use Rattle.std.specs.Prelude.{Option}
use Rattle.hib_journal.specs.Types.{Outcome, SessionDef}
use Rattle.hib_order_text.specs.Texts.{outcome_text_of, outcomes_text}
use Rattle.hib_order_text.proofs.Texts.{outcomes_step}
use Rattle.hib_order_text.proofs.whole.put_outcomes.Goals as goal

pub loop-session-preserved : goal.loop-session-preserved
loop-session-preserved c =
    let i : ℕ = c.loop-session.session in
    let d : SessionDef = c.index-sessions-session.result in
    let ds : List SessionDef = c.args.sessions.now in
    let a : drop i ds ≡ get_or ds i d ∷ drop (i + 1) ds = rw add-one (drop-cons ds i d c.loop-session-test.true) in
    let e : drop i ds ≡ d ∷ drop (i + 1) ds = a ∙ ap (λ (x : SessionDef). x ∷ drop (i + 1) ds) (sym c.index-sessions-session.is) in
    outcomes_step c.args.outcomes.now i d (drop (i + 1) ds) _ _ _
    (c.in_ok-put_outcome.ensures ∙ ap (λ (o : Option Outcome). c.loop-session.out.items ++ outcome_text_of i d o) c.outcome_at-outcome.ensures)
    (c.loop-session.invariant ∙ ap (λ (xs : List SessionDef). c.loop-session.out.items ++ outcomes_text c.args.outcomes.now i xs) e)
