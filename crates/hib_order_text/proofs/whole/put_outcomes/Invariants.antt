use Rattle.std.proofs.Common.{◌≡◌, ◌++◌, drop}
use Rattle.hib_order_text.specs.Texts.{outcomes_text}
use Rattle.hib_order_text.proofs.whole.put_outcomes.Given as goal

-- what was put, with what is left
abbrev pub invariant-loop-session : goal.invariant-loop-session
invariant-loop-session l =
    l.fn.out.items ++ outcomes_text l.outcomes 0 l.sessions ≡ l.out.items ++ outcomes_text l.outcomes l.session (drop l.session l.sessions)
