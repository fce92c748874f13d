use Rattle.std.proofs.Common.{take}
use Rattle.std.specs.List.{AllZip}
use Rattle.hib_traces.specs.Verdicts.{IsVerdict}
use Rattle.hib_traces.proofs.verdicts.judge.Given as goal

abbrev pub invariant-loop-answer : goal.invariant-loop-answer
invariant-loop-answer l = AllZip (λ a v. IsVerdict l.order.commits.items a l.order.commits.items v) (take l.answer-index l.answers) l.verdicts.items
