use Rattle.std.proofs.Common.{◌≡◌, take, map}
use Rattle.hib_report.specs.declared.fates.Fate.{Fate}
use Rattle.hib_order_judge.proofs.endings.ending.Given as goal

abbrev pub invariant-loop-fate : goal.invariant-loop-fate
invariant-loop-fate l = l.ending.items ≡ map (λ (f : Fate). f.outcome) (take l.fate-index l.fate-items)
