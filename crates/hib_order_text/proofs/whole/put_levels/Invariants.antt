use Rattle.std.proofs.Common.{◌≡◌, ◌++◌, drop}
use Rattle.hib_order_text.specs.Texts.{levels_text}
use Rattle.hib_order_text.proofs.whole.put_levels.Given as goal

-- what was put, with what is left
abbrev pub invariant-loop-switches : goal.invariant-loop-switches
invariant-loop-switches l = l.fn.out.items ++ levels_text 0 l.levels ≡ l.out.items ++ levels_text l.switches (drop l.switches l.levels)
