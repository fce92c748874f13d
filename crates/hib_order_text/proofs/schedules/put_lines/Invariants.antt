use Rattle.std.proofs.Common.{◌≡◌, ◌++◌, take, flat_map}
use Rattle.hib_order_text.specs.Texts.{line_text}
use Rattle.hib_order_text.proofs.schedules.put_lines.Given as goal

-- what was put so far
abbrev pub invariant-loop-order : goal.invariant-loop-order
invariant-loop-order l = l.out.items ≡ l.fn.out.items ++ flat_map (λ o. line_text l.script o) (take l.order-index l.orders)
