use Rattle.std.proofs.Common.{◌≡◌, ◌++◌, take, flat_map}
use Rattle.hib_order_text.specs.Texts.{ending_text}
use Rattle.hib_order_text.proofs.whole.put_each_ending.Given as goal

-- what was put so far
abbrev pub invariant-loop-place : goal.invariant-loop-place
invariant-loop-place l = l.out.items ≡ l.fn.out.items ++ flat_map (λ e. ending_text l.script e) (take l.place l.endings)
