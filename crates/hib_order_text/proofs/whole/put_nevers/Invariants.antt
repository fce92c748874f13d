use Rattle.std.proofs.Common.{◌≡◌, ◌++◌, take}
use Rattle.hib_order_text.specs.Texts.{nevers_text}
use Rattle.hib_order_text.proofs.whole.put_nevers.Given as goal

-- what was put so far
abbrev pub invariant-loop-entity : goal.invariant-loop-entity
invariant-loop-entity l = l.out.items ≡ l.fn.out.items ++ nevers_text (take l.entity-index l.mapping)
