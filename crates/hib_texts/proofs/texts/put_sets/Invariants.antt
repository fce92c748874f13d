use Rattle.std.proofs.Common.{◌≡◌, ◌++◌, take}
use Rattle.hib_texts.specs.Texts.{sets_text}
use Rattle.hib_texts.proofs.texts.put_sets.Given as goal

abbrev pub invariant-loop-set : goal.invariant-loop-set
invariant-loop-set l = l.out.items ≡ l.fn.out.items ++ sets_text l.script l.entity (take l.set-index l.set-items)
