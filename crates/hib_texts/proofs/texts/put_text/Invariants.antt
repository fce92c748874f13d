use Rattle.std.proofs.Common.{◌≡◌, ◌++◌, take, flat_map, codes}
use Rattle.hib_texts.specs.Texts.{escaped}
use Rattle.hib_texts.proofs.texts.put_text.Given as goal

abbrev pub invariant-loop-b : goal.invariant-loop-b
invariant-loop-b l = l.out.items ≡ l.fn.out.items ++ codes "\"" ++ flat_map escaped (take l.b-index l.bytes)
