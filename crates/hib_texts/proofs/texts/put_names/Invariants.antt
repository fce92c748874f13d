use Rattle.std.proofs.Common.{◌≡◌, ◌++◌, take}
use Rattle.hib_texts.specs.Texts.{names_text}
use Rattle.hib_texts.proofs.texts.put_names.Given as goal

abbrev pub invariant-loop-name : goal.invariant-loop-name
invariant-loop-name l = l.out.items ≡ l.fn.out.items ++ names_text l.script (take l.name-index l.name-items)
