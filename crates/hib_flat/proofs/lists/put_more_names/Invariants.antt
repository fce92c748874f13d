use Rattle.std.proofs.Common.{◌≡◌, ◌++◌, take, flat_map, codes}
use Rattle.hib_texts.specs.Texts.{entity_text}
use Rattle.hib_flat.specs.Lines.{in_quotes}
use Rattle.hib_flat.proofs.lists.put_more_names.Given as goal

abbrev pub invariant-loop-name : goal.invariant-loop-name
invariant-loop-name l = l.out.items ≡ l.fn.out.items ++ flat_map (λ n. codes "," ++ in_quotes (entity_text l.script n)) (take l.name-index l.names)
