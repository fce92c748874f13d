use Rattle.std.proofs.Common.{◌≡◌, ◌++◌, map, flat_map, codes}
use Rattle.hib_texts.specs.Texts.{key_text}
use Rattle.hib_report.proofs.unsound.put_keys.Given as goal

abbrev pub invariant-loop-key : goal.invariant-loop-key
invariant-loop-key l = l.out.items ≡ l.fn.out.items ++ flat_map (λ k. key_text l.script k ++ codes "\n") (map (λ r. r.now) l.yielded)
