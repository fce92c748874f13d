use Rattle.std.proofs.Common.{◌≡◌, ◌++◌, flat_map, take}
use Rattle.hib_collections.specs.Text.{entry_text}
use Rattle.hib_collections.proofs.lines.put_entries.Given as goal

abbrev pub invariant-loop-entry : goal.invariant-loop-entry
invariant-loop-entry l = l.out.items ≡ l.fn.out.items ++ flat_map (λ x. entry_text l.script l.defs x) (take l.entry-index l.entries)
