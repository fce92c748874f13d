use Rattle.std.proofs.Common.{◌≡◌, ◌++◌, flat_map, take}
use Rattle.hib_nodes.specs.Text.{entry_text}
use Rattle.hib_nodes.proofs.texts.put_entries.Given as goal

abbrev pub invariant-loop-entry : goal.invariant-loop-entry
invariant-loop-entry l = l.out.items ≡ l.fn.out.items ++ flat_map (λ e. entry_text l.script e) (take l.entry-index l.entries)
