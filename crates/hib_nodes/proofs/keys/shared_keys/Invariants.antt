use Rattle.std.proofs.Common.{◌≡◌, take}
use Rattle.std.specs.List.{filter}
use Rattle.hib_journal.specs.Next.{strategy}
use Rattle.hib_nodes_law.specs.Nodes.{is_read_write}
use Rattle.hib_nodes.proofs.keys.shared_keys.Given as goal

-- of the keys so far those of read-write regions
abbrev pub invariant-loop-key : goal.invariant-loop-key
invariant-loop-key l = l.shared.items ≡ filter (λ k. is_read_write (strategy l.script k.entity)) (take l.key-index l.key-items)
