use Rattle.std.proofs.Common.{◌≡◌, ◌++◌, drop}
use Rattle.std.specs.Map.{keys_of as keys_in}
use Rattle.hib_journal.specs.Next.{keys_of}
use Rattle.hib_completion.proofs.Keys.{less}
use Rattle.hib_nodes.proofs.keys.changed_keys.Given as goal

-- the keys so far, and those of the rest that are not among them
abbrev pub invariant-loop-place : goal.invariant-loop-place
invariant-loop-place l = keys_in l.keys.entries ++ less (keys_in l.keys.entries) (keys_of (drop l.place l.changes)) ≡ keys_of l.changes
