use Rattle.std.proofs.Common.{◌≡◌, ◌≤◌, ◌+◌, ◌-◌, ◌++◌, length, take}
use Rattle.std.specs.Vec.{vec_len, vec_capacity}
use Rattle.hib_nodes.proofs.queue.KeyQueue.append.Given as goal

-- the keys so far are added, and there is room for the rest
abbrev pub invariant-loop-key : goal.invariant-loop-key
invariant-loop-key l = record {
  pairs : l.self-inside.pairs.items ≡ l.fn.self.pairs ++ take l.key-index l.keys;
  taken : l.self-inside.taken ≡ l.fn.self.taken;
  room : vec_len l.self-inside.pairs + (length l.keys - l.key-index) ≤ vec_capacity l.self-inside.pairs;
}
