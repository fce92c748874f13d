use Rattle.std.proofs.Common.{◌≡◌, ◌-◌, ◌++◌}
use Rattle.std.specs.List.{range_with_len}
use Rattle.hib_toolbox.proofs.rows.entities.Given as goal

-- the numbers so far and those that are left are all of them
abbrev pub invariant-loop-entity : goal.invariant-loop-entity
invariant-loop-entity l = l.entities.items ++ range_with_len l.entity (l.count - l.entity) ≡ range_with_len 0 l.count
