use Rattle.std.specs.Prelude.{flat_map}
use Rattle.std.proofs.Common.{◌≡◌, ◌++◌, take}
use Rattle.hib_follow.specs.Marks.{value_at}
use Rattle.hib_states.specs.Facts.{Fact}
use Rattle.hib_states.specs.Texts.{fact_line}
use Rattle.hib_states.proofs.changed.put_stamps.Given as goal

abbrev pub invariant-loop-table : goal.invariant-loop-table
invariant-loop-table l =
    l.out.items ≡ l.fn.out.items ++ flat_map (λ t. fact_line l.script l.number (Fact.Stamped t (value_at l.stamps.stamps.entries t))) (take l.table-index l.tables)
