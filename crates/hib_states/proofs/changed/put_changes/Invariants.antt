use Rattle.std.specs.Prelude.{flat_map, option_and_then}
use Rattle.std.specs.Borrow.{Bor}
use Rattle.std.proofs.Common.{◌≡◌, ◌++◌, take}
use Rattle.hib_base.specs.Tables.{key_of, row_left}
use Rattle.hib_follow.specs.Desks.{last_at}
use Rattle.hib_journal.specs.Types.{Change}
use Rattle.hib_states.specs.Facts.{Fact}
use Rattle.hib_states.specs.Texts.{fact_line}
use Rattle.hib_states.proofs.changed.put_changes.Given as goal

abbrev pub invariant-loop-change : goal.invariant-loop-change
invariant-loop-change l =
    l.out.items ≡ l.fn.out.items ++ flat_map (λ (c : Bor Change). fact_line l.script l.number (Fact.Committed (key_of c.now)
    (option_and_then row_left (last_at l.entries l.desk.last.entries (key_of c.now))))) (take l.change-index l.change-items)
