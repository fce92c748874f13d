use Rattle.std.proofs.Common.{◌≡◌, reverse, take}
use Rattle.hib_journal.specs.Types.{Part}
use Rattle.hib_journal.specs.Kept.{past}
use Rattle.hib_journal.specs.Lists.{of_part}
use Rattle.hib_split.proofs.gathering.own_entries.Given as goal

abbrev pub invariant-loop-entry : goal.invariant-loop-entry
invariant-loop-entry l = past l.own ≡ of_part (Part.Own l.number) (reverse (take l.entry-index l.list))
