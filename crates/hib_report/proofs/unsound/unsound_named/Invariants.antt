use Rattle.std.proofs.Common.{◌≡◌, not, reverse, take}
use Rattle.std.specs.List.{filter}
use Rattle.hib_journal.specs.Sessions.{Journal}
use Rattle.hib_journal.specs.Sound.{is_sound}
use Rattle.hib_report.specs.Unsound.{keys_in}
use Rattle.hib_report.specs.Watch.{Watches}
use Rattle.hib_report.proofs.unsound.unsound_named.Given as goal

-- of the keys that the entries so far name
abbrev pub invariant-loop-entry : goal.invariant-loop-entry
invariant-loop-entry l =
    (past : Journal) → Watches l.watch.courses.entries l.watch.written.entries past
    → l.keys.keys ≡ filter (λ k. not (is_sound k past)) (keys_in l.script (reverse (take l.entry-index l.entries)))
