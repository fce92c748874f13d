use Rattle.std.proofs.Common.{◌+◌, ◌-◌, ◌≤◌, length}
use Rattle.hib_journal_json.proofs.Journals.{SoFar}
use Rattle.hib_journal_json.proofs.journal.read_named.Given as goal

abbrev pub decreases-loop-start : goal.decreases-loop-start
decreases-loop-start l = length l.text - l.start

abbrev pub invariant-loop-start : goal.invariant-loop-start
invariant-loop-start l = record {
  read : SoFar l.script l.text l.start l.journal.list;
  within : l.start ≤ length l.text + 1;
}
