use Rattle.std.proofs.Common.{◌≡◌, true, take}
use Rattle.std.specs.List.{list_all}
use Rattle.hib_merge.specs.Tearing.{is_known}
use Rattle.hib_merge.proofs.agreeing.first_unknown.Given as goal

abbrev pub invariant-loop-entry : goal.invariant-loop-entry
invariant-loop-entry l = list_all (is_known l.count) (take l.entry-index l.entries) ≡ true
