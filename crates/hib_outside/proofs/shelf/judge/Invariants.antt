use Rattle.std.proofs.Common.{◌≡◌, take, drop}
use Rattle.hib_base.specs.Tables.{after_changes}
use Rattle.hib_outside.specs.Lasts.{HasLasts}
use Rattle.hib_outside.specs.Verdicts.{verdict}
use Rattle.hib_outside.proofs.shelf.judge.Given as goal

-- what is answered to the rest, after the changes so far, is what is answered to all
abbrev pub invariant-loop-at : goal.invariant-loop-at
invariant-loop-at l = record {
  verdict : verdict l.rows l.batch 0 ≡ verdict (after_changes (take l.at l.batch) l.rows) (drop l.at l.batch) l.at;
  lasts : HasLasts l.batch l.at l.lasts.entries;
}
