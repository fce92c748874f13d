use Rattle.std.proofs.Common.{◌≡◌, [], true, false, take}
use Rattle.hib_base.specs.Tables.{in_order}
use Rattle.hib_journal.specs.Sessions.{committed}
use Rattle.hib_order_law.specs.Orders.{onto}
use Rattle.hib_order_judge.specs.Dossiers.{AreDossiers}
use Rattle.hib_order_judge.specs.Verdicts.{verdicts}
use Rattle.hib_order_judge.proofs.judging.judge_entries.Given as goal

abbrev pub invariant-loop-place : goal.invariant-loop-place
invariant-loop-place l = record {
  rows : l.rows ≡ committed l.fn.start (onto (take l.place l.entries) []);
  ordered : in_order l.rows ≡ true;
  dossiers : AreDossiers l.entries (onto (take l.place l.entries) []) l.dossiers.all.items;
  verdicts : l.verdicts ≡ record (verdicts l.script l.fn.start (onto (take l.place l.entries) [])) { unsound_key = false };
}
