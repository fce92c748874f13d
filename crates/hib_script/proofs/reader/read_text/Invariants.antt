use Rattle.std.proofs.Common.{◌≡◌, ◌-◌, ◌≤◌, length, drop}
use Rattle.hib_lex.specs.Lines.{lines_of}
use Rattle.hib_script.specs.Drafts.{reader_of}
use Rattle.hib_script.specs.Passing.{come_to}
use Rattle.hib_script.specs.Script.{script_of}
use Rattle.hib_script.proofs.reader.read_text.Given as goal

abbrev pub decreases-loop-at : goal.decreases-loop-at
decreases-loop-at l = length l.text - l.at

abbrev pub invariant-loop-at : goal.invariant-loop-at
invariant-loop-at l = record {
  so_far : come_to (reader_of l.draft) l.last l.count (lines_of (drop l.at l.text)) ≡ script_of l.text;
  within : l.at ≤ length l.text;
  few : l.count ≤ l.at;
}
