use Rattle.std.proofs.Common.{◌≡◌, ◌++◌, take}
use Rattle.hib_report.specs.Lines.{lines_text}
use Rattle.hib_report.proofs.lines.put_lines.Given as goal

abbrev pub invariant-loop-entry : goal.invariant-loop-entry
invariant-loop-entry l = l.out.items ≡ l.fn.out.items ++ lines_text l.script (take l.entry-index l.entries)
