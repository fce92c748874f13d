use Rattle.std.proofs.Common.{◌≡◌, ◌++◌, take}
use Rattle.hib_json_lines.specs.Line.{json_lines}
use Rattle.hib_json_lines.proofs.lines.put_lines.Given as goal

abbrev pub invariant-loop-entry : goal.invariant-loop-entry
invariant-loop-entry l = l.out.items ≡ l.fn.out.items ++ json_lines l.script (take l.entry-index l.entries)
