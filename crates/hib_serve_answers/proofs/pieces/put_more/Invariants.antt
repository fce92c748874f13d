use Rattle.std.proofs.Common.{◌≡◌, ◌++◌, take}
use Rattle.hib_serve_answers.specs.Pieces.{more_entries}
use Rattle.hib_serve_answers.proofs.pieces.put_more.Given as goal

abbrev pub invariant-loop-entry : goal.invariant-loop-entry
invariant-loop-entry l = l.out.items ≡ l.fn.out.items ++ more_entries l.script (take l.entry-index l.entries)
