use Rattle.std.proofs.Common.{◌≡◌, drop, Ok}
use Rattle.hib_script.specs.Drafts.{reader_of}
use Rattle.hib_script.specs.Script.{reading}
use Rattle.hib_script.proofs.reader.take_lines.Given as goal

abbrev pub invariant-loop-i : goal.invariant-loop-i
invariant-loop-i l = reading (Ok (reader_of l.draft)) (drop l.i l.lines) ≡ reading (Ok (reader_of l.initial.draft)) l.lines
