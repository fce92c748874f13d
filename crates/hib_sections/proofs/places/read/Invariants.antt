use Rattle.std.proofs.Common.{◌≡◌, drop, Ok}
use Rattle.hib_sections.specs.Places.{read_of, reading, start}
use Rattle.hib_sections.proofs.places.read.Given as goal

abbrev pub invariant-loop-line : goal.invariant-loop-line
invariant-loop-line l = reading l.mapping l.named (Ok (read_of l.reading)) (drop l.line-index l.lines) ≡ reading l.mapping l.named (Ok start) l.lines
