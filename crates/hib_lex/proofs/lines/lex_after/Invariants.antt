use Rattle.std.proofs.Common.{◌≡◌, ◌+◌, ◌-◌, ◌≤◌, length, drop, Ok}
use Rattle.hib_lex.specs.Lines.{lines_of, lex_after, lexing}
use Rattle.hib_lex.proofs.lines.lex_after.Given as goal

abbrev pub decreases-loop-start : goal.decreases-loop-start
decreases-loop-start l = length l.text - l.start

abbrev pub invariant-loop-start : goal.invariant-loop-start
invariant-loop-start l = record {
  read : lexing (Ok l.done) (lines_of (drop l.start l.text)) ≡ lex_after l.before l.text;
  few : l.done.count ≤ l.before + l.start;
  within : l.start ≤ length l.text + 1;
}
