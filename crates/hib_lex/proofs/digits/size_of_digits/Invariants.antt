use Rattle.std.proofs.Common.{◌≡◌, ◌<◌, ◌^◌, drop}
use Rattle.hib_lex.specs.Tokens as lines
use Rattle.hib_lex.proofs.digits.size_of_digits.Given as goal

abbrev pub invariant-loop-digit : goal.invariant-loop-digit
invariant-loop-digit l = record {
  sum : lines.size_after l.size (drop l.digit-index l.digits) ≡ lines.size_of l.digits;
  fits : l.size < 2 ^ 64;
}
