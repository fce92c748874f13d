use Rattle.std.proofs.Common.{◌≡◌, ◌+◌, drop}
use Rattle.hib_lex.specs.Parts as parts
use Rattle.hib_lex.proofs.lexer.plain_length.Given as goal

abbrev pub invariant-loop-i : goal.invariant-loop-i
invariant-loop-i l = parts.plain_length l.bytes ≡ l.i + parts.plain_length (drop l.i l.bytes)
