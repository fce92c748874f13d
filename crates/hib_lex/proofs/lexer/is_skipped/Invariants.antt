use Rattle.std.proofs.Common.{◌≡◌, drop}
use Rattle.hib_lex.specs.Tokens as lines
use Rattle.hib_lex.proofs.lexer.is_skipped.Given as goal

abbrev pub invariant-loop-byte : goal.invariant-loop-byte
invariant-loop-byte l = lines.is_blank (drop l.byte-index l.line) ≡ lines.is_blank l.line
