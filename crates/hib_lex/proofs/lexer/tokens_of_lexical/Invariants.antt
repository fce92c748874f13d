use Rattle.std.proofs.Common.{◌≡◌, ◌-◌, ◌≤◌, [], length, drop}
use Rattle.hib_lex.specs.Parts.{between}
use Rattle.hib_lex.proofs.lexer.tokens_of_lexical.Given as goal

-- what is left is read with the tokens so far as the line is
abbrev pub invariant-loop-at : goal.invariant-loop-at
invariant-loop-at l = record {
  inside : l.at ≤ length l.line;
  read : between [] l.line ≡ between l.tokens (drop l.at l.line);
}

abbrev pub decreases-loop-at : goal.decreases-loop-at
decreases-loop-at l = length l.line - l.at
