-- The line of a session, by its second token.
use Rattle.std.proofs.Common.{◌≡◌, ◌<◌, ◌≤◌, cond, List, [], ◌∷◌, length, get_or, Err, refl, arith}
use Rattle.hib_base.specs.declared.refusals.Kind.{Kind}
use Rattle.hib_lex.specs.declared.lexer.Token.{Token}
use Rattle.hib_mapping.specs.Parts.{is_a_word, word_of}
use Rattle.hib_script.specs.Lines.{Reader, session_line, new_session}

pub named_by : (r : Reader) (ts : List Token) (n : Token) → 2 ≤ length ts → length ts < 3 →
    session_line r ts ≡ cond (is_a_word (get_or ts 1 n)) (new_session r (word_of (get_or ts 1 n))) (Err Kind.Words)
named_by r [] n h k = absurd (omega arith)
named_by r (a ∷ []) n h k = absurd (omega arith)
named_by r (a ∷ b ∷ []) n h k = refl
named_by r (a ∷ b ∷ c ∷ ts) n h k = absurd (omega arith)
