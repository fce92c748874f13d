-- What the steps of the printer add.
use Rattle.std.specs.Prelude.{◌≡◌, Bool, true, List, [], ◌∷◌, ◌++◌}
use Rattle.hib_lex.specs.declared.lexer.Token.{Token}
use Rattle.hib_print.specs.Spelling.{is_left, text_from, lines_text}
use Rattle.hib_print.specs.declared.printer.Printer.{Printer}

-- whether the last token is an opening parenthesis
abbrev pub glued_by : Bool → List Token → Bool
glued_by glued [] = glued
glued_by glued (t ∷ ts) = glued_by (is_left t) ts

-- tokens were added
pub record Adds (before now : Printer) (ts : List Token) : Type 0 where
  pub text : now.text.items ≡ before.text.items ++ text_from before.glued ts
  pub glued : now.glued ≡ glued_by before.glued ts

-- whole lines were added, and the next one begins
pub record Ends (before now : Printer) (ls : List (List Token)) : Type 0 where
  pub text : now.text.items ≡ before.text.items ++ lines_text ls
  pub glued : now.glued ≡ true

-- so it is where a line began
abbrev pub AddsLines : Printer → Printer → List (List Token) → Type 0
AddsLines before now ls = before.glued ≡ true → Ends before now ls
