-- The lines of a text, their tokens, and the first bad one.
use Rattle.std.specs.Prelude.{◌≡◌, ℕ, suc, ◌+◌, List, [], ◌∷◌, ◌++◌, length, if◌then◌else◌, ◌==◌, nat_le, Option, Some, None, Result, Ok, Err}
use Rattle.std.specs.List.{list_all}
use Rattle.hib_base.specs.Fits.{is_printable}
use Rattle.hib_base.specs.declared.refusals.Kind.{Kind}
use Rattle.hib_base.specs.declared.refusals.Refused.{Refused}
use Rattle.hib_lex.specs.Tokens.{is_blank, max_line, tokens_of}
use Rattle.hib_lex.specs.declared.lexer.Token.{Token}
use Rattle.hib_lex.specs.declared.lines.Content.{Content}
use Rattle.hib_lex.specs.declared.lines.Line.{Line}
use Rattle.hib_lex.specs.declared.lines.Lines.{Lines}
use Rattle.hib_lex.specs.declared.errors.LexError.{LexError}

-- ---- the lines of a text
abbrev pub line_feed : ℕ
line_feed = 10

-- a byte before the first of some lines
abbrev pub before_lines : ℕ → List (List ℕ) → List (List ℕ)
before_lines b [] = (b ∷ []) ∷ []
before_lines b (l ∷ ls) = (b ∷ l) ∷ ls

-- the lines of a text, without their line ends; the last line end may be missing
abbrev pub lines_of : List ℕ → List (List ℕ)
lines_of [] = []
lines_of (b ∷ bs) = if b == line_feed then [] ∷ lines_of bs else before_lines b (lines_of bs)

-- how many bytes stand before the first line end, or in all
abbrev pub line_length : List ℕ → ℕ
line_length [] = 0
line_length (b ∷ bs) = if b == line_feed then 0 else suc (line_length bs)

-- ---- what a line holds
abbrev pub tokens_or_bad : Option (List Token) → Content
tokens_or_bad None = Content.Bad Kind.Token
tokens_or_bad (Some ts) = Content.Tokens ts

-- a line that is skipped has to be printable and short too
abbrev pub content_of : List ℕ → Content
content_of line =
    if list_all is_printable line
    then (if nat_le (length line) 4096
    then (if is_blank line then Content.Nothing else tokens_or_bad (tokens_of line))
    else Content.Bad Kind.Long)
    else Content.Bad Kind.Byte

-- the line of this number that holds such a thing; none if it is skipped
abbrev pub line_with : ℕ → Content → Result (Option Line) Refused
line_with n Content.Nothing = Ok None
line_with n (Content.Tokens ts) = Ok (Some (record { line = n; tokens = ts }))
line_with n (Content.Bad kind) = Err (record { line = n; kind = kind })

abbrev pub line_of : ℕ → List ℕ → Result (Option Line) Refused
line_of n line = line_with n (content_of line)

-- ---- the lines with one more; it has the number after those so far
abbrev pub with_said : Lines → Result (Option Line) Refused → Result Lines Refused
with_said done (Ok None) = Ok (record done { count = done.count + 1 })
with_said done (Ok (Some l)) = Ok (record { lines = done.lines ++ l ∷ []; count = done.count + 1 })
with_said done (Err r) = Err r

abbrev pub with_line : Lines → List ℕ → Result Lines Refused
with_line done line = with_said done (line_of (done.count + 1) line)

-- the lines that are left after those so far; the first bad one ends it
abbrev pub lexing : Result Lines Refused → List (List ℕ) → Result Lines Refused
lexing (Err r) ls = Err r
lexing (Ok done) [] = Ok done
lexing (Ok done) (l ∷ ls) = lexing (with_line done l) ls

-- the lines of a text that say something, with their tokens, or the first bad line. Other lines stand before it, so many that its
-- first one has the next number
abbrev pub lex_after : ℕ → List ℕ → Result Lines Refused
lex_after n text = lexing (Ok (record { lines = []; count = n })) (lines_of text)

-- the same of a text before which there is none
abbrev pub lex_of : List ℕ → Result Lines Refused
lex_of text = lex_after 0 text

-- the first bad line is the one that is refused; want of memory says nothing
abbrev pub IsWhere : {A : Type 0} → Result A Refused → LexError → Type 0
IsWhere r LexError.NoMemory = Unit {0}
IsWhere r (LexError.Refused x) = r ≡ Err x
