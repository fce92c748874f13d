-- Where a line cuts a text in two.
use Rattle.std.specs.Prelude.{◌≡◌, ℕ, Bool, if◌then◌else◌, List, [], ◌∷◌, bytes_eq, Option, Some, None, option_map, Result, Ok, Err}
use Rattle.hib_base.specs.declared.refusals.Kind.{Kind}
use Rattle.hib_base.specs.declared.refusals.Refused.{Refused}
use Rattle.hib_lex.specs.Lines.{lexing}
use Rattle.hib_lex.specs.declared.lines.Lines.{Lines}
use Rattle.hib_script.specs.Outline.{Outline}
use Rattle.hib_script.specs.Script.{script_in}
use Rattle.hib_script.specs.declared.errors.ScriptError.{ScriptError}

abbrev pub TextLines : Type 0
TextLines = List (List ℕ)

-- a line is exactly this word
abbrev pub is_mark : List ℕ → List ℕ → Bool
is_mark word line = bytes_eq line word

abbrev pub with_first : List ℕ → TextLines × TextLines → TextLines × TextLines
with_first l c = (l ∷ c.0, c.1)

-- the lines before the first such line, and those after it
abbrev pub cut : List ℕ → TextLines → Option (TextLines × TextLines)
cut word [] = None
cut word (l ∷ ls) = if is_mark word l then Some ([], ls) else option_map (with_first l) (cut word ls)

-- lines that come after so many others, with their tokens; or the first bad one
abbrev pub lexed : ℕ → TextLines → Result Lines Refused
lexed n ls = lexing (Ok (record { lines = []; count = n })) ls

-- the script that lines are, or the first bad one; the rules of a script see no other lines
abbrev pub script_of_lines : TextLines → Result Outline Refused
script_of_lines ls = script_in (lexed 0 ls)

-- the first bad line where no line is the word: all lines are the script, and one is missing after them
abbrev pub unmarked : Kind → ℕ → Result Outline Refused → Refused
unmarked kind n (Err r) = r
unmarked kind n (Ok said) = record { line = n; kind = kind }

-- an error says this, or that memory ran out
abbrev pub IsFault : Refused → ScriptError → Type 0
IsFault r ScriptError.NoMemory = Unit {0}
IsFault r (ScriptError.Refused x) = x ≡ r
