-- The input of a command with a section: the lines of a script, a line that is exactly a word, and the section's lines.
use Rattle.std.specs.Prelude.{◌≡◌, ℕ, ◌+◌, List, length, Option, Some, None, Result, Ok, Err}
use Rattle.hib_base.specs.declared.refusals.Kind.{Kind}
use Rattle.hib_base.specs.declared.refusals.Refused.{Refused}
use Rattle.hib_lex.specs.Lines.{lines_of}
use Rattle.hib_lex.specs.declared.lines.Lines.{Lines}
use Rattle.hib_script.specs.Outline.{Outline}
use Rattle.hib_script.specs.Script.{script_in}
use Rattle.hib_input.specs.Cut.{TextLines, cut, lexed, script_of_lines, unmarked}

-- the lines of the script and the script that they are, and the lines of the section. Lines have their numbers in the whole text,
-- and those of the section are counted with all before them
pub record Sectioned : Type 0 where
  pub before : Lines
  pub script : Outline
  pub behind : Lines

abbrev pub if_script : Lines → Lines → Result Outline Refused → Result Sectioned Refused
if_script before behind (Err r) = Err r
if_script before behind (Ok script) = Ok (record { before = before; script = script; behind = behind })

abbrev pub if_behind : Lines → Result Lines Refused → Result Sectioned Refused
if_behind before (Err r) = Err r
if_behind before (Ok behind) = if_script before behind (script_in (Ok before))

-- bytes, length and tokens of all lines come before the rules of a script
abbrev pub if_before : Result Lines Refused → Result Lines Refused → Result Sectioned Refused
if_before (Err r) behind = Err r
if_before (Ok before) behind = if_behind before behind

abbrev pub sectioned : TextLines → TextLines → Result Sectioned Refused
sectioned before behind = if_before (lexed 0 before) (lexed (length before + 1) behind)

abbrev pub section_in : TextLines → Option (TextLines × TextLines) → Result Sectioned Refused
section_in ls None = Err (unmarked Kind.Section (length ls) (script_of_lines ls))
section_in ls (Some c) = sectioned c.0 c.1

-- what a text says with the section that begins after this word; or its first bad line
abbrev pub section_of : List ℕ → List ℕ → Result Sectioned Refused
section_of word text = section_in (lines_of text) (cut word (lines_of text))
