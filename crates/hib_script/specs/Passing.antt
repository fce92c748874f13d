-- What a text comes to that is read line by line, from a place on. Only clauses of private functions name this.
use Rattle.std.specs.Prelude.{ℕ, List, Option, option_to_list, Result, Ok, Err}
use Rattle.hib_base.specs.declared.refusals.Refused.{Refused}
use Rattle.hib_lex.specs.Lines.{lexing}
use Rattle.hib_lex.specs.declared.lines.Line.{Line}
use Rattle.hib_lex.specs.declared.lines.Lines.{Lines}
use Rattle.hib_script.specs.Lines.{Reader}
use Rattle.hib_script.specs.Outline.{Outline}
use Rattle.hib_script.specs.Script.{reading, ended}

-- lines that are read after what was read before
abbrev pub read_on : Reader → Result Lines Refused → Result Outline Refused
read_on r (Err x) = Err x
read_on r (Ok lines) = ended lines.count (reading (Ok r) lines.lines)

-- what the lines that are left come to, after n lines. The last of these that says something isn't taken yet
abbrev pub come_to : Reader → Option Line → ℕ → List (List ℕ) → Result Outline Refused
come_to r last n ls = read_on r (lexing (Ok (record { lines = option_to_list last; count = n })) ls)

-- a line that is taken has this fault: it is told, unless bytes, length or tokens of a line that is left are bad
abbrev pub unless_bad : Refused → Result Lines Refused → Result Outline Refused
unless_bad x (Err y) = Err y
unless_bad x (Ok lines) = Err x
