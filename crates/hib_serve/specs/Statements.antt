-- The statement that a request's text is.
use Rattle.std.specs.Prelude.{◌≡◌, ℕ, List, Option, Some, None, Result, Ok, Err}
use Rattle.hib_base.specs.declared.refusals.Kind.{Kind}
use Rattle.hib_base.specs.declared.refusals.Refused.{Refused}
use Rattle.hib_base.specs.declared.scripts.Script.{Script}
use Rattle.hib_base.specs.declared.scripts.Statement.{Statement}
use Rattle.hib_lex.specs.Lines.{line_of}
use Rattle.hib_lex.specs.declared.lines.Line.{Line}
use Rattle.hib_statements.specs.Statements.{statement_of, names_of}
use Rattle.hib_serve_answers.specs.declared.refusals.Refusal.{Refusal}

-- a line that says nothing is no statement
abbrev pub said_in : Script → Result (Option Line) Refused → Result Statement Kind
said_in s (Err x) = Err x.kind
said_in s (Ok None) = Err Kind.Line
said_in s (Ok (Some l)) = statement_of s.mapping (names_of s.queries) l.tokens

-- the statement that a text is as a line of a session in this script, or what is wrong with it
abbrev pub statement_in : Script → List ℕ → Result Statement Kind
statement_in s text = said_in s (line_of 1 text)

-- a text is refused as a statement; want of memory says nothing
abbrev pub IsNoStatement : Result Statement Kind → Refusal → Type 0
IsNoStatement r (Refusal.Statement kind) = r ≡ Err kind
IsNoStatement r Refusal.Memory = Unit {0}
IsNoStatement r _ = ⊥
