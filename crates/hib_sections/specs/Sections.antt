-- What the sections of bulk lines and of places have in common.
use Rattle.std.specs.Prelude.{ℕ, List, [], ◌∷◌, map, Option, Some, None, Result, Ok, Err}
use Rattle.hib_base.specs.declared.refusals.Kind.{Kind}
use Rattle.hib_base.specs.declared.refusals.Refused.{Refused}
use Rattle.hib_base.specs.declared.scripts.SessionDef.{SessionDef}
use Rattle.hib_lex.specs.declared.lexer.Token.{Token}

-- who is named in a line, without statements
abbrev pub actor : List ℕ → SessionDef
actor name = record { name = name; statements = [] }

abbrev pub names : List SessionDef → List SessionDef
names sessions = map (λ s. actor s.name) sessions

-- a line of one token
abbrev pub alone : {A : Type 0} → List Token → A → Result A Kind
alone (t ∷ []) r = Ok r
alone _ r = Err Kind.Words

-- what is wrong with the line of this number
abbrev pub at_line : {A : Type 0} → ℕ → Result A Kind → Result A Refused
at_line n (Err k) = Err (record { line = n; kind = k })
at_line n (Ok r) = Ok r

-- what is wrong with the script comes first
abbrev pub unless_before : {A : Type 0} → Option Refused → Result A Refused → Result A Refused
unless_before (Some x) r = Err x
unless_before None r = r
