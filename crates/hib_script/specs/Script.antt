-- The script of a text, or its first bad line.
use Rattle.std.specs.Prelude.{◌≡◌, ℕ, Bool, false, List, [], ◌∷◌, None, codes, Result, Ok, Err}
use Rattle.hib_base.specs.declared.refusals.Kind.{Kind}
use Rattle.hib_base.specs.declared.refusals.Refused.{Refused}
use Rattle.hib_lex.specs.Lines.{lex_of}
use Rattle.hib_lex.specs.Words.{begins}
use Rattle.hib_lex.specs.declared.lines.Line.{Line}
use Rattle.hib_lex.specs.declared.lines.Lines.{Lines}
use Rattle.hib_script.specs.Lines.{Reader, After, after_line, closed}
use Rattle.hib_script.specs.Outline.{Outline}
use Rattle.hib_script.specs.declared.errors.ScriptError.{ScriptError}
use Rattle.hib_script.specs.declared.places.Place.{Place}

-- ---- line by line
abbrev pub refused_at : ℕ → Kind → Refused
refused_at n k = record { line = n; kind = k }

abbrev pub at_line : Line → After → Result Reader Refused
at_line l (Err k) = Err (refused_at l.line k)
at_line l (Ok r) = Ok r

abbrev pub step : Reader → Bool → Line → Result Reader Refused
step r followed l = at_line l (after_line r followed l.tokens)

-- the next line is a column's
abbrev pub begins_column : List Line → Bool
begins_column [] = false
begins_column (l ∷ ls) = begins (codes "column") l.tokens

-- the lines that are left; the first bad one ends it
abbrev pub reading : Result Reader Refused → List Line → Result Reader Refused
reading (Err x) ls = Err x
reading (Ok r) [] = Ok r
reading (Ok r) (l ∷ ls) = reading (step r (begins_column ls) l) ls

-- ---- where the input may end, of so many lines
abbrev pub finished : Reader → Outline
finished r = (closed r).outline

abbrev pub ended_at : ℕ → Reader → Place → Result Outline Refused
ended_at n r Place.Start = Err (refused_at 1 Kind.Header)
ended_at n r (Place.Behind last) = Ok (finished r)
ended_at n r (Place.Session s) = Err (refused_at n Kind.NoEnd)
ended_at n r Place.Schedule = Err (refused_at n Kind.NoEnd)

abbrev pub ended : ℕ → Result Reader Refused → Result Outline Refused
ended n (Err x) = Err x
ended n (Ok r) = ended_at n r r.place

-- ---- the whole text
abbrev pub start : Reader
start = record {
  outline = record { timeout = 1000; results = 100; mapping = []; rows = []; queries = []; sessions = []; schedule = [] };
  entity = None;
  statements = 0;
  place = Place.Start;
}

abbrev pub script_in : Result Lines Refused → Result Outline Refused
script_in (Err x) = Err x
script_in (Ok lines) = ended lines.count (reading (Ok start) lines.lines)

-- what the script that a text is says, or the text's first bad line
abbrev pub script_of : List ℕ → Result Outline Refused
script_of text = script_in (lex_of text)

-- what an error of the reader says: the first bad line and the first kind that it has; want of memory says nothing
abbrev pub IsWhere : {A : Type 0} → Result A Refused → ScriptError → Type 0
IsWhere r ScriptError.NoMemory = Unit {0}
IsWhere r (ScriptError.Refused x) = r ≡ Err x
