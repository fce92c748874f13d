-- The orders that stand in a script before a section.
use Rattle.std.specs.Prelude.{ℕ, Bool, if◌then◌else◌, not, ◌||◌, List, [], ◌∷◌, codes, Option}
use Rattle.std.specs.List.{find}
use Rattle.std.specs.Option.{option_map}
use Rattle.hib_lex.specs.Words.{begins}
use Rattle.hib_lex.specs.declared.lines.Line.{Line}

-- the lines after `schedule`
abbrev pub scheduled : List Line → List Line
scheduled [] = []
scheduled (l ∷ ls) = if begins (codes "schedule") l.tokens then ls else scheduled ls

-- an order other than `run`
abbrev pub is_other : Line → Bool
is_other l = not (begins (codes "run") l.tokens || begins (codes "end") l.tokens)

-- the number of the first such line
abbrev pub first_other : List Line → Option ℕ
first_other ls = option_map (λ l. l.line) (find is_other ls)

abbrev pub other_order : List Line → Option ℕ
other_order ls = first_other (scheduled ls)
