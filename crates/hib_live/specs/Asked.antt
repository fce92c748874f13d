-- The script of what was asked so far, and how it grows.
use Rattle.std.specs.Prelude.{ℕ, zero, suc, ◌+◌, List, [], ◌∷◌, ◌++◌, codes}
use Rattle.std.specs.Fmt.{decimal}
use Rattle.hib_journal.specs.Types.{Statement, SessionDef, Script}

-- the name of session n; that of the first one is s1
abbrev pub name_of : ℕ → List ℕ
name_of n = codes "s" ++ decimal (n + 1)

-- with one session more, which has no statement
abbrev pub with_session : Script → List ℕ → Script
with_session s name = record s { sessions = s.sessions ++ record { name = name; statements = [] } ∷ [] }

-- sessions of which the one at a place has a statement more, its last
abbrev pub add_at : List SessionDef → ℕ → Statement → List SessionDef
add_at [] n st = []
add_at (d ∷ ds) zero st = record d { statements = d.statements ++ st ∷ [] } ∷ ds
add_at (d ∷ ds) (suc n) st = d ∷ add_at ds n st

-- with a statement more of session n, its last
abbrev pub with_statement : Script → ℕ → Statement → Script
with_statement s n st = record s { sessions = add_at s.sessions n st }
