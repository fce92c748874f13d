-- The parts of a script, and which may follow which.
use Rattle.std.specs.Prelude.{ℕ, Bool, true, false, if◌then◌else◌, ◌&&◌, ◌||◌, ◌==◌, nat_lt, List, Option, Some, None, codes}
use Rattle.hib_lex.specs.Words.{begins}
use Rattle.hib_lex.specs.declared.lexer.Token.{Token}
use Rattle.hib_script.specs.declared.places.Part.{Part}

-- the parts of a script stand in this order; entities, rows, queries and sessions may be many
abbrev pub rank : Part → ℕ
rank Part.Header = 0
rank Part.Timeout = 1
rank Part.Results = 2
rank Part.Entities = 3
rank Part.Rows = 4
rank Part.Queries = 5
rank Part.Sessions = 6
rank Part.Schedule = 7

abbrev pub repeats : Part → Bool
repeats Part.Entities = true
repeats Part.Rows = true
repeats Part.Queries = true
repeats Part.Sessions = true
repeats _ = false

abbrev pub may_follow : Part → Part → Bool
may_follow last next = nat_lt (rank last) (rank next) || (repeats next && (rank last == rank next))

-- the part that a line's first word begins
abbrev pub part_of : List Token → Option Part
part_of ts =
    if begins (codes "timeout") ts then Some Part.Timeout
    else (if begins (codes "results") ts then Some Part.Results
    else (if begins (codes "entity") ts then Some Part.Entities
    else (if begins (codes "row") ts then Some Part.Rows
    else (if begins (codes "query") ts then Some Part.Queries
    else (if begins (codes "session") ts then Some Part.Sessions
    else (if begins (codes "schedule") ts then Some Part.Schedule else None))))))
