-- The statement that a line is, or the first thing that is wrong with it.
use Rattle.std.specs.Prelude.{◌≡◌, ℕ, if◌then◌else◌, ◌==◌, List, [], ◌∷◌, length, map, Option, Some, None, option_and_then, position, codes, bytes_eq, Result, Ok, Err}
use Rattle.hib_base.specs.declared.numbers.Key.{Key}
use Rattle.hib_base.specs.declared.refusals.Kind.{Kind}
use Rattle.hib_base.specs.declared.rows.Cell.{Cell}
use Rattle.hib_base.specs.declared.scripts.ColumnDef.{ColumnDef}
use Rattle.hib_base.specs.declared.scripts.EntityDef.{EntityDef}
use Rattle.hib_base.specs.declared.scripts.Mode.{Mode}
use Rattle.hib_base.specs.declared.scripts.Query.{Query}
use Rattle.hib_base.specs.declared.scripts.Statement.{Statement}
use Rattle.hib_lex.specs.Words.{begins, is_the_word}
use Rattle.hib_lex.specs.declared.lexer.Token.{Token}
use Rattle.hib_mapping.specs.Parts.{is_a_word, word_of, entity_at, small}
use Rattle.hib_columns.specs.Columns.{columns_of}
use Rattle.hib_statements.specs.Parts.{is_key, key_of, cells_of, are_typed, pairs_of}
use Rattle.hib_statements.specs.declared.errors.StatementError.{StatementError}
use Rattle.hib_statements.specs.declared.parts.Pairs.{Pairs}

-- ---- find ENTITY ID, remove ENTITY ID
abbrev pub found : Result Key Kind → Result Statement Kind
found (Ok key) = Ok (Statement.Find key)
found (Err k) = Err k

abbrev pub find_of : List EntityDef → List Token → Result Statement Kind
find_of m (first ∷ name ∷ id ∷ []) = if is_key name id then found (key_of m name id) else Err Kind.Words
find_of m _ = Err Kind.Words

abbrev pub removed : Result Key Kind → Result Statement Kind
removed (Ok key) = Ok (Statement.Remove key)
removed (Err k) = Err k

abbrev pub remove_of : List EntityDef → List Token → Result Statement Kind
remove_of m (first ∷ name ∷ id ∷ []) = if is_key name id then removed (key_of m name id) else Err Kind.Words
remove_of m _ = Err Kind.Words

-- ---- persist ENTITY ID CELL ..
abbrev pub fitted : List ColumnDef → Key → List Cell → Result Statement Kind
fitted ds key cs =
    if length ds == length cs then (if are_typed ds cs then Ok (Statement.Persist key cs) else Err Kind.CellType) else Err Kind.Cells

abbrev pub persisted : List ColumnDef → Result Key Kind → Option (List Cell) → Result Statement Kind
persisted ds key None = Err Kind.Words
persisted ds (Err k) (Some cs) = Err k
persisted ds (Ok key) (Some cs) = fitted ds key cs

abbrev pub named_columns : List EntityDef → Token → List ColumnDef
named_columns m name = columns_of m (entity_at m (word_of name))

abbrev pub persist_parts : List EntityDef → Token → Token → List Token → Result Statement Kind
persist_parts m name id cells =
    if is_key name id then persisted (named_columns m name) (key_of m name id) (cells_of cells) else Err Kind.Words

abbrev pub persist_of : List EntityDef → List Token → Result Statement Kind
persist_of m (first ∷ name ∷ id ∷ cells) = persist_parts m name id cells
persist_of m _ = Err Kind.Words

-- ---- set ENTITY ID COL CELL ..
abbrev pub set_at : Result Key Kind → Pairs → Result Statement Kind
set_at (Err k) p = Err k
set_at (Ok key) p = if p.mistyped then Err Kind.CellType else Ok (Statement.Set key p.sets)

abbrev pub set_from : Result Key Kind → Option Pairs → Result Statement Kind
set_from key None = Err Kind.Words
set_from key (Some p) = if p.taken then Err Kind.Taken else (if p.unknown then Err Kind.Unknown else set_at key p)

-- of an unknown entity no column is known
abbrev pub set_parts : List EntityDef → Token → Token → List Token → Result Statement Kind
set_parts m name id pairs =
    if is_key name id then set_from (key_of m name id) (pairs_of (named_columns m name) pairs) else Err Kind.Words

abbrev pub set_of : List EntityDef → List Token → Result Statement Kind
set_of m (first ∷ name ∷ id ∷ pairs) = set_parts m name id pairs
set_of m _ = Err Kind.Words

-- ---- list QUERY
abbrev pub names_of : List Query → List (List ℕ)
names_of qs = map (λ q. q.name) qs

-- the query of a name, by its place among the names of the queries
abbrev pub query_at : List (List ℕ) → List ℕ → Option ℕ
query_at names w = option_and_then small (position (λ v. bytes_eq v w) names)

abbrev pub listed : Option ℕ → Result Statement Kind
listed None = Err Kind.Unknown
listed (Some n) = Ok (Statement.List n)

abbrev pub list_of : List (List ℕ) → List Token → Result Statement Kind
list_of names (first ∷ name ∷ []) = if is_a_word name then listed (query_at names (word_of name)) else Err Kind.Words
list_of names _ = Err Kind.Words

-- ---- mode M
abbrev pub mode_named : Token → Result Statement Kind
mode_named t =
    if is_the_word (codes "normal") t then Ok (Statement.Mode Mode.Normal)
    else (if is_the_word (codes "ignore") t then Ok (Statement.Mode Mode.Ignore)
    else (if is_the_word (codes "get") t then Ok (Statement.Mode Mode.Get)
    else (if is_the_word (codes "put") t then Ok (Statement.Mode Mode.Put) else Err Kind.Unknown)))

abbrev pub mode_of : List Token → Result Statement Kind
mode_of (first ∷ mode ∷ []) = if is_a_word mode then mode_named mode else Err Kind.Words
mode_of _ = Err Kind.Words

-- ---- flush, clear, commit, rollback
abbrev pub alone : Statement → List Token → Result Statement Kind
alone s (first ∷ []) = Ok s
alone s _ = Err Kind.Words

-- the statements that list no cells
abbrev pub plain_of : List EntityDef → List (List ℕ) → List Token → Result Statement Kind
plain_of m names ts =
    if begins (codes "find") ts then find_of m ts
    else (if begins (codes "remove") ts then remove_of m ts
    else (if begins (codes "list") ts then list_of names ts
    else (if begins (codes "mode") ts then mode_of ts
    else (if begins (codes "flush") ts then alone Statement.Flush ts
    else (if begins (codes "clear") ts then alone Statement.Clear ts
    else (if begins (codes "commit") ts then alone Statement.Commit ts
    else (if begins (codes "rollback") ts then alone Statement.Rollback ts else Err Kind.Line)))))))

-- the statement that a line is, by its first word, over a mapping and the names of the queries
abbrev pub statement_of : List EntityDef → List (List ℕ) → List Token → Result Statement Kind
statement_of m names ts =
    if begins (codes "persist") ts then persist_of m ts
    else (if begins (codes "set") ts then set_of m ts else plain_of m names ts)

-- what an error says; want of memory says nothing
abbrev pub IsWhy : Result Statement Kind → StatementError → Type 0
IsWhy r StatementError.NoMemory = Unit {0}
IsWhy r (StatementError.Fault k) = r ≡ Err k
