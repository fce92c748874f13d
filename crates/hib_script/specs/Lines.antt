-- What one line adds to a script that was read so far, or the first thing that is wrong with it.
use Rattle.std.specs.Prelude.{◌≡◌, ℕ, ◌+◌, Bool, true, false, if◌then◌else◌, not, ◌&&◌, nat_lt, List, [], ◌∷◌, ◌++◌, length, Option, Some, None, codes, bytes_eq, Result, Ok, Err}
use Rattle.std.specs.List.{list_any}
use Rattle.hib_base.specs.Scripts.{are_over}
use Rattle.hib_base.specs.Valid.{max_timeout, max_results, max_rows, max_queries, max_sessions, max_statements, max_orders}
use Rattle.hib_base.specs.Words.{has_name, is_reserved}
use Rattle.hib_base.specs.declared.numbers.Key.{Key}
use Rattle.hib_base.specs.declared.refusals.Kind.{Kind}
use Rattle.hib_base.specs.declared.rows.Row.{Row}
use Rattle.hib_base.specs.declared.scripts.EntityDef.{EntityDef}
use Rattle.hib_base.specs.declared.scripts.Order.{Order}
use Rattle.hib_base.specs.declared.scripts.SessionDef.{SessionDef}
use Rattle.hib_base.specs.declared.scripts.Statement.{Statement}
use Rattle.hib_lex.specs.Words.{is_the_word, begins}
use Rattle.hib_lex.specs.declared.lexer.Token.{Token}
use Rattle.hib_mapping.specs.Declarations.{is_entity_line, entity_kind, entity_of, is_column_line, column_kind, with_column}
use Rattle.hib_mapping.specs.Parts.{is_a_word, is_a_number, word_of, is_within, number_up_to}
pub use Rattle.hib_mapping.specs.Parts.{name_in}
use Rattle.hib_criteria.specs.Query.{Said, query_of}
use Rattle.hib_statements.specs.Statements.{statement_of}
use Rattle.hib_statements.specs.Rows.{row_of}
use Rattle.hib_statements.specs.Orders.{order_of}
use Rattle.hib_script.specs.Outline.{Outline, query_names}
use Rattle.hib_script.specs.Places.{may_follow, part_of}
use Rattle.hib_script.specs.declared.errors.LineError.{LineError}
use Rattle.hib_script.specs.declared.places.Part.{Part}
use Rattle.hib_script.specs.declared.places.Place.{Place}

-- a script as far as it was read
pub record Reader : Type 0 where
  -- what is finished
  pub outline : Outline
  -- the entity whose columns are read
  pub entity : Option EntityDef
  -- the statements of all sessions so far
  pub statements : ℕ
  pub place : Place

-- what a line leaves
abbrev pub After : Type 0
After = Result Reader Kind

abbrev pub at : Place → Reader → Reader
at p r = record r { place = p }

abbrev pub behind : Part → Reader → Reader
behind p r = at (Place.Behind p) r

-- a line of one word
abbrev pub is_alone : List Token → Bool
is_alone (first ∷ []) = true
is_alone _ = false

-- ---- hib 1
abbrev pub is_header : List Token → Bool
is_header (first ∷ version ∷ []) = is_the_word (codes "hib") first && is_within 1 1 version
is_header _ = false

abbrev pub header_line : Reader → List Token → After
header_line r ts = if is_header ts then Ok (behind Part.Header r) else Err Kind.Header

-- ---- timeout N, results N
-- a number from 1 on
abbrev pub number_within : ℕ → Token → Result ℕ Kind
number_within most n =
    if is_a_number n then (if is_within 1 most n then Ok (number_up_to most n) else Err Kind.Number) else Err Kind.Words

abbrev pub number_line : ℕ → List Token → Result ℕ Kind
number_line most (first ∷ n ∷ []) = number_within most n
number_line most _ = Err Kind.Words

abbrev pub with_timeout : Reader → Result ℕ Kind → After
with_timeout r (Err k) = Err k
with_timeout r (Ok n) = Ok (behind Part.Timeout (record r { outline = record r.outline { timeout = n } }))

abbrev pub with_results : Reader → Result ℕ Kind → After
with_results r (Err k) = Err k
with_results r (Ok n) = Ok (behind Part.Results (record r { outline = record r.outline { results = n } }))

abbrev pub timeout_line : Reader → List Token → After
timeout_line r ts = with_timeout r (number_line max_timeout ts)

abbrev pub results_line : Reader → List Token → After
results_line r ts = with_results r (number_line max_results ts)

-- ---- entities and their columns
-- a declared name may not be reserved
abbrev pub or_reserved : List ℕ → Option Kind → Option Kind
or_reserved w (Some k) = Some k
or_reserved w None = if is_reserved w then Some Kind.Reserved else None

abbrev pub new_entity : Reader → List Token → Option Kind → After
new_entity r ts (Some k) = Err k
new_entity r ts None = Ok (behind Part.Entities (record r { entity = entity_of ts }))

-- followed: the next line is a column's
abbrev pub entity_line : Reader → Bool → List Token → After
entity_line r followed ts =
    if is_entity_line ts then new_entity r ts (or_reserved (name_in ts) (entity_kind r.outline.mapping followed ts)) else Err Kind.Words

abbrev pub columns_unless : List EntityDef → EntityDef → List Token → Option Kind → Result EntityDef Kind
columns_unless m e ts (Some k) = Err k
columns_unless m e ts None = Ok (with_column m e ts)

-- the entity with the column of a line
abbrev pub more_columns : List EntityDef → EntityDef → List Token → Result EntityDef Kind
more_columns m e ts =
    if is_column_line ts then columns_unless m e ts (or_reserved (name_in ts) (column_kind m e ts)) else Err Kind.Words

abbrev pub with_columns : Reader → Result EntityDef Kind → After
with_columns r (Err k) = Err k
with_columns r (Ok e) = Ok (record r { entity = Some e })

-- a column belongs to the entity whose columns are read
abbrev pub column_line : Reader → Option EntityDef → List Token → After
column_line r None ts = Err Kind.Line
column_line r (Some e) ts = with_columns r (more_columns r.outline.mapping e ts)

-- the entities with the one whose columns are read
abbrev pub with_open : List EntityDef → Option EntityDef → List EntityDef
with_open m None = m
with_open m (Some e) = m ++ e ∷ []

-- an entity is finished by the next line that isn't a column's
abbrev pub closed : Reader → Reader
closed r = record r { outline = record r.outline { mapping = with_open r.outline.mapping r.entity }; entity = None }

-- ---- rows
abbrev pub with_row : Reader → Result (Key × Row) Kind → After
with_row r (Err k) = Err k
with_row r (Ok x) =
    if nat_lt (length r.outline.rows) max_rows
    then Ok (behind Part.Rows (record r { outline = record r.outline { rows = r.outline.rows ++ x ∷ [] } })) else Err Kind.Many

abbrev pub row_line : Reader → List Token → After
row_line r ts = with_row r (row_of r.outline.mapping r.outline.rows ts)

-- ---- queries
abbrev pub is_of_form : Kind → Bool
is_of_form Kind.Words = true
is_of_form Kind.Reserved = true
is_of_form _ = false

-- a name that is there already is found after the form and before all else
abbrev pub or_taken : Bool → Kind → Kind
or_taken taken k = if taken && not (is_of_form k) then Kind.Taken else k

abbrev pub with_query : Reader → Bool → Result Said Kind → After
with_query r taken (Err k) = Err (or_taken taken k)
with_query r taken (Ok q) =
    if taken then Err Kind.Taken
    else (if nat_lt (length r.outline.queries) max_queries
    then Ok (behind Part.Queries (record r { outline = record r.outline { queries = r.outline.queries ++ q ∷ [] } })) else Err Kind.Many)

abbrev pub is_taken : Reader → List Token → Bool
is_taken r ts = has_name (query_names r.outline.queries) (name_in ts)

abbrev pub query_line : Reader → List Token → After
query_line r ts = with_query r (is_taken r ts) (query_of r.outline.mapping ts)

-- ---- session NAME, its statements, end
abbrev pub has_session : List SessionDef → List ℕ → Bool
has_session ss w = list_any (λ s. bytes_eq s.name w) ss

abbrev pub begun : Reader → List ℕ → After
begun r w = Ok (record r { place = Place.Session (record { name = w; statements = [] }) })

abbrev pub new_session : Reader → List ℕ → After
new_session r w =
    if is_reserved w then Err Kind.Reserved
    else (if has_session r.outline.sessions w then Err Kind.Taken
    else (if nat_lt (length r.outline.sessions) max_sessions then begun r w else Err Kind.Many))

abbrev pub session_line : Reader → List Token → After
session_line r (first ∷ name ∷ []) = if is_a_word name then new_session r (word_of name) else Err Kind.Words
session_line r _ = Err Kind.Words

abbrev pub one_more : Reader → SessionDef → Statement → Reader
one_more r s t =
    record r { statements = r.statements + 1; place = Place.Session (record s { statements = s.statements ++ t ∷ [] }) }

-- there is a most of statements of all sessions
abbrev pub with_statement : Reader → SessionDef → Result Statement Kind → After
with_statement r s (Err k) = Err k
with_statement r s (Ok t) =
    if nat_lt r.statements max_statements then Ok (one_more r s t) else Err Kind.Many

abbrev pub with_session : Reader → SessionDef → Reader
with_session r s = behind Part.Sessions (record r { outline = record r.outline { sessions = r.outline.sessions ++ s ∷ [] } })

-- a session ends after a commit or a rollback alone
abbrev pub end_line : Reader → SessionDef → List Token → After
end_line r s ts =
    if is_alone ts then (if are_over s.statements then Ok (with_session r s) else Err Kind.Last) else Err Kind.Words

abbrev pub statement_line : Reader → SessionDef → List Token → After
statement_line r s ts = with_statement r s (statement_of r.outline.mapping (query_names r.outline.queries) ts)

abbrev pub in_session : Reader → SessionDef → List Token → After
in_session r s ts = if begins (codes "end") ts then end_line r s ts else statement_line r s ts

-- ---- schedule, its orders, end
abbrev pub schedule_line : Reader → List Token → After
schedule_line r ts = if is_alone ts then Ok (record r { place = Place.Schedule }) else Err Kind.Words

abbrev pub with_order : Reader → Result Order Kind → After
with_order r (Err k) = Err k
with_order r (Ok o) =
    if nat_lt (length r.outline.schedule) max_orders
    then Ok (record r { outline = record r.outline { schedule = r.outline.schedule ++ o ∷ [] } }) else Err Kind.Many

abbrev pub schedule_end : Reader → List Token → After
schedule_end r ts = if is_alone ts then Ok (behind Part.Schedule r) else Err Kind.Words

abbrev pub in_schedule : Reader → List Token → After
in_schedule r ts =
    if begins (codes "end") ts then schedule_end r ts else with_order r (order_of r.outline.mapping r.outline.sessions ts)

-- ---- a line after the line of a part
abbrev pub part_line : Reader → Part → Bool → List Token → After
part_line r Part.Timeout followed ts = timeout_line r ts
part_line r Part.Results followed ts = results_line r ts
part_line r Part.Entities followed ts = entity_line r followed ts
part_line r Part.Rows followed ts = row_line r ts
part_line r Part.Queries followed ts = query_line r ts
part_line r Part.Sessions followed ts = session_line r ts
part_line r Part.Schedule followed ts = schedule_line r ts
part_line r Part.Header followed ts = Err Kind.Line

abbrev pub next_part : Reader → Part → Option Part → Bool → List Token → After
next_part r last None followed ts = Err Kind.Line
next_part r last (Some p) followed ts = if may_follow last p then part_line (closed r) p followed ts else Err Kind.Line

abbrev pub behind_part : Reader → Part → Bool → List Token → After
behind_part r last followed ts =
    if begins (codes "column") ts then column_line r r.entity ts else next_part r last (part_of ts) followed ts

abbrev pub line_at : Reader → Place → Bool → List Token → After
line_at r Place.Start followed ts = header_line r ts
line_at r (Place.Behind last) followed ts = behind_part r last followed ts
line_at r (Place.Session s) followed ts = in_session r s ts
line_at r Place.Schedule followed ts = in_schedule r ts

-- what a line of these tokens leaves, or the first thing that is wrong with it
abbrev pub after_line : Reader → Bool → List Token → After
after_line r followed ts = line_at r r.place followed ts

-- what an error says; want of memory says nothing
abbrev pub IsFault : {A : Type 0} → Result A Kind → LineError → Type 0
IsFault r LineError.NoMemory = Unit {0}
IsFault r (LineError.Fault k) = r ≡ Err k
