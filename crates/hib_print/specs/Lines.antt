-- The tokens of a printed script's lines.
use Rattle.std.specs.Prelude.{ℕ, Bool, true, false, List, [], ◌∷◌, ◌++◌, map, flat_map, codes, pos, Some, None, Option}
use Rattle.hib_base.specs.declared.numbers.Key.{Key}
use Rattle.hib_base.specs.declared.rows.Cell.{Cell}
use Rattle.hib_base.specs.declared.rows.Row.{Row}
use Rattle.hib_base.specs.declared.scripts.Strategy.{Strategy}
use Rattle.hib_base.specs.declared.scripts.ColumnType.{ColumnType}
use Rattle.hib_base.specs.declared.scripts.ColumnDef.{ColumnDef}
use Rattle.hib_base.specs.declared.scripts.EntityDef.{EntityDef}
use Rattle.hib_base.specs.declared.scripts.Op.{Op}
use Rattle.hib_base.specs.declared.scripts.Path.{Path}
use Rattle.hib_base.specs.declared.scripts.Target.{Target}
use Rattle.hib_base.specs.declared.scripts.Cond.{Cond}
use Rattle.hib_base.specs.declared.scripts.Sort.{Sort}
use Rattle.hib_base.specs.declared.scripts.Select.{Select}
use Rattle.hib_base.specs.declared.scripts.Query.{Query}
use Rattle.hib_base.specs.declared.scripts.Mode.{Mode}
use Rattle.hib_base.specs.declared.scripts.Statement.{Statement}
use Rattle.hib_base.specs.declared.scripts.SessionDef.{SessionDef}
use Rattle.hib_base.specs.declared.scripts.Order.{Order}
use Rattle.hib_base.specs.declared.scripts.Script.{Script}
use Rattle.hib_lex.specs.declared.lexer.Token.{Token}
use Rattle.hib_texts.specs.Texts.{bool_text, version_text, entity_text, query_text, session_text, column_text}

abbrev pub natural : ℕ → Token
natural n = Token.Number (pos n)

-- ---- entities
abbrev pub strategy_text : Strategy → List ℕ
strategy_text Strategy.Uncached = codes "none"
strategy_text Strategy.ReadOnly = codes "read-only"
strategy_text Strategy.Nonstrict = codes "nonstrict"
strategy_text Strategy.ReadWrite = codes "read-write"

abbrev pub versioning_text : Bool → List ℕ
versioning_text true = codes "versioned"
versioning_text false = codes "plain"

abbrev pub type_tokens : Script → ColumnType → List Token
type_tokens script ColumnType.Int = Token.Word (codes "int") ∷ []
type_tokens script ColumnType.Text = Token.Word (codes "text") ∷ []
type_tokens script ColumnType.Bool = Token.Word (codes "bool") ∷ []
type_tokens script (ColumnType.Ref e) = Token.Word (codes "ref") ∷ Token.Word (entity_text script e) ∷ []

-- a cell, as in the lines of rows
abbrev pub cell_token : Cell → Token
cell_token (Cell.Int n) = Token.Number n
cell_token (Cell.Text t) = Token.Quoted t
cell_token (Cell.Bool b) = Token.Word (bool_text b)

abbrev pub default_tokens : Option Cell → List Token
default_tokens None = []
default_tokens (Some c) = Token.Word (codes "default") ∷ cell_token c ∷ []

abbrev pub column_line : Script → ColumnDef → List Token
column_line script d =
    Token.Word (codes "column") ∷ Token.Word d.name ∷ type_tokens script d.kind ++ default_tokens d.default

abbrev pub entity_line : EntityDef → List Token
entity_line e =
    Token.Word (codes "entity") ∷ Token.Word e.name ∷ Token.Word (strategy_text e.strategy) ∷ Token.Word (versioning_text e.versioned)
    ∷ natural e.capacity ∷ []

-- an entity, and then its columns
abbrev pub entity_lines : Script → EntityDef → List (List Token)
entity_lines script e = entity_line e ∷ map (λ d. column_line script d) e.columns

-- ---- rows
abbrev pub cell_tokens : List Cell → List Token
cell_tokens cells = map cell_token cells

abbrev pub key_tokens : Script → Key → List Token
key_tokens script k = Token.Word (entity_text script k.entity) ∷ natural k.id ∷ []

abbrev pub version_tokens : Option ℕ → List Token
version_tokens None = []
version_tokens (Some v) = Token.Word (version_text (Some v)) ∷ []

abbrev pub row_line : Script → Key × Row → List Token
row_line script x = Token.Word (codes "row") ∷ key_tokens script x.0 ++ version_tokens x.1.version ++ cell_tokens x.1.cells

-- ---- conditions, of an entity
abbrev pub op_text : Op → List ℕ
op_text Op.Eq = codes "eq"
op_text Op.Ne = codes "ne"
op_text Op.Lt = codes "lt"
op_text Op.Le = codes "le"
op_text Op.Gt = codes "gt"
op_text Op.Ge = codes "ge"

abbrev pub path_token : Script → ℕ → ℕ → Option Target → Token
path_token script e c None = Token.Word (column_text script e c)
path_token script e c (Some g) = Token.Path (column_text script e c) (column_text script g.entity g.column)

abbrev pub subject : Script → ℕ → Path → Token
subject script e p = path_token script e p.column p.target

abbrev pub condition_tokens : Script → ℕ → Cond → List Token
condition_tokens script e (Cond.And' p a q b) =
    Token.Left ∷ Token.Word (codes "and") ∷ condition_tokens script e a ++ condition_tokens script e b ++ Token.Right ∷ []
condition_tokens script e (Cond.Or' p a q b) =
    Token.Left ∷ Token.Word (codes "or") ∷ condition_tokens script e a ++ condition_tokens script e b ++ Token.Right ∷ []
condition_tokens script e (Cond.Not' p a) = Token.Left ∷ Token.Word (codes "not") ∷ condition_tokens script e a ++ Token.Right ∷ []
condition_tokens script e (Cond.Test op p c) =
    Token.Left ∷ Token.Word (op_text op) ∷ subject script e p ∷ cell_token c ∷ Token.Right ∷ []
condition_tokens script e (Cond.Among p cs) =
    Token.Left ∷ Token.Word (codes "in") ∷ subject script e p ∷ cell_tokens cs ++ Token.Right ∷ []

-- ---- queries
abbrev pub cached_tokens : Bool → List Token
cached_tokens true = Token.Word (codes "cached") ∷ []
cached_tokens false = []

abbrev pub from_tokens : Script → ℕ → List Token
from_tokens script e = Token.Word (codes "from") ∷ Token.Word (entity_text script e) ∷ []

abbrev pub where_tokens : Script → ℕ → Option Cond → List Token
where_tokens script e None = []
where_tokens script e (Some c) = Token.Word (codes "where") ∷ condition_tokens script e c

abbrev pub desc_tokens : Bool → List Token
desc_tokens true = Token.Word (codes "desc") ∷ []
desc_tokens false = []

abbrev pub sort_tokens : Script → ℕ → Sort → List Token
sort_tokens script e s = Token.Word (column_text script e s.column) ∷ desc_tokens s.desc

abbrev pub order_tokens : Script → ℕ → List Sort → List Token
order_tokens script e [] = []
order_tokens script e (s ∷ ss) = Token.Word (codes "order") ∷ flat_map (λ x. sort_tokens script e x) (s ∷ ss)

-- a count takes neither offset nor limit
abbrev pub page_tokens : Select → ℕ → ℕ → List Token
page_tokens Select.Count offset limit = []
page_tokens _ offset limit = Token.Word (codes "offset") ∷ natural offset ∷ Token.Word (codes "limit") ∷ natural limit ∷ []

abbrev pub selected : Script → ℕ → Select → List ℕ
selected script e Select.Ids = codes "ids"
selected script e Select.Count = codes "count"
selected script e (Select.Column c) = column_text script e c

abbrev pub select_tokens : Script → ℕ → Select → List Token
select_tokens script e s = Token.Word (codes "select") ∷ Token.Word (selected script e s) ∷ []

abbrev pub query_line : Script → Query → List Token
query_line script q =
    Token.Word (codes "query") ∷ Token.Word q.name ∷ cached_tokens q.cached ++ from_tokens script q.entity ++ where_tokens script q.entity q.condition
    ++ order_tokens script q.entity q.order ++ page_tokens q.select q.offset q.limit ++ select_tokens script q.entity q.select

-- ---- sessions
abbrev pub set_tokens : Script → ℕ → ℕ × Cell → List Token
set_tokens script e x = Token.Word (column_text script e x.0) ∷ cell_token x.1 ∷ []

abbrev pub mode_text : Mode → List ℕ
mode_text Mode.Normal = codes "normal"
mode_text Mode.Ignore = codes "ignore"
mode_text Mode.Get = codes "get"
mode_text Mode.Put = codes "put"

abbrev pub statement_line : Script → Statement → List Token
statement_line script (Statement.Find k) = Token.Word (codes "find") ∷ key_tokens script k
statement_line script (Statement.Persist k cs) = Token.Word (codes "persist") ∷ key_tokens script k ++ cell_tokens cs
statement_line script (Statement.Set k xs) =
    Token.Word (codes "set") ∷ key_tokens script k ++ flat_map (λ x. set_tokens script k.entity x) xs
statement_line script (Statement.Remove k) = Token.Word (codes "remove") ∷ key_tokens script k
statement_line script (Statement.List q) = Token.Word (codes "list") ∷ Token.Word (query_text script q) ∷ []
statement_line script Statement.Flush = Token.Word (codes "flush") ∷ []
statement_line script Statement.Clear = Token.Word (codes "clear") ∷ []
statement_line script (Statement.Mode m) = Token.Word (codes "mode") ∷ Token.Word (mode_text m) ∷ []
statement_line script Statement.Commit = Token.Word (codes "commit") ∷ []
statement_line script Statement.Rollback = Token.Word (codes "rollback") ∷ []

abbrev pub end_line : List Token
end_line = Token.Word (codes "end") ∷ []

abbrev pub session_lines : Script → SessionDef → List (List Token)
session_lines script d =
    (Token.Word (codes "session") ∷ Token.Word d.name ∷ []) ∷ map (λ t. statement_line script t) d.statements ++ end_line ∷ []

-- ---- the schedule
abbrev pub order_line : Script → Order → List Token
order_line script (Order.Run s n) = Token.Word (codes "run") ∷ Token.Word (session_text script s) ∷ natural n ∷ []
order_line script (Order.Kill s) = Token.Word (codes "kill") ∷ Token.Word (session_text script s) ∷ []
order_line script (Order.Evict k) = Token.Word (codes "evict") ∷ key_tokens script k
order_line script Order.Restart = Token.Word (codes "restart") ∷ []

-- a schedule without orders isn't printed
abbrev pub schedule_lines : Script → List Order → List (List Token)
schedule_lines script [] = []
schedule_lines script (o ∷ os) = (Token.Word (codes "schedule") ∷ []) ∷ map (λ x. order_line script x) (o ∷ os) ++ end_line ∷ []
