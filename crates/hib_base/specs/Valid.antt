-- The rules that every script keeps.
use Rattle.std.specs.Prelude.{ℕ, suc, zero, ◌+◌, Bool, true, false, ◌&&◌, ◌==◌, nat_le, nat_lt, map, List, [], ◌∷◌, length, Option, Some, None}
use Rattle.std.specs.List.{list_all}
use Rattle.hib_base.specs.Types.{Key, Row, Strategy, EntityDef, Cond, Select, Order, Script}
use Rattle.hib_base.specs.declared.scripts.Node.{Node}
use Rattle.hib_base.specs.Apart.{are_apart_by}
use Rattle.hib_base.specs.Fits.{is_identifier, are_defaults, fits, fits_statement, fits_query}
use Rattle.hib_base.specs.Keys.{same_key}
use Rattle.hib_base.specs.Queries.{Said, said}
use Rattle.hib_base.specs.Words.{are_names}
use Rattle.hib_base.specs.Scripts.{is_type_below, is_row_below, is_declared, is_over, statement_count, lists_known, evicts_cached}

-- ---- the limits
abbrev pub max_timeout : ℕ
max_timeout = 1000000

abbrev pub max_results : ℕ
max_results = 100000

abbrev pub max_entities : ℕ
max_entities = 64

-- of one entity
abbrev pub max_columns : ℕ
max_columns = 16

-- of one region
abbrev pub max_capacity : ℕ
max_capacity = 100000

abbrev pub max_rows : ℕ
max_rows = 10000

-- of a row that a script gives
abbrev pub max_version : ℕ
max_version = 1000000

abbrev pub max_queries : ℕ
max_queries = 1000

-- of one condition, in levels
abbrev pub max_depth : ℕ
max_depth = 16

-- of one `in`
abbrev pub max_cells : ℕ
max_cells = 64

abbrev pub max_offset : ℕ
max_offset = 1000000

abbrev pub max_limit : ℕ
max_limit = 200

-- of a query that names none
abbrev pub default_limit : ℕ
default_limit = 200

abbrev pub max_sessions : ℕ
max_sessions = 1000

-- of all sessions
abbrev pub max_statements : ℕ
max_statements = 5000

abbrev pub max_orders : ℕ
max_orders = 20000

-- of one order
abbrev pub max_steps : ℕ
max_steps = 1000000

-- ---- entities
-- the columns of an entity; their references lead to the first n entities
abbrev pub are_columns : ℕ → EntityDef → Bool
are_columns n e =
    nat_le (length e.columns) max_columns
    && (list_all (λ d. is_type_below n d.kind) e.columns && (are_names (map (λ d. d.name) e.columns) && are_defaults e.columns))

-- those of entities behind n others: a reference leads to its own entity or to one before it
abbrev pub have_columns : ℕ → List EntityDef → Bool
have_columns n [] = true
have_columns n (e ∷ es) = are_columns (n + 1) e && have_columns (n + 1) es

-- nothing is kept of an uncached entity
abbrev pub is_capacity : Strategy → ℕ → Bool
is_capacity Strategy.Uncached n = n == 0
is_capacity _ n = nat_le 1 n && nat_le n max_capacity

-- its room, and that it has a column
abbrev pub is_entity : EntityDef → Bool
is_entity e = is_capacity e.strategy e.capacity && nat_le 1 (length e.columns)

-- ---- rows
abbrev pub is_given_version : Option ℕ → Bool
is_given_version None = true
is_given_version (Some v) = nat_le v max_version

abbrev pub is_given : Key × Row → Bool
is_given x = is_given_version x.1.version

-- ---- queries
-- of at most n levels; the outermost condition is the first
abbrev pub is_nested : ℕ → Cond → Bool
is_nested zero c = false
is_nested (suc n) (Cond.And' p a q b) = is_nested n a && is_nested n b
is_nested (suc n) (Cond.Or' p a q b) = is_nested n a && is_nested n b
is_nested (suc n) (Cond.Not' p a) = is_nested n a
is_nested (suc n) (Cond.Test op p c) = true
is_nested (suc n) (Cond.Among p cs) = true

abbrev pub is_nested_in : Option Cond → Bool
is_nested_in None = true
is_nested_in (Some c) = is_nested max_depth c

-- an `in` has cells, and not too many
abbrev pub is_short : Node → Bool
is_short (Node.Among p cs) = nat_le 1 (length cs) && nat_le (length cs) max_cells
is_short _ = true

-- a count is of all that meet the condition
abbrev pub counts_all : Said → Select → Bool
counts_all q Select.Count = (length q.order == 0) && ((q.offset == 0) && (q.limit == default_limit))
counts_all q _ = true

abbrev pub is_cut : Said → Bool
is_cut q = nat_le q.offset max_offset && (nat_le 1 q.limit && (nat_le q.limit max_limit && counts_all q q.select))

-- ---- orders
-- of n sessions
abbrev pub is_order_in : ℕ → Order → Bool
is_order_in n (Order.Run s steps) = nat_lt s n && (nat_le 1 steps && nat_le steps max_steps)
is_order_in n (Order.Kill s) = nat_lt s n
is_order_in n (Order.Evict k) = is_identifier k.id
is_order_in n Order.Restart = true

-- ---- the script
abbrev pub are_all : List Bool → Bool
are_all [] = true
are_all (b ∷ bs) = b && are_all bs

abbrev pub rules_of : Script → List Bool
rules_of s =
    nat_le 1 s.timeout
    ∷ nat_le s.timeout max_timeout
    ∷ nat_le 1 s.results
    ∷ nat_le s.results max_results
    ∷ nat_le (length s.mapping) max_entities
    ∷ have_columns 0 s.mapping
    ∷ list_all is_entity s.mapping
    ∷ are_names (map (λ e. e.name) s.mapping)
    ∷ nat_le (length s.rows) max_rows
    ∷ list_all (λ x. is_row_below (length s.mapping) x) s.rows
    ∷ fits s.mapping s.rows
    ∷ list_all is_given s.rows
    ∷ are_apart_by same_key (map (λ x. x.0) s.rows)
    ∷ nat_le (length s.queries) max_queries
    ∷ list_all (λ q. is_declared s q) s.queries
    ∷ list_all (λ q. is_nested_in q.condition) s.queries
    ∷ list_all (λ q. list_all is_short q.parts) (map said s.queries)
    ∷ list_all is_cut (map said s.queries)
    ∷ list_all (λ q. fits_query s.mapping q) (map said s.queries)
    ∷ are_names (map (λ q. q.name) s.queries)
    ∷ nat_le (length s.sessions) max_sessions
    ∷ nat_le (statement_count s.sessions) max_statements
    ∷ list_all is_over s.sessions
    ∷ list_all (λ d. lists_known (length s.queries) d) s.sessions
    ∷ list_all (λ d. list_all (λ t. fits_statement s.mapping t) d.statements) s.sessions
    ∷ are_names (map (λ d. d.name) s.sessions)
    ∷ nat_le (length s.schedule) max_orders
    ∷ list_all (λ o. is_order_in (length s.sessions) o) s.schedule
    ∷ list_all (λ o. evicts_cached s.mapping o) s.schedule
    ∷ []

unfoldable pub is_valid : Script → Bool
is_valid s = are_all (rules_of s)
