-- What a script says of its entities, queries, sessions and orders.
use Rattle.std.specs.Prelude.{ℕ, Bool, true, false, ◌&&◌, nat_lt, sum_by, List, [], ◌∷◌, length, slice_get, Some, None, Option}
use Rattle.std.specs.List.{list_all}
use Rattle.std.specs.Option.{option_map_or}
use Rattle.hib_base.specs.Types.{Strategy, ColumnType, EntityDef, Mode, Key, Row, Target, Cond, Query, Statement, SessionDef, Order, Script}

-- ---- entities
-- what the mapping says of an entity
abbrev pub strategy_in : Option EntityDef → Strategy
strategy_in def = option_map_or (λ d. d.strategy) def Strategy.Uncached

abbrev pub is_cached_by : Strategy → Bool
is_cached_by Strategy.Uncached = false
is_cached_by _ = true

abbrev pub is_cached_in : List EntityDef → ℕ → Bool
is_cached_in mapping n = is_cached_by (strategy_in (slice_get mapping n))

-- ---- modes
abbrev pub mode_reads : Mode → Bool
mode_reads Mode.Normal = true
mode_reads Mode.Get = true
mode_reads _ = false

abbrev pub mode_puts : Mode → Bool
mode_puts Mode.Normal = true
mode_puts Mode.Put = true
mode_puts _ = false

-- ---- references
-- a reference leads to one of the first n entities
abbrev pub is_type_below : ℕ → ColumnType → Bool
is_type_below n (ColumnType.Ref e) = nat_lt e n
is_type_below n _ = true

-- ---- rows
-- each is of one of the first n entities
abbrev pub is_row_below : ℕ → Key × Row → Bool
is_row_below n x = nat_lt x.0.entity n

-- ---- queries
-- the target of a step, if a path has one, is below n
abbrev pub is_target_below : ℕ → Option Target → Bool
is_target_below n target = option_map_or (λ g. nat_lt g.entity n) target true

abbrev pub are_targets_below : ℕ → Cond → Bool
are_targets_below n (Cond.And' p a q b) = are_targets_below n a && are_targets_below n b
are_targets_below n (Cond.Or' p a q b) = are_targets_below n a && are_targets_below n b
are_targets_below n (Cond.Not' p a) = are_targets_below n a
are_targets_below n (Cond.Test op p c) = is_target_below n p.target
are_targets_below n (Cond.Among p cs) = is_target_below n p.target

abbrev pub are_targets_in : ℕ → Option Cond → Bool
are_targets_in n condition = option_map_or (are_targets_below n) condition true

-- each table that a query reads is one of the mapping's entities
abbrev pub is_declared : Script → Query → Bool
is_declared script d = nat_lt d.entity (length script.mapping) && are_targets_in (length script.mapping) d.condition

-- ---- sessions
abbrev pub ends : Statement → Bool
ends Statement.Commit = true
ends Statement.Rollback = true
ends _ = false

-- the last of some statements is a commit or a rollback
abbrev pub are_over : List Statement → Bool
are_over [] = false
are_over (t ∷ []) = ends t
are_over (t ∷ u ∷ ts) = are_over (u ∷ ts)

abbrev pub is_over : SessionDef → Bool
is_over s = are_over s.statements

abbrev pub statement_count : List SessionDef → ℕ
statement_count sessions = sum_by (λ s. length s.statements) sessions

-- a query that a statement lists is one of the first n
abbrev pub is_known : ℕ → Statement → Bool
is_known n (Statement.List q) = nat_lt q n
is_known n _ = true

abbrev pub lists_known : ℕ → SessionDef → Bool
lists_known n s = list_all (λ t. is_known n t) s.statements

-- ---- the schedule
-- an order evicts a row of a cached entity alone
abbrev pub evicts_cached : List EntityDef → Order → Bool
evicts_cached mapping (Order.Evict k) = is_cached_in mapping k.entity
evicts_cached mapping _ = true
