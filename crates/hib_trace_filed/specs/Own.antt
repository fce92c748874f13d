-- Which rows a transaction wrote itself.
use Rattle.std.specs.Prelude.{ℕ, Bool, false, ◌&&◌, List, Option, Some, None, nat_eq}
use Rattle.std.specs.List.{list_any}
use Rattle.hib_trace_calls.specs.declared.calls.Write.{Write}
use Rattle.hib_trace_calls.specs.Writes.{is_of}
use Rattle.hib_trace_filed.specs.declared.own.Own.{Own}
use Rattle.hib_trace_filed.specs.declared.own.Owns.{Owns}

abbrev pub is_by : Option ℕ → Option ℕ → Bool
is_by None u = false
is_by (Some t) u = is_of t u

-- a write is one of this row of a key, by this transaction
abbrev pub is_own : Option ℕ → ℕ → ℕ → Write → Bool
is_own t k r w = is_by t w.transaction && (nat_eq w.key k && nat_eq w.row r)

abbrev pub own_written : List Write → Option ℕ → ℕ → ℕ → Bool
own_written ws t k r = list_any (is_own t k r) ws

-- what a set of such rows says
abbrev pub same_own : Own → Own → Bool
same_own x y = nat_eq x.transaction y.transaction && (nat_eq x.key y.key && nat_eq x.row y.row)

abbrev pub has_own : Owns → Option ℕ → ℕ → ℕ → Bool
has_own o None k r = false
has_own o (Some t) k r = list_any (same_own (record { transaction = t; key = k; row = r })) o.rows.keys
