-- The order of the places of cells.
use Rattle.std.specs.Prelude.{ℕ, Bool, ◌-◌, ◌^◌}
use Rattle.std.specs.Ordering.{ordering_then, nat_cmp, int_cmp, bool_cmp}
use Rattle.std.specs.Cmp.Lexicographic.{slice_cmp}
use Rattle.std.specs.BTreeMap.Range.{range_contains}
use Rattle.std.specs.declared.cmp.Ordering.{Ordering}
use Rattle.std.specs.declared.cmp.Ordering.TheVariants.{Less, Equal, Greater}
use Rattle.std.specs.declared.ops.Bound.TheVariants.{Included}
use Rattle.hib_query_eval.specs.declared.places.Place.{Place}
use Rattle.hib_query_eval.specs.declared.places.Value.{Value}

-- numbers, then texts by bytes, then false and true, between two bounds
abbrev pub value_cmp : Value → Value → Ordering
value_cmp Value.Least Value.Least = Equal
value_cmp Value.Least v = Less
value_cmp (Value.Int a) Value.Least = Greater
value_cmp (Value.Int a) (Value.Int b) = int_cmp a b
value_cmp (Value.Int a) v = Less
value_cmp (Value.Text a) Value.Least = Greater
value_cmp (Value.Text a) (Value.Int b) = Greater
value_cmp (Value.Text a) (Value.Text b) = slice_cmp nat_cmp a.items b.items
value_cmp (Value.Text a) v = Less
value_cmp (Value.Bool a) (Value.Bool b) = bool_cmp a b
value_cmp (Value.Bool a) Value.Greatest = Less
value_cmp (Value.Bool a) v = Greater
value_cmp Value.Greatest Value.Greatest = Equal
value_cmp Value.Greatest v = Greater

-- by value, and then by identifier
abbrev pub place_cmp : Place → Place → Ordering
place_cmp a b = ordering_then (value_cmp a.value b.value) (nat_cmp a.id b.id)

-- the place of a cell that is at one of two values or between them
abbrev pub is_within : Value → Value → Place → Bool
is_within from to p =
    range_contains place_cmp (Included (record { value = from; id = 0 })) (Included (record { value = to; id = 2 ^ 64 - 1 })) p
