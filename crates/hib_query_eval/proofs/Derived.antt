-- The derived order of places is the order that is specified.
use Rattle.std.proofs.Common.{◌≡◌, refl, ap}
use denote.Param.{read}
use Rattle.std.specs.Ordering.{ordering_then, nat_cmp}
use Rattle.std.specs.declared.cmp.Ordering.{Ordering}
use Rattle.std.specs.declared.cmp.Ord.Ghosts.{cmp}
use Rattle.hib_query_eval.specs.contracts.places.ValueOrd.TheImpl as values
use Rattle.hib_query_eval.specs.contracts.places.PlaceOrd.TheImpl as places
use Rattle.hib_query_eval.specs.declared.places.Place.{Place}
use Rattle.hib_query_eval.specs.declared.places.Value.{Value}
use Rattle.hib_query_eval.specs.Spans.{value_cmp, place_cmp}

abbrev pub derived_value_cmp : Value → Value → Ordering
derived_value_cmp = read (cmp {X-1 = Value}) values.ghosts

abbrev pub derived_cmp : Place → Place → Ordering
derived_cmp = read (cmp {X-1 = Place}) places.ghosts

value_cmp_is : (a b : Value) → derived_value_cmp a b ≡ value_cmp a b
value_cmp_is Value.Least Value.Least = refl
value_cmp_is Value.Least (Value.Int b) = refl
value_cmp_is Value.Least (Value.Text b) = refl
value_cmp_is Value.Least (Value.Bool b) = refl
value_cmp_is Value.Least Value.Greatest = refl
value_cmp_is (Value.Int a) Value.Least = refl
value_cmp_is (Value.Int a) (Value.Int b) = refl
value_cmp_is (Value.Int a) (Value.Text b) = refl
value_cmp_is (Value.Int a) (Value.Bool b) = refl
value_cmp_is (Value.Int a) Value.Greatest = refl
value_cmp_is (Value.Text a) Value.Least = refl
value_cmp_is (Value.Text a) (Value.Int b) = refl
value_cmp_is (Value.Text a) (Value.Text b) = refl
value_cmp_is (Value.Text a) (Value.Bool b) = refl
value_cmp_is (Value.Text a) Value.Greatest = refl
value_cmp_is (Value.Bool a) Value.Least = refl
value_cmp_is (Value.Bool a) (Value.Int b) = refl
value_cmp_is (Value.Bool a) (Value.Text b) = refl
value_cmp_is (Value.Bool a) (Value.Bool b) = refl
value_cmp_is (Value.Bool a) Value.Greatest = refl
value_cmp_is Value.Greatest Value.Least = refl
value_cmp_is Value.Greatest (Value.Int b) = refl
value_cmp_is Value.Greatest (Value.Text b) = refl
value_cmp_is Value.Greatest (Value.Bool b) = refl
value_cmp_is Value.Greatest Value.Greatest = refl

place_cmp_at : (a b : Place) → derived_cmp a b ≡ place_cmp a b
place_cmp_at a b = ap (λ o. ordering_then o (nat_cmp a.id b.id)) (value_cmp_is a.value b.value)

pub place_cmp_is : derived_cmp ≡ place_cmp
place_cmp_is = λ i. λ a b. place_cmp_at a b i
