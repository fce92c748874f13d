-- Numbers at places.
use Rattle.std.specs.Prelude.{◌≤◌, ◌<◌, ◌-◌, ◌&&◌, ◌||◌, ◌==◌, ℕ, Bool, Option, None, Some, List, nat_lt, length}
use Rattle.std.specs.List.{list_any, slice_index_or}
use Rattle.hib_traces.specs.declared.marks.Mark.{Mark}

-- whether a number less than t stands beyond k
abbrev pub asks : ℕ → ℕ → List Mark → Bool
asks k t ms = list_any (λ m. nat_lt k m.at && nat_lt m.value t) ms

-- the further a mark lies, the less far is the next one, and the lower its number
pub record IsStairs (ms : List Mark) : Type 0 where
  pub at : (i j : ℕ) (d : Mark) → i ≤ j → j < length ms → (slice_index_or ms j d).at ≤ (slice_index_or ms i d).at
  pub value : (i j : ℕ) (d : Mark) → i ≤ j → j < length ms → (slice_index_or ms j d).value ≤ (slice_index_or ms i d).value

-- how near a mark lies, for a sort from the furthest on
abbrev pub far_of : Mark → ℕ
far_of m = 18446744073709551615 - m.at

-- a mark has a lower number than the last one of a list, or there is none
abbrev pub is_lowest : List Mark → Mark → Bool
is_lowest ms m = length ms == 0 || nat_lt m.value (slice_index_or ms (length ms - 1) (record { at = 0; value = 0 })).value

-- a mark of two numbers, if both are there
abbrev pub pair_mark : Option ℕ → Option ℕ → Option Mark
pair_mark None v = None
pair_mark (Some k) None = None
pair_mark (Some k) (Some v) = Some (record { at = k; value = v })

-- a version, if the outcome is known
abbrev pub known_version : Option ℕ → Option ℕ → Option ℕ
known_version None v = None
known_version (Some e) v = v
