-- The row that a key had before the writes of a trace.
use Rattle.std.specs.Prelude.{ℕ, ◌+◌, Bool, false, not, ◌&&◌, ◌||◌, List, [], ◌∷◌, Option, Some, None, nat_eq, nat_lt, map, if◌then◌else◌}
use Rattle.std.specs.Option.{option_map}
use Rattle.std.specs.List.{list_all, filter_map, range_with_len}
use Rattle.hib_trace_lines.specs.declared.events.Operation.{Operation}
use Rattle.hib_trace_calls.specs.declared.calls.Call.{Call}
use Rattle.hib_trace_calls.specs.declared.calls.Fate.{Fate}
use Rattle.hib_trace_calls.specs.declared.calls.Write.{Write}

abbrev pub key_by : Operation → Option ℕ → Option ℕ
key_by Operation.Load k = k
key_by _ k = None

-- the key that a call loads, if it is a load
abbrev pub loaded_key : Call → Option ℕ
loaded_key c = key_by c.operation c.key

abbrev pub is_at : ℕ → Option ℕ → Bool
is_at k None = false
is_at k (Some l) = nat_eq l k

abbrev pub is_load_at : ℕ → Call → Bool
is_load_at k c = is_at k (loaded_key c)

-- a write is of another key, or began after an instant
abbrev pub is_behind : ℕ → ℕ → Write → Bool
is_behind k t w = not (nat_eq w.key k) || nat_lt t w.begin

-- the row of a load that had ended before any write of its key began, by clocks that differ by so much
abbrev pub early_row : ℕ → List Write → ℕ → Call → Option ℕ
early_row clock ws k c = if is_load_at k c && list_all (is_behind k (c.end + clock + clock)) ws then Some c.row else None

abbrev pub first : List ℕ → Option ℕ
first [] = None
first (r ∷ rs) = Some r

-- the row that a key had: that of the first such load
abbrev pub row_before : ℕ → List Call → List Write → ℕ → Option ℕ
row_before clock cs ws k = first (filter_map (early_row clock ws k) cs)

-- it counts as written at the clock's 0; no list is judged by it, so its table doesn't matter
abbrev pub write_before : ℕ → ℕ → Write
write_before k r =
    record {
      transaction = None;
      key = k;
      table = 0;
      row = r;
      version = None;
      begin = 0;
      end = 0;
      fate = Fate.Committed (record { begin = 0; end = 0 });
    }

-- the rows that the first n keys had
abbrev pub before_of : ℕ → List Call → List Write → ℕ → List Write
before_of clock cs ws n =
    filter_map (λ o. o) (map (λ k. option_map (write_before k) (row_before clock cs ws k)) (range_with_len 0 n))
