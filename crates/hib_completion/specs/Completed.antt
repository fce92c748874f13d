-- What completes a transaction, but for its End.
use Rattle.std.specs.Prelude.{ℕ, Bool, ◌&&◌, ◌==◌, List, [], ◌∷◌, ◌++◌, length, slice_get, Some, None, Option, option_and_then, if◌then◌else◌}
use Rattle.std.specs.List.{filter, flat_map, list_any, range_with_len}
use Rattle.std.specs.Map.{lookup}
use Rattle.hib_base.specs.Keys.{same_key}
use Rattle.hib_base.specs.Tables.{key_of, first_on, last_on, row_left}
use Rattle.hib_journal.specs.Types.{Key, Change, EntityDef, Mode, Act}
use Rattle.hib_journal.specs.Next.{strategy_in, mode_puts, complete_by, keys_of, stamps_of}

abbrev pub or_zero : Option ℕ → ℕ
or_zero None = 0
or_zero (Some n) = n

-- the number of the lock of a key, or 0 if it has none
abbrev pub lock_of : Key → List (Key × ℕ) → ℕ
lock_of k locks = or_zero (lookup (same_key k) locks)

-- the entities of a list of changes, in the mapping's order
abbrev pub tables_by : List EntityDef → List Change → List ℕ
tables_by mapping cs = filter (λ n. list_any (λ c. (key_of c).entity == n) cs) (range_with_len 0 (length mapping))

-- what completes one key, by whether rows may be put back: by its first change, and by the row that its last one left
abbrev pub key_acts : List EntityDef → List Change → List (Key × ℕ) → Bool → ℕ → Key → List Act
key_acts mapping cs locks done floor k =
    complete_by (first_on k cs) (strategy_in (slice_get mapping k.entity)) k (lock_of k locks) floor (if done then option_and_then row_left (last_on k cs) else None)

abbrev pub keys_acts : List EntityDef → List Change → List (Key × ℕ) → Bool → ℕ → List Key → List Act
keys_acts mapping cs locks done floor ks = flat_map (λ k. key_acts mapping cs locks done floor k) ks

-- key by key in order of first change, and then one stamp of the changed tables, if any
abbrev pub completes : List EntityDef → List Change → List (Key × ℕ) → Bool → Mode → ℕ → List Act
completes mapping cs locks committed m floor =
    keys_acts mapping cs locks (committed && mode_puts m) floor (keys_of cs) ++ stamps_of (tables_by mapping cs)

abbrev pub is_key_in : Key → List Key → Bool
is_key_in k ks = list_any (λ j. same_key j k) ks

-- an act that comes, or none
abbrev pub acts_of : Option Act → List Act
acts_of None = []
acts_of (Some a) = a ∷ []
