-- How many of the rows that a query lists are enough for what it gives.
use Rattle.std.specs.Prelude.{◌≡◌, ℕ, ◌+◌, Bool, true, false, ◌&&◌, ◌==◌, nat_le, ◌⊎◌, List, [], ◌∷◌, take, Some, None, Option, Result, Ok, Err}
use Rattle.std.specs.Option.{option_map_or}
use Rattle.std.specs.List.{filter}
use Rattle.hib_journal.specs.Types.{Key, Row, Sort, Select, Query}
use Rattle.hib_base.specs.Tables.{Tables}
use Rattle.hib_journal.specs.Query.{holds, listed}

-- none stands for all rows: they are counted, or an order is to be made of them
abbrev pub enough_for : Select → List Sort → ℕ → Option ℕ
enough_for Select.Count os n = None
enough_for s [] n = Some n
enough_for s (o ∷ os) n = None

abbrev pub enough : Query → Option ℕ
enough q = enough_for q.select q.order (q.offset + q.limit)

-- whether so many rows are enough
abbrev pub is_enough : ℕ → Option ℕ → Bool
is_enough n most = option_map_or (λ m. nat_le m n) most false

-- the first rows, where a number is enough
abbrev pub first_of : Option ℕ → Tables → Tables
first_of None t = t
first_of (Some n) t = take n t

-- whether a query lists a row of tables
abbrev pub is_listed : Query → Tables → Key × Row → Bool
is_listed q t a = (a.0.entity == q.entity) && option_map_or (holds t a.1) q.condition true

-- the rows that a query lists, or the first of them, where a number is enough
abbrev pub IsFirst : Option ℕ → Query → Tables → Tables → Type 0
IsFirst most q t rows = (rows ≡ listed q t) ⊎ (rows ≡ first_of most (listed q t))

-- where a key's row stands, or else where it belongs
abbrev pub place_of : Result ℕ ℕ → ℕ
place_of (Ok i) = i
place_of (Err i) = i

-- all rows of an entity are among some of the rows
abbrev pub HasEntity : ℕ → Tables → Tables → Type 0
HasEntity entity t some = (P : Key × Row → Bool) → ((a : Key × Row) → P a ≡ true → (a.0.entity == entity) ≡ true) → filter P some ≡ filter P t
