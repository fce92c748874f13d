-- Identifiers among which all rows are that meet a condition.
use Rattle.std.specs.Prelude.{◌≡◌, ℕ, ◌<◌, ◌^◌, true, pos, List, Some}
use Rattle.std.specs.Option.{option_map_or}
use Rattle.hib_journal.specs.Types.{Row, Cell, Change, Cond, Query}
use Rattle.hib_base.specs.Tables.{Tables, row_at}
use Rattle.hib_journal.specs.Room.{key}
use Rattle.hib_journal.specs.Query.{holds}
use Rattle.hib_query_eval.specs.declared.columns.Column.{Column}
use Rattle.hib_query_eval.specs.declared.own.Laid.{Laid}
use Rattle.hib_query_eval.specs.declared.places.Place.{Place}
use Rattle.hib_query_eval.specs.Places.{AreIndexes, has_id, has_place}
use Rattle.hib_query_eval.specs.Views.{is_changed}

-- in all tables of whose columns these are the indexes
abbrev pub Covers : List Column → ℕ → Cond → List ℕ → Type 0
Covers cs entity condition ids =
    (t : Tables) → AreIndexes cs t → (r : Row) (id : ℕ) → row_at t (key entity id) ≡ Some r → holds t r condition ≡ true → has_id id ids ≡ true

-- the rows whose cell in a column refers to a row of one of some identifiers
abbrev pub Refer : List Place → List ℕ → List ℕ → Type 0
Refer ps targets ids =
    (i j : ℕ) → i < 2 ^ 64 → has_id j targets ≡ true → has_place ps i (Cell.Int (pos j)) ≡ true → has_id i ids ≡ true

-- the rows of tables that meet a query's condition
abbrev pub HasMet : Query → Tables → List ℕ → Type 0
HasMet q t ids = (r : Row) (i : ℕ) → row_at t (key q.entity i) ≡ Some r → option_map_or (holds t r) q.condition true ≡ true → has_id i ids ≡ true

-- the rows that changes leave and that meet a query's condition, over whatever tables
abbrev pub HasLeft : Query → List Change → Laid → List ℕ → Type 0
HasLeft q cs laid ids =
    (t : Tables) (r : Row) (i : ℕ) → row_at laid.left (key q.entity i) ≡ Some r → is_changed (key q.entity i) cs ≡ true
    → option_map_or (holds t r) q.condition true ≡ true → has_id i ids ≡ true
