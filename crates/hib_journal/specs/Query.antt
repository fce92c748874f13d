-- What a query gives over tables.
use Rattle.std.specs.Prelude.{ℕ, Bool, true, false, if◌then◌else◌, not, ◌&&◌, ◌||◌, ◌==◌, nat_lt, List, [], ◌∷◌, length, map, take, drop, pos, int_lt, int_le, slice_get, Some, None, Option, unwrap_or, option_and_then}
use Rattle.std.specs.Option.{option_map_or}
use Rattle.std.specs.List.{filter, list_any, range_with_len}
use Rattle.std.specs.Str.{bytes_eq}
use Rattle.hib_journal.specs.Types.{Key, Row, Cell, Op, Path, Target, Cond, Sort, Select, Query}
use Rattle.hib_base.specs.Tables.{Tables, row_at}
use Rattle.hib_journal.specs.Room.{key}

abbrev pub is_below_text : List ℕ → List ℕ → Bool
is_below_text [] [] = false
is_below_text [] (y ∷ ys) = true
is_below_text (x ∷ xs) [] = false
is_below_text (x ∷ xs) (y ∷ ys) = nat_lt x y || ((x == y) && is_below_text xs ys)

-- one cell is below another of its type: false is before true, texts go by bytes
abbrev pub is_below_cell : Cell → Cell → Bool
is_below_cell (Cell.Int a) (Cell.Int b) = int_lt a b
is_below_cell (Cell.Text a) (Cell.Text b) = is_below_text a b
is_below_cell (Cell.Bool false) (Cell.Bool true) = true
is_below_cell _ _ = false

abbrev pub same_cell : Cell → Cell → Bool
same_cell (Cell.Int a) (Cell.Int b) = int_le a b && int_le b a
same_cell (Cell.Text a) (Cell.Text b) = bytes_eq a b
same_cell (Cell.Bool true) (Cell.Bool b) = b
same_cell (Cell.Bool false) (Cell.Bool b) = not b
same_cell _ _ = false

abbrev pub passes : Op → Cell → Cell → Bool
passes Op.Eq a b = same_cell a b
passes Op.Ne a b = not (same_cell a b)
passes Op.Lt a b = is_below_cell a b
passes Op.Le a b = not (is_below_cell b a)
passes Op.Gt a b = is_below_cell b a
passes Op.Ge a b = not (is_below_cell a b)

-- the row to which a cell refers
abbrev pub row_of_ref : Tables → ℕ → Option Cell → Option Row
row_of_ref t n (Some (Cell.Int (pos i))) = row_at t (key n i)
row_of_ref t n _ = None

abbrev pub cell_by : Tables → Row → ℕ → Option Target → Option Cell
cell_by t r c None = slice_get r.cells c
cell_by t r c (Some g) = option_and_then (λ x. slice_get x.cells g.column) (row_of_ref t g.entity (slice_get r.cells c))

-- the cell at a path, or none if the row to which it steps is missing
abbrev pub cell_at : Tables → Row → Path → Option Cell
cell_at t r p = cell_by t r p.column p.target

abbrev pub holds : Tables → Row → Cond → Bool
holds t r (Cond.And' p a q b) = holds t r a && holds t r b
holds t r (Cond.Or' p a q b) = holds t r a || holds t r b
holds t r (Cond.Not' p a) = not (holds t r a)
holds t r (Cond.Test op p c) = option_map_or (λ d. passes op d c) (cell_at t r p) false
holds t r (Cond.Among p cs) = option_map_or (λ d. list_any (λ c. same_cell d c) cs) (cell_at t r p) false

abbrev pub is_below_at : Option Cell → Option Cell → Bool
is_below_at (Some a) (Some b) = is_below_cell a b
is_below_at _ _ = false

-- by the columns in turn, then by identifier
abbrev pub comes_before : List Sort → Key × Row → Key × Row → Bool
comes_before [] a b = nat_lt a.0.id b.0.id
comes_before (o ∷ os) a b =
    let up = is_below_at (slice_get a.1.cells o.column) (slice_get b.1.cells o.column) in
    let down = is_below_at (slice_get b.1.cells o.column) (slice_get a.1.cells o.column) in
    if (if o.desc then down else up) then true else (if (if o.desc then up else down) then false else comes_before os a b)

abbrev pub placed : List Sort → Key × Row → Tables → Tables
placed os a [] = a ∷ []
placed os a (b ∷ bs) = if comes_before os b a then b ∷ placed os a bs else a ∷ b ∷ bs

abbrev pub sorted : List Sort → Tables → Tables
sorted os [] = []
sorted os (a ∷ bs) = placed os a (sorted os bs)

-- the rows that the condition lists
abbrev pub listed : Query → Tables → Tables
listed q t = filter (λ a. (a.0.entity == q.entity) && option_map_or (holds t a.1) q.condition true) t

abbrev pub selected : Query → Tables → Select → List Cell
selected q rows Select.Count = Cell.Int (pos (length rows)) ∷ []
selected q rows Select.Ids = map (λ a. Cell.Int (pos a.0.id)) (take q.limit (drop q.offset (sorted q.order rows)))
selected q rows (Select.Column c) =
    map (λ a. unwrap_or (slice_get a.1.cells c) (Cell.Bool false)) (take q.limit (drop q.offset (sorted q.order rows)))

-- what a query gives over tables
unfoldable pub gives : Query → Tables → List Cell
gives q t = selected q (listed q t) q.select

abbrev pub mentions : ℕ → Cond → Bool
mentions n (Cond.And' p a q b) = mentions n a || mentions n b
mentions n (Cond.Or' p a q b) = mentions n a || mentions n b
mentions n (Cond.Not' p a) = mentions n a
mentions n (Cond.Test op p c) = option_map_or (λ g. g.entity == n) p.target false
mentions n (Cond.Among p cs) = option_map_or (λ g. g.entity == n) p.target false

-- whether a query reads table n: its entity, or the target of a step
abbrev pub reads : Query → ℕ → Bool
reads q n = (q.entity == n) || option_map_or (mentions n) q.condition false

-- its tables, in the mapping's order
abbrev pub tables : ℕ → Query → List ℕ
tables entities q = filter (λ n. reads q n) (range_with_len 0 entities)
