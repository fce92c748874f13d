-- What is read of an answer is what it shows.
use Rattle.std.proofs.Common.{◌≡◌, ◌≢◌, ℕ, pos, List, Some, None, Option, MatchOption, refl, sym, ◌∙◌, ap}
use Rattle.sqlite_value.specs.declared.value.Value.{Value}
use Rattle.sqlite_value.specs.declared.value.Value.TheVariants.{Null, Int}
use Rattle.sqlite_value.specs.Order.{Row as SqlRow, column, bytes}
use Rattle.sqlite.specs.Values.{or_null}
use Rattle.hib_sqlite_rows.specs.Types.{Cell, Key, Row}
use Rattle.hib_sqlite_rows.specs.Body.{packed, unpacked, IsPackable}
use Rattle.hib_sqlite_rows.specs.Shown.{shown, shown_entry}
use Rattle.hib_sqlite_rows.proofs.Laws.{unpacked_packed}

-- a version is read of a value
abbrev pub ReadsVersion : Value → Option ℕ → Type 0
ReadsVersion v o = MatchOption o (v ≡ Null) (λ x. (v ≢ Null) × (v ≡ Int (pos x)))

version_is : (v : Value) (o it : Option ℕ) → v ≡ or_null (λ n. Int (pos n)) it → ReadsVersion v o → o ≡ it
version_is v None None e h = refl
version_is v None (Some n) e h = absurd (let q : Null ≡ Int (pos n) = sym h ∙ e in cc)
version_is v (Some x) None e h = absurd (h.0 e)
version_is v (Some x) (Some n) e h = let q : Int (pos x) ≡ Int (pos n) = sym h.1 ∙ e in cc

cells_are : (body : List ℕ) (cells it : List Cell) → IsPackable it → body ≡ packed it → unpacked body ≡ Some cells → cells ≡ it
cells_are body cells it packable e h = let q : Some cells ≡ Some it = sym h ∙ ap unpacked e ∙ unpacked_packed it packable in cc

pub row_is : (row : SqlRow) (version : Option ℕ) (cells : List Cell) (it : Row) → ReadsVersion (column row 0) version → unpacked (bytes (column row 1)) ≡ Some cells → IsPackable it.cells → row ≡ shown it
    → record { version = version; cells = cells } ≡ it
row_is row version cells it v u packable e =
    let same = version_is (column row 0) version it.version (ap (λ x. column x 0) e) v in
    let cells_same = cells_are (bytes (column row 1)) cells it.cells packable (ap (λ x. bytes (column x 1)) e) u in
    λ i. record { version = same i; cells = cells_same i }

pub entry_is : (row : SqlRow) (entity id : ℕ) (version : Option ℕ) (cells : List Cell) (it : Key × Row) → column row 0 ≡ Int (pos id) → ReadsVersion (column row 1) version → unpacked (bytes (column row 2)) ≡ Some cells
    → it.0.entity ≡ entity → IsPackable it.1.cells → row ≡ shown_entry it → ◌≡◌ {A = Key × Row} (record { entity = entity; id = id }, record { version = version; cells = cells }) it
entry_is row entity id version cells it n v u e packable r =
    let number : Int (pos id) ≡ Int (pos it.0.id) = sym n ∙ ap (λ x. column x 0) r in
    let id_same : id ≡ it.0.id = cc in
    let same = version_is (column row 1) version it.1.version (ap (λ x. column x 1) r) v in
    let cells_same = cells_are (bytes (column row 2)) cells it.1.cells packable (ap (λ x. bytes (column x 2)) r) u in
    λ i. (record { entity = sym e i; id = id_same i }, record { version = same i; cells = cells_same i })
