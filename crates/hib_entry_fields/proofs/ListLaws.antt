-- Tables and sets that were written are read again; cells and rows that are well formed can be read.
use Rattle.std.proofs.Common.{◌≡◌, ℕ, zero, suc, ◌^◌, ◌≤◌, List, [], ◌∷◌, ◌++◌, length, Option, Some, None, refl, ap, ◌∙◌, true, arith, append_assoc, codes, nat_lt, nat_le, length-append, pos, negsuc}
use Rattle.std.specs.List.{list_all}
use Rattle.std.proofs.lemmas.Bool.{leb-true}
use Rattle.hib_base.specs.Fits.{entity_columns}
use Rattle.hib_journal.specs.Types.{Cell, Row, Script}
use Rattle.hib_texts.specs.Texts.{entity_text, column_text, cell_text, names_text, sets_text}
use Rattle.hib_entry_fields.specs.Fields.{entity_of, column_of, next, after, behind, names_from, cell_at, set_at, sets_from}
use Rattle.hib_entry_fields.specs.Known.{is_version, is_cell, are_cells, is_row, is_entity, are_tables, is_set, are_sets}
use Rattle.hib_entry_fields.proofs.PieceLaws.{Stops, and_left, and_right, after_again}
use Rattle.hib_entry_fields.proofs.CellLaws.{IsCell, AreCells, IsVersion, IsRow, cell_again}
use Rattle.hib_entry_fields.proofs.NameLaws.{IsNamed, IsColumn, known_entity, known_column}
use Rattle.hib_entry_fields.proofs.FieldLaws.{lt_from, name_next}

-- ---- cells and rows

pub cell_fits : (c : Cell) → is_cell c ≡ true → IsCell c
cell_fits (Cell.Int (pos n)) h = lt_from n (2 ^ 63) h
cell_fits (Cell.Int (negsuc n)) h = lt_from n (2 ^ 63) h
cell_fits (Cell.Text t) h = tt
cell_fits (Cell.Bool b) h = tt

pub cells_fit : (cells : List Cell) → are_cells cells ≡ true → AreCells cells
cells_fit [] h = tt
cells_fit (c ∷ cs) h = (cell_fits c (and_left (is_cell c) (are_cells cs) h), cells_fit cs (and_right (is_cell c) (are_cells cs) h))

pub version_fits : (v : Option ℕ) → is_version v ≡ true → IsVersion v
version_fits None h = tt
version_fits (Some v) h = lt_from v (2 ^ 32) h

pub row_fits : (r : Row) → is_row r ≡ true → IsRow r
row_fits r h = record {
  version = version_fits r.version (and_left (is_version r.version) (are_cells r.cells) h);
  cells = cells_fit r.cells (and_right (is_version r.version) (are_cells r.cells) h);
}

-- ---- tables

names_stop : (script : Script) (ts : List ℕ) → Stops (names_text script ts)
names_stop script [] = tt
names_stop script (t ∷ ts) = refl

names_again : (script : Script) (ts : List ℕ) (fuel : ℕ) → IsNamed script → length ts ≤ fuel → list_all (λ t. is_entity script t) ts ≡ true → names_from script fuel (names_text script ts) ≡ ts
unfolding names_from
names_again script [] zero h le w = refl
names_again script [] (suc fuel) h le w = refl
names_again script (t ∷ ts) zero h le w = absurd (omega arith)
names_again script (t ∷ ts) (suc fuel) h le w =
    let known = known_entity script t h (lt_from t (length script.mapping) (and_left (is_entity script t) (list_all (λ t. is_entity script t) ts) w)) in
    let first = name_next (entity_of script) (entity_text script t) t (names_text script ts) known (names_stop script ts) in
    let rest = after_again (entity_text script t) (names_text script ts) known.plain (names_stop script ts) in
    let others = names_again script ts fuel h (omega (arith, le)) (and_right (is_entity script t) (list_all (λ t. is_entity script t) ts) w) in
    ap (λ (n : ℕ). n ∷ names_from script fuel (after (32 ∷ (entity_text script t ++ names_text script ts)))) first ∙ ap (λ (bs : List ℕ). t ∷ names_from script fuel bs) rest ∙ ap (λ (ns : List ℕ). t ∷ ns) others

names_length : (script : Script) (ts : List ℕ) → length ts ≤ length (names_text script ts)
names_length script [] = omega arith
names_length script (t ∷ ts) = omega (arith, names_length script ts, length-append (entity_text script t) (names_text script ts))

pub tables_again : (script : Script) (ts : List ℕ) → IsNamed script → are_tables script ts ≡ true → names_from script (length (names_text script ts)) (names_text script ts) ≡ ts
tables_again script ts h w =
    names_again script ts (length (names_text script ts)) h (names_length script ts) (and_right (nat_le 1 (length ts)) (list_all (λ t. is_entity script t) ts) w)

-- the first table stands after a space
pub some_tables : (script : Script) (ts : List ℕ) → are_tables script ts ≡ true → 1 ≤ length ts
some_tables script ts w = leb-true 1 (length ts) (and_left (nat_le 1 (length ts)) (list_all (λ t. is_entity script t) ts) w)

-- ---- sets

set_by : (script : Script) (entity : ℕ) (bs b1 : List ℕ) (n : ℕ) (c : Cell) (rest : List ℕ) → column_of script entity (next bs) ≡ n → after bs ≡ 32 ∷ b1 → cell_at b1 ≡ Some (c, rest) → set_at script entity bs ≡ Some ((n, c), rest)
unfolding set_at
set_by script entity bs b1 n c rest e1 e2 e3 = rw (e1, e2) (rw e3 refl)

pub set_again : (script : Script) (entity n : ℕ) (c : Cell) (rest : List ℕ) → IsColumn script entity n → IsCell c → Stops rest
    → set_at script entity (32 ∷ (column_text script entity n ++ (32 ∷ (cell_text c ++ rest)))) ≡ Some ((n, c), rest)
set_again script entity n c rest h f s =
    let name : List ℕ = column_text script entity n in
    let more : List ℕ = 32 ∷ (cell_text c ++ rest) in
    set_by script entity (32 ∷ (name ++ more)) (cell_text c ++ rest) n c rest (name_next (column_of script entity) name n more h refl) (after_again name more h.plain refl) (cell_again c rest f s)

pub sets_stop : (script : Script) (entity : ℕ) (xs : List (ℕ × Cell)) → Stops (sets_text script entity xs)
sets_stop script entity [] = tt
sets_stop script entity (x ∷ xs) = refl

set_split : (name cell rest : List ℕ) → (codes " " ++ name ++ codes " " ++ cell) ++ rest ≡ 32 ∷ (name ++ (32 ∷ (cell ++ rest)))
set_split name cell rest = simp append_assoc

no_set : (script : Script) (entity : ℕ) → set_at script entity [] ≡ None
unfolding set_at after behind cell_at
no_set script entity = refl

sets_again : (script : Script) (entity : ℕ) (xs : List (ℕ × Cell)) (fuel : ℕ) → IsNamed script → length xs ≤ fuel → list_all (λ x. is_set script entity x) xs ≡ true → sets_from script entity fuel (sets_text script entity xs) ≡ xs
unfolding sets_from
sets_again script entity [] zero h le w = refl
sets_again script entity [] (suc fuel) h le w = rw (no_set script entity) refl
sets_again script entity (x ∷ xs) zero h le w = absurd (omega arith)
sets_again script entity (x ∷ xs) (suc fuel) h le w =
    let here = and_left (is_set script entity x) (list_all (λ x. is_set script entity x) xs) w in
    let known = known_column script entity x.0 h (lt_from x.0 (length (entity_columns script.mapping entity)) (and_left (nat_lt x.0 (length (entity_columns script.mapping entity))) (is_cell x.1) here)) in
    let fit = cell_fits x.1 (and_right (nat_lt x.0 (length (entity_columns script.mapping entity))) (is_cell x.1) here) in
    let more : List ℕ = sets_text script entity xs in
    let first : set_at script entity (sets_text script entity (x ∷ xs)) ≡ Some ((x.0, x.1), more) = ap (set_at script entity) (set_split (column_text script entity x.0) (cell_text x.1) more) ∙ set_again script entity x.0 x.1 more known fit (sets_stop script entity xs) in
    let others = sets_again script entity xs fuel h (omega (arith, le)) (and_right (is_set script entity x) (list_all (λ x. is_set script entity x) xs) w) in
    rw first (ap (λ (ys : List (ℕ × Cell)). x ∷ ys) others)

sets_length : (script : Script) (entity : ℕ) (xs : List (ℕ × Cell)) → length xs ≤ length (sets_text script entity xs)
sets_length script entity [] = omega arith
sets_length script entity (x ∷ xs) =
    omega (arith, sets_length script entity xs, ap length (set_split (column_text script entity x.0) (cell_text x.1) (sets_text script entity xs)), length-append (column_text script entity x.0) (32 ∷ (cell_text x.1 ++ sets_text script entity xs)), length-append (cell_text x.1) (sets_text script entity xs))

pub sets_read_again : (script : Script) (entity : ℕ) (xs : List (ℕ × Cell)) → IsNamed script → are_sets script entity xs ≡ true → sets_from script entity (length (sets_text script entity xs)) (sets_text script entity xs) ≡ xs
sets_read_again script entity xs h w =
    sets_again script entity xs (length (sets_text script entity xs)) h (sets_length script entity xs) (and_right (nat_le 1 (length xs)) (list_all (λ x. is_set script entity x) xs) w)
