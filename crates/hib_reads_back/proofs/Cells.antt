-- Cells, keys and columns, read back from their tokens.
use Rattle.std.proofs.Common.{◌≡◌, ℕ, ◌≤◌, ◌<◌, true, false, ◌==◌, nat_le, nat_lt, List, [], ◌∷◌, length, map, slice_get, Some, Ok, option_and_then, refl, ap, ◌∙◌, arith, eq-eqb}
use Rattle.std.proofs.lemmas.Bool.{and_parts, and_from, lt-ltb}
use Rattle.hib_base.specs.declared.numbers.Key.{Key}
use Rattle.hib_base.specs.declared.rows.Cell.{Cell}
use Rattle.hib_base.specs.declared.scripts.ColumnType.{ColumnType}
use Rattle.hib_base.specs.declared.scripts.ColumnDef.{ColumnDef}
use Rattle.hib_base.specs.declared.scripts.EntityDef.{EntityDef}
use Rattle.hib_base.specs.declared.scripts.Script.{Script}
use Rattle.hib_base.specs.Fits.{is_of_type, are_of_types, is_identifier}
use Rattle.hib_base.specs.Words.{are_names}
use Rattle.hib_lex.specs.declared.lexer.Token.{Token}
use Rattle.hib_mapping.specs.Parts.{small, entity_at, column_at}
use Rattle.hib_mapping.specs.Cells.{cell_of, is_a_cell, is_cell_of, has_type}
use Rattle.hib_statements.specs.Parts.{key_in, key_of, cells_of, are_typed}
use Rattle.hib_print.specs.Lines.{natural, cell_token, cell_tokens}
use Rattle.hib_texts.specs.Texts.{entity_text}
use Rattle.hib_reads_back.proofs.Named.{got, named_at, names_apart, got_below}

-- ---- cells
pub cell_back : (c : Cell) → cell_of (cell_token c) ≡ Some c
cell_back (Cell.Int n) = refl
cell_back (Cell.Text t) = refl
cell_back (Cell.Bool true) = refl
cell_back (Cell.Bool false) = refl

pub cells_back : (cs : List Cell) → cells_of (cell_tokens cs) ≡ Some cs
cells_back [] = refl
cells_back (c ∷ cs) = rw (cell_back c, cells_back cs) refl

pub type_back : (k : ColumnType) (c : Cell) → is_of_type k c ≡ true → has_type k c ≡ true
type_back ColumnType.Int (Cell.Int n) h = refl
type_back ColumnType.Int (Cell.Text t) h = h
type_back ColumnType.Int (Cell.Bool b) h = h
type_back ColumnType.Text (Cell.Int n) h = h
type_back ColumnType.Text (Cell.Text t) h = refl
type_back ColumnType.Text (Cell.Bool b) h = h
type_back ColumnType.Bool (Cell.Int n) h = h
type_back ColumnType.Bool (Cell.Text t) h = h
type_back ColumnType.Bool (Cell.Bool b) h = refl
type_back (ColumnType.Ref e) (Cell.Int n) h = refl
type_back (ColumnType.Ref e) (Cell.Text t) h = h
type_back (ColumnType.Ref e) (Cell.Bool b) h = h

-- a default is a cell of the column's type
pub cell_formed : (c : Cell) → is_a_cell (cell_token c) ≡ true
cell_formed (Cell.Int n) = refl
cell_formed (Cell.Text t) = refl
cell_formed (Cell.Bool true) = refl
cell_formed (Cell.Bool false) = refl

pub default_back : (k : ColumnType) (c : Cell) → is_of_type k c ≡ true → is_cell_of k (cell_token c) ≡ true
default_back ColumnType.Int (Cell.Int n) h = refl
default_back ColumnType.Int (Cell.Text t) h = h
default_back ColumnType.Int (Cell.Bool b) h = absurd (cc)
default_back ColumnType.Text (Cell.Int n) h = h
default_back ColumnType.Text (Cell.Text t) h = refl
default_back ColumnType.Text (Cell.Bool b) h = absurd (cc)
default_back ColumnType.Bool (Cell.Int n) h = h
default_back ColumnType.Bool (Cell.Text t) h = h
default_back ColumnType.Bool (Cell.Bool true) h = refl
default_back ColumnType.Bool (Cell.Bool false) h = refl
default_back (ColumnType.Ref e) (Cell.Int n) h = refl
default_back (ColumnType.Ref e) (Cell.Text t) h = h
default_back (ColumnType.Ref e) (Cell.Bool b) h = absurd (cc)

pub types_back : (ds : List ColumnDef) (cs : List Cell) → are_of_types ds cs ≡ true → are_typed ds cs ≡ true
types_back [] cs h = refl
types_back (d ∷ ds) [] h = refl
types_back (d ∷ ds) (c ∷ cs) h =
    let both : (is_of_type d.kind c ≡ true) × (are_of_types ds cs ≡ true) = and_parts (is_of_type d.kind c) (are_of_types ds cs) h in
    and_from (has_type d.kind c) (are_typed ds cs) (type_back d.kind c both.0) (types_back ds cs both.1)

same_lengths : (ds : List ColumnDef) (cs : List Cell) → are_of_types ds cs ≡ true → length ds ≡ length cs
same_lengths [] [] h = refl
same_lengths [] (c ∷ cs) h = absurd (cc)
same_lengths (d ∷ ds) [] h = absurd (cc)
same_lengths (d ∷ ds) (c ∷ cs) h =
    let rest : length ds ≡ length cs = same_lengths ds cs (and_parts (is_of_type d.kind c) (are_of_types ds cs) h).1 in
    omega arith

pub cell_count : (ds : List ColumnDef) (cs : List Cell) → are_of_types ds cs ≡ true → (length ds == length cs) ≡ true
cell_count ds cs h = eq-eqb (length ds) (length cs) (same_lengths ds cs h)

-- ---- names of entities and of columns
pub record Mapped (m : List EntityDef) : Type 0 where
  pub few : length m ≤ 64
  pub names : are_names (map (λ e. e.name) m) ≡ true
  pub columns : (n : ℕ) (e : EntityDef) → slice_get m n ≡ Some e → length e.columns ≤ 16
  pub column_names : (n : ℕ) (e : EntityDef) → slice_get m n ≡ Some e → are_names (map (λ d. d.name) e.columns) ≡ true

small_place : (n : ℕ) → n < 65536 → small n ≡ Some n
small_place n h = rw (lt-ltb n 65536 h) refl

pub entity_found : (m : List EntityDef) (n : ℕ) (e : EntityDef) → Mapped m → slice_get m n ≡ Some e → entity_at m e.name ≡ Some n
entity_found m n e w h =
    let few : length m ≤ 64 = w.few in
    let low : n < length m = got_below m n e h in
    ap (λ p. option_and_then small p) (named_at (λ x. x.name) m n e (names_apart (map (λ x. x.name) m) w.names) h) ∙ small_place n (omega arith)

pub column_found : (ds : List ColumnDef) (c : ℕ) (d : ColumnDef) → length ds ≤ 16 → are_names (map (λ x. x.name) ds) ≡ true → slice_get ds c ≡ Some d → column_at ds d.name ≡ Some c
column_found ds c d few names h =
    let low : c < length ds = got_below ds c d h in
    ap (λ p. option_and_then small p) (named_at (λ x. x.name) ds c d (names_apart (map (λ x. x.name) ds) names) h) ∙ small_place c (omega arith)

-- the entity of a number that is there is found by the name that is printed for it
pub entity_back : (script : Script) (n : ℕ) → Mapped script.mapping → n < length script.mapping → entity_at script.mapping (entity_text script n) ≡ Some n
entity_back script n w h =
    let g = got script.mapping n h in
    rw g.there (entity_found script.mapping n g.value w g.there)

-- ---- keys
pub key_back : (script : Script) (k : Key) → Mapped script.mapping → k.entity < length script.mapping → is_identifier k.id ≡ true →
    key_of script.mapping (Token.Word (entity_text script k.entity)) (natural k.id) ≡ Ok k
key_back script k w h i =
    let low : nat_le 1 k.id ≡ true = (and_parts (nat_le 1 k.id) (nat_lt k.id 9223372036854775808) i).0 in
    ap (λ e. key_in e k.id) (entity_back script k.entity w h) ∙ rw low refl
