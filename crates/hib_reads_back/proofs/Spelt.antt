-- The words and texts of printed lines are those of the format.
use Rattle.std.proofs.Common.{◌≡◌, ℕ, ◌≤◌, ◌<◌, Bool, true, false, ◌&&◌, List, [], ◌∷◌, ◌++◌, length, map, slice_get, codes, Some, None, Option, refl, ap, ◌∙◌, arith}
use Rattle.std.specs.Prelude.{pos, negsuc}
use Rattle.std.specs.Fmt.{decimal}
use Rattle.std.specs.List.{list_all}
use Rattle.std.proofs.lemmas.Bool.{and_parts, and_from, lt-ltb, ltb-true}
use Rattle.std.proofs.lemmas.Fmt.{length-decimal-le}
use Rattle.hib_base.specs.declared.numbers.Key.{Key}
use Rattle.hib_base.specs.declared.rows.Cell.{Cell}
use Rattle.hib_base.specs.declared.scripts.Strategy.{Strategy}
use Rattle.hib_base.specs.declared.scripts.ColumnType.{ColumnType}
use Rattle.hib_base.specs.declared.scripts.ColumnDef.{ColumnDef}
use Rattle.hib_base.specs.declared.scripts.EntityDef.{EntityDef}
use Rattle.hib_base.specs.declared.scripts.Script.{Script}
use Rattle.hib_base.specs.Fits.{is_text, is_of_type, is_default, are_of_types, entity_columns, columns_in, kind_in, type_at}
use Rattle.hib_base.specs.Words.{is_digit, is_word_byte, is_word, is_name, are_names}
use Rattle.hib_lex.specs.declared.lexer.Token.{Token}
use Rattle.hib_print.specs.Lines as lines
use Rattle.hib_texts.specs.Texts.{entity_name, entity_text, query_name, query_text, session_name, session_text, column_name, column_text}
use Rattle.hib_reads_back.specs.Readable.{is_wide}
use Rattle.hib_reads_back.proofs.Named.{none_some, got, name_at, name_word}
use Rattle.hib_reads_back.proofs.Cells.{Mapped}
use Rattle.hib_base.specs.Scripts.{is_type_below}
use Rattle.hib_reads_back.proofs.Bytes.{digit_word}
use Rattle.hib_reads_back.proofs.Conditions.{column_shown}
use Rattle.hib_reads_back.proofs.Numbers.{tells}
use Rattle.hib_reads_back.proofs.Scanned.{is_spelt}
use Rattle.hib_reads_back.proofs.Lexed.{is_line}

-- all of a token but its number
abbrev pub is_worded : Token → Bool
is_worded (Token.Word w) = is_word w
is_worded (Token.Path v w) = is_word v && is_word w
is_worded (Token.Quoted t) = is_text t
is_worded _ = true

abbrev pub are_worded : List Token → Bool
are_worded ts = list_all is_worded ts

-- a line that begins with a word
abbrev pub is_worded_line : List Token → Bool
is_worded_line (Token.Word w ∷ ts) = is_word w && are_worded ts
is_worded_line _ = false

spelt_from : (t : Token) → is_wide t ≡ true → is_worded t ≡ true → is_spelt t ≡ true
spelt_from (Token.Word w) a b = b
spelt_from (Token.Path v w) a b = b
spelt_from (Token.Number (pos n)) a b = a
spelt_from (Token.Number (negsuc n)) a b = a
spelt_from (Token.Quoted t) a b = b
spelt_from Token.Left a b = refl
spelt_from Token.Right a b = refl

all_spelt : (ts : List Token) → list_all is_wide ts ≡ true → are_worded ts ≡ true → list_all is_spelt ts ≡ true
all_spelt [] a b = refl
all_spelt (t ∷ ts) a b =
    let wide : (is_wide t ≡ true) × (list_all is_wide ts ≡ true) = and_parts (is_wide t) (list_all is_wide ts) a in
    let worded : (is_worded t ≡ true) × (are_worded ts ≡ true) = and_parts (is_worded t) (are_worded ts) b in
    and_from (is_spelt t) (list_all is_spelt ts) (spelt_from t wide.0 worded.0) (all_spelt ts wide.1 worded.1)

pub line_spelt : (ts : List Token) → list_all is_wide ts ≡ true → is_worded_line ts ≡ true → is_line ts ≡ true
line_spelt [] a b = absurd (cc)
line_spelt (Token.Word w ∷ ts) a b =
    let parts : (is_word w ≡ true) × (are_worded ts ≡ true) = and_parts (is_word w) (are_worded ts) b in
    and_from (is_word w) (list_all is_spelt ts) parts.0 (all_spelt ts a parts.1)
line_spelt (_ ∷ ts) a b = absurd (cc)

-- ---- names
pub entity_word : (s : Script) (n : ℕ) → Mapped s.mapping → n < length s.mapping → is_word (entity_text s n) ≡ true
entity_word s n w h =
    let g = got s.mapping n h in
    ap (λ o. is_word (entity_name o)) g.there ∙ name_word g.value.name (name_at (λ e. e.name) s.mapping n g.value w.names g.there)

-- the name of a column that is there
column_in_word : (s : Script) (e c : ℕ) (o : Option EntityDef) (k : ColumnType) → Mapped s.mapping → slice_get s.mapping e ≡ o → type_at (columns_in o) c ≡ Some k → is_word (column_name (slice_get (columns_in o) c)) ≡ true
column_in_word s e c None k w h t = absurd (none_some k t)
column_in_word s e c (Some d) k w h t = there (slice_get d.columns c) refl t
  where
    there : (x : Option ColumnDef) → slice_get d.columns c ≡ x → kind_in x ≡ Some k → is_word (column_name (slice_get d.columns c)) ≡ true
    there None f t = absurd (none_some k t)
    there (Some x) f t = ap (λ z. is_word (column_name z)) f ∙ name_word x.name (name_at (λ y. y.name) d.columns c x (w.column_names e d h) f)

pub column_word : (s : Script) (e c : ℕ) (k : ColumnType) → Mapped s.mapping → type_at (entity_columns s.mapping e) c ≡ Some k → is_word (column_text s e c) ≡ true
column_word s e c k w t = ap (λ x. is_word x) (column_shown s e c) ∙ column_in_word s e c (slice_get s.mapping e) k w refl t

pub query_word : (s : Script) (n : ℕ) → are_names (map (λ q. q.name) s.queries) ≡ true → n < length s.queries → is_word (query_text s n) ≡ true
query_word s n names h =
    let g = got s.queries n h in
    ap (λ o. is_word (query_name o)) g.there ∙ name_word g.value.name (name_at (λ q. q.name) s.queries n g.value names g.there)

pub session_word : (s : Script) (n : ℕ) → are_names (map (λ d. d.name) s.sessions) ≡ true → n < length s.sessions → is_word (session_text s n) ≡ true
session_word s n names h =
    let g = got s.sessions n h in
    ap (λ o. is_word (session_name o)) g.there ∙ name_word g.value.name (name_at (λ d. d.name) s.sessions n g.value names g.there)

-- ---- versions and cells
digits_word : (ds : List ℕ) → list_all is_digit ds ≡ true → list_all is_word_byte ds ≡ true
digits_word [] h = refl
digits_word (d ∷ ds) h =
    let parts : (is_digit d ≡ true) × (list_all is_digit ds ≡ true) = and_parts (is_digit d) (list_all is_digit ds) h in
    let one : is_word_byte d ≡ true = digit_word d parts.0 in
    and_from (is_word_byte d) (list_all is_word_byte ds) one (digits_word ds parts.1)

pub version_is_word : (v : ℕ) → v ≤ 1000000 → is_word (codes "v" ++ decimal v) ≡ true
version_is_word v h =
    let short : length (decimal v) ≤ 7 = length-decimal-le 7 v (omega arith) (omega arith) (omega arith) in
    let shown : list_all is_digit (decimal v) ≡ true = (tells v (omega arith)).digits in
    rw (lt-ltb (length (decimal v)) 32 (omega arith), digits_word (decimal v) shown) refl

pub cell_worded : (k : ColumnType) (c : Cell) → is_of_type k c ≡ true → is_worded (lines.cell_token c) ≡ true
cell_worded k (Cell.Int n) h = refl
cell_worded ColumnType.Text (Cell.Text t) h = h
cell_worded ColumnType.Int (Cell.Text t) h = absurd (cc)
cell_worded ColumnType.Bool (Cell.Text t) h = absurd (cc)
cell_worded (ColumnType.Ref e) (Cell.Text t) h = absurd (cc)
cell_worded k (Cell.Bool true) h = refl
cell_worded k (Cell.Bool false) h = refl

pub cells_worded : (k : ColumnType) (cs : List Cell) → list_all (λ c. is_of_type k c) cs ≡ true → are_worded (lines.cell_tokens cs) ≡ true
cells_worded k [] h = refl
cells_worded k (c ∷ cs) h =
    let parts : (is_of_type k c ≡ true) × (list_all (λ x. is_of_type k x) cs ≡ true) = and_parts (is_of_type k c) (list_all (λ x. is_of_type k x) cs) h in
    and_from (is_worded (lines.cell_token c)) (are_worded (lines.cell_tokens cs)) (cell_worded k c parts.0) (cells_worded k cs parts.1)

pub row_cells_worded : (ds : List ColumnDef) (cs : List Cell) → are_of_types ds cs ≡ true → are_worded (lines.cell_tokens cs) ≡ true
row_cells_worded [] [] h = refl
row_cells_worded [] (c ∷ cs) h = absurd (cc)
row_cells_worded (d ∷ ds) [] h = absurd (cc)
row_cells_worded (d ∷ ds) (c ∷ cs) h =
    let parts : (is_of_type d.kind c ≡ true) × (are_of_types ds cs ≡ true) = and_parts (is_of_type d.kind c) (are_of_types ds cs) h in
    and_from (is_worded (lines.cell_token c)) (are_worded (lines.cell_tokens cs)) (cell_worded d.kind c parts.0) (row_cells_worded ds cs parts.1)

pub key_worded : (s : Script) (k : Key) → Mapped s.mapping → k.entity < length s.mapping → are_worded (lines.key_tokens s k) ≡ true
key_worded s k w h = rw (entity_word s k.entity w h) refl

-- ---- entities
strategy_word : (t : Strategy) → is_word (lines.strategy_text t) ≡ true
strategy_word Strategy.Uncached = refl
strategy_word Strategy.ReadOnly = refl
strategy_word Strategy.Nonstrict = refl
strategy_word Strategy.ReadWrite = refl

versioning_word : (v : Bool) → is_word (lines.versioning_text v) ≡ true
versioning_word true = refl
versioning_word false = refl

pub entity_worded : (e : EntityDef) → is_name e.name ≡ true → is_worded_line (lines.entity_line e) ≡ true
entity_worded e h = rw (name_word e.name h, strategy_word e.strategy, versioning_word e.versioned) refl

pub column_worded : (s : Script) (d : ColumnDef) → Mapped s.mapping → is_name d.name ≡ true → is_type_below (length s.mapping) d.kind ≡ true → is_default d.kind d.default ≡ true → is_worded_line (lines.column_line s d) ≡ true
column_worded s d w h t p = and_from (is_word d.name) (are_worded (lines.type_tokens s d.kind ++ lines.default_tokens d.default)) (name_word d.name h) (of_kind d.kind d.default t p)
  where
    of_default : (k : ColumnType) (o : Option Cell) → is_default k o ≡ true → are_worded (lines.default_tokens o) ≡ true
    of_default k None p = refl
    of_default k (Some c) p = rw (cell_worded k c p) refl

    of_kind : (k : ColumnType) (o : Option Cell) → is_type_below (length s.mapping) k ≡ true → is_default k o ≡ true → are_worded (lines.type_tokens s k ++ lines.default_tokens o) ≡ true
    of_kind ColumnType.Int o t p = of_default ColumnType.Int o p
    of_kind ColumnType.Text o t p = of_default ColumnType.Text o p
    of_kind ColumnType.Bool o t p = of_default ColumnType.Bool o p
    of_kind (ColumnType.Ref n) o t p = rw (entity_word s n w (ltb-true n (length s.mapping) t)) (of_default (ColumnType.Ref n) o p)
