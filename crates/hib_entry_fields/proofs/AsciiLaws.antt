-- The texts of well-formed fields are ASCII.
use Rattle.std.proofs.Common.{◌≡◌, ℕ, suc, ◌^◌, ◌<◌, List, [], ◌∷◌, ◌++◌, Option, Some, None, refl, Bool, true, false, ◌==◌, ◌||◌, arith, flat_map, nat_lt, nat_le, codes, pos, negsuc, length}
use Rattle.std.specs.Fmt.{decimal}
use Rattle.std.specs.List.{list_all}
use Rattle.std.proofs.lemmas.List.Folds.{list_all-append}
use Rattle.std.proofs.lemmas.List.Concat.{flat_map-cons}
use Rattle.std.proofs.lemmas.Bool.{and_from}
use Rattle.std.proofs.lemmas.Bool.Decides.{nat_tests}
use Rattle.hib_base.specs.Fits.{is_printable, entity_columns}
use Rattle.hib_lex.specs.Tokens.{is_digit}
use Rattle.hib_journal.specs.Types.{Key, Cell, Row, Script}
use Rattle.hib_texts.specs.Texts.{escaped, cell_text, version_text, row_text, list_text, entity_text, column_text, key_text, names_text, sets_text}
use Rattle.hib_entry_fields.specs.Known.{is_version, is_cell, are_cells, is_row, is_entity, are_tables, is_set, are_sets}
use Rattle.hib_entry_fields.proofs.PieceLaws.{is_ascii, and_left, and_right, numeral}
use Rattle.hib_entry_fields.proofs.CellLaws.{cells_text}
use Rattle.hib_entry_fields.proofs.NameLaws.{IsNamed, known_entity, known_column}
use Rattle.hib_entry_fields.proofs.FieldLaws.{IsKey, lt_from}

pub join2 : (a b : List ℕ) → is_ascii a ≡ true → is_ascii b ≡ true → is_ascii (a ++ b) ≡ true
join2 a b h k = rw (list_all-append (λ b. nat_lt b 128) a b) (and_from (is_ascii a) (is_ascii b) h k)

pub join3 : (a b c : List ℕ) → is_ascii a ≡ true → is_ascii b ≡ true → is_ascii c ≡ true → is_ascii (a ++ b ++ c) ≡ true
join3 a b c h1 h2 h3 = join2 (a ++ b) c (join2 a b h1 h2) h3

pub join4 : (a b c d : List ℕ) → is_ascii a ≡ true → is_ascii b ≡ true → is_ascii c ≡ true → is_ascii d ≡ true → is_ascii (a ++ b ++ c ++ d) ≡ true
join4 a b c d h1 h2 h3 h4 = join2 (a ++ b ++ c) d (join3 a b c h1 h2 h3) h4

-- ---- numbers

digit_ascii : (d : ℕ) → is_digit d ≡ true → nat_lt d 128 ≡ true
digit_ascii d h = grind (arith, nat_tests)

digits_ascii : (ds : List ℕ) → list_all is_digit ds ≡ true → is_ascii ds ≡ true
digits_ascii [] h = refl
digits_ascii (d ∷ ds) h = rw (digit_ascii d (and_left (is_digit d) (list_all is_digit ds) h)) (digits_ascii ds (and_right (is_digit d) (list_all is_digit ds) h))

pub decimal_ascii : (n : ℕ) → n < 2 ^ 64 → is_ascii (decimal n) ≡ true
decimal_ascii n lt = digits_ascii (decimal n) (numeral n lt).0

pub version_ascii : (v : Option ℕ) → is_version v ≡ true → is_ascii (version_text v) ≡ true
version_ascii None w = refl
version_ascii (Some v) w = let lt : v < 2 ^ 32 = lt_from v (2 ^ 32) w in decimal_ascii v (omega arith)

pub key_ascii : (script : Script) (k : Key) → IsKey script k → is_ascii (key_text script k) ≡ true
key_ascii script k h = join3 (entity_text script k.entity) (codes " ") (decimal k.id) h.entity.ascii refl (decimal_ascii k.id h.id)

-- ---- cells

escaped_by : (v : Bool) (b : ℕ) → ((b == 34) || (b == 92)) ≡ v → is_printable b ≡ true → is_ascii (escaped b) ≡ true
escaped_by true b e h = let small : nat_lt b 128 ≡ true = grind (arith, nat_tests) in rw e (rw small refl)
escaped_by false b e h = let small : nat_lt b 128 ≡ true = grind (arith, nat_tests) in rw e (rw small refl)

text_ascii : (t : List ℕ) → list_all is_printable t ≡ true → is_ascii (flat_map escaped t) ≡ true
text_ascii [] h = refl
text_ascii (b ∷ t) h =
    rw (flat_map-cons, list_all-append (λ b. nat_lt b 128) (escaped b) (flat_map escaped t), escaped_by ((b == 34) || (b == 92)) b refl (and_left (is_printable b) (list_all is_printable t) h))
    (text_ascii t (and_right (is_printable b) (list_all is_printable t) h))

pub cell_ascii : (c : Cell) → is_cell c ≡ true → is_ascii (cell_text c) ≡ true
cell_ascii (Cell.Int (pos n)) w = let lt : n < 2 ^ 63 = lt_from n (2 ^ 63) w in decimal_ascii n (omega arith)
cell_ascii (Cell.Int (negsuc n)) w = let lt : n < 2 ^ 63 = lt_from n (2 ^ 63) w in decimal_ascii (suc n) (omega arith)
cell_ascii (Cell.Text t) w = join2 (flat_map escaped t) (34 ∷ []) (text_ascii t (and_right (nat_le (length t) 200) (list_all is_printable t) w)) refl
cell_ascii (Cell.Bool true) w = refl
cell_ascii (Cell.Bool false) w = refl

cells_ascii : (cs : List Cell) → are_cells cs ≡ true → is_ascii (cells_text cs) ≡ true
cells_ascii [] w = refl
cells_ascii (c ∷ cs) w = join2 (cell_text c) (cells_text cs) (cell_ascii c (and_left (is_cell c) (are_cells cs) w)) (cells_ascii cs (and_right (is_cell c) (are_cells cs) w))

pub row_ascii : (r : Row) → is_row r ≡ true → is_ascii (row_text r) ≡ true
row_ascii r w = join2 (version_text r.version) (cells_text r.cells) (version_ascii r.version (and_left (is_version r.version) (are_cells r.cells) w)) (cells_ascii r.cells (and_right (is_version r.version) (are_cells r.cells) w))

pub list_ascii : (cs : List Cell) → are_cells cs ≡ true → is_ascii (list_text cs) ≡ true
list_ascii [] w = refl
list_ascii (c ∷ cs) w =
    join2 (cell_text c ++ cells_text cs) (93 ∷ []) (join2 (cell_text c) (cells_text cs) (cell_ascii c (and_left (is_cell c) (are_cells cs) w)) (cells_ascii cs (and_right (is_cell c) (are_cells cs) w))) refl

-- ---- tables and sets

names_ascii : (script : Script) (ts : List ℕ) → IsNamed script → list_all (λ t. is_entity script t) ts ≡ true → is_ascii (names_text script ts) ≡ true
names_ascii script [] h w = refl
names_ascii script (t ∷ ts) h w =
    join2 (entity_text script t) (names_text script ts) (known_entity script t h (lt_from t (length script.mapping) (and_left (is_entity script t) (list_all (λ t. is_entity script t) ts) w))).ascii
    (names_ascii script ts h (and_right (is_entity script t) (list_all (λ t. is_entity script t) ts) w))

pub tables_ascii : (script : Script) (ts : List ℕ) → IsNamed script → are_tables script ts ≡ true → is_ascii (names_text script ts) ≡ true
tables_ascii script ts h w = names_ascii script ts h (and_right (nat_le 1 (length ts)) (list_all (λ t. is_entity script t) ts) w)

pairs_ascii : (script : Script) (entity : ℕ) (xs : List (ℕ × Cell)) → IsNamed script → list_all (λ x. is_set script entity x) xs ≡ true → is_ascii (sets_text script entity xs) ≡ true
pairs_ascii script entity [] h w = refl
pairs_ascii script entity (x ∷ xs) h w =
    let here = and_left (is_set script entity x) (list_all (λ x. is_set script entity x) xs) w in
    let column = known_column script entity x.0 h (lt_from x.0 (length (entity_columns script.mapping entity)) (and_left (nat_lt x.0 (length (entity_columns script.mapping entity))) (is_cell x.1) here)) in
    join2 (codes " " ++ column_text script entity x.0 ++ codes " " ++ cell_text x.1) (sets_text script entity xs)
    (join4 (codes " ") (column_text script entity x.0) (codes " ") (cell_text x.1) refl column.ascii refl (cell_ascii x.1 (and_right (nat_lt x.0 (length (entity_columns script.mapping entity))) (is_cell x.1) here)))
    (pairs_ascii script entity xs h (and_right (is_set script entity x) (list_all (λ x. is_set script entity x) xs) w))

pub sets_ascii : (script : Script) (entity : ℕ) (xs : List (ℕ × Cell)) → IsNamed script → are_sets script entity xs ≡ true → is_ascii (sets_text script entity xs) ≡ true
sets_ascii script entity xs h w = pairs_ascii script entity xs h (and_right (nat_le 1 (length xs)) (list_all (λ x. is_set script entity x) xs) w)
