-- Cells, rows and lists that were written are read again.
use Rattle.std.proofs.Common.{◌≡◌, ℕ, zero, suc, ◌^◌, ◌<◌, ◌≤◌, List, [], ◌∷◌, ◌++◌, length, drop, ◌==◌, Option, Some, None, refl, ap, ◌∙◌, Bool, true, false, ◌||◌, arith, append_assoc, nat_le, length-append, codes, ℤ, pos, negsuc, flat_map, bytes_eq}
use Rattle.std.specs.List.{list_all, AllByRecursion}
use Rattle.std.specs.Fmt.{decimal, signed_decimal}
use Rattle.std.proofs.lemmas.List.Concat.{flat_map-cons}
use Rattle.std.proofs.lemmas.Bool.Decides.{nat_tests}
use Rattle.hib_journal.specs.Types.{Cell, Row}
use Rattle.hib_lex.specs.Tokens.{is_digit}
use Rattle.hib_texts.specs.Texts.{escaped, cell_text, list_text, version_text, row_text, bool_text}
use Rattle.hib_entry_fields.specs.Fields.{piece, next, after, number_of, signed_of, version_of, quoted, begins_number, bare_cell, text_at, cell_at, cells_from, cells_at, row_at, after_row}
use Rattle.hib_entry_fields.proofs.PieceLaws.{is_plain, Stops, and_left, piece_again, behind_again, next_again, after_again, numeral, decimal_plain, number_again, lt_true}

-- ---- texts

quoted_byte_by : (v w : Bool) (b : ℕ) (more : List ℕ) → (b == 34) ≡ v → (b == 92) ≡ w → quoted false (escaped b ++ more) ≡ (b ∷ (quoted false more).0, (quoted false more).1)
unfolding quoted
quoted_byte_by true w b more e f = rw e refl
quoted_byte_by false true b more e f = rw (e, f) refl
quoted_byte_by false false b more e f = rw (e, f) (rw (e, f) refl)

quoted_again : (t rest : List ℕ) → quoted false (flat_map escaped t ++ 34 ∷ rest) ≡ (t, rest)
unfolding quoted
quoted_again [] rest = refl
quoted_again (b ∷ t) rest =
    let more : List ℕ = flat_map escaped t ++ 34 ∷ rest in
    let e : flat_map escaped (b ∷ t) ++ 34 ∷ rest ≡ escaped b ++ more = rw flat_map-cons (append_assoc (escaped b) (flat_map escaped t) (34 ∷ rest)) in
    rw e (quoted_byte_by (b == 34) (b == 92) b more refl refl ∙ ap (λ (p : List ℕ × List ℕ). (b ∷ p.0, p.1)) (quoted_again t rest))

-- ---- numbers

abbrev pub IsSmall : ℤ → Type 0
IsSmall (pos n) = n < 2 ^ 63
IsSmall (negsuc n) = n < 2 ^ 63

record LooksAs (p : List ℕ) (z : ℤ) : Type 0 where
  begins : begins_number p ≡ true
  plain : is_plain p ≡ true
  value : signed_of p ≡ z

no_dash : (d : ℕ) → is_digit d ≡ true → (d == 45) ≡ false
no_dash d h = grind (arith, nat_tests)

digits_look : (ds : List ℕ) (n : ℕ) → n < 2 ^ 63 → list_all is_digit ds ≡ true → 0 < length ds → is_plain ds ≡ true → number_of ds ≡ n → LooksAs ds (pos n)
digits_look [] n lt h l p e = absurd (omega arith)
digits_look (d ∷ ds) n lt h l p e =
    let first : is_digit d ≡ true = and_left (is_digit d) (list_all is_digit ds) h in
    record { begins = rw (no_dash d first, first) refl; plain = p; value = rw (no_dash d first, e, lt_true n (2 ^ 63) lt) refl }

signed_look : (z : ℤ) → IsSmall z → LooksAs (signed_decimal z) z
signed_look (pos n) lt =
    let small64 : n < 2 ^ 64 = omega (arith, lt) in
    let h = numeral n small64 in
    digits_look (decimal n) n lt h.0 h.2 (decimal_plain n small64) (number_again n small64)
signed_look (negsuc n) lt =
    let small64 : suc n < 2 ^ 64 = omega (arith, lt) in
    let le : nat_le (suc n) (2 ^ 63) ≡ true = grind (arith, nat_tests) in
    record { begins = refl; plain = decimal_plain (suc n) small64; value = rw (number_again (suc n) small64, le) refl }

-- ---- cells

no_word : (d t : ℕ) → (d == 45) || (is_digit d) ≡ true → 57 < t → (d == t) ≡ false
no_word d t h lt = grind (arith, nat_tests)

number_cell : (p : List ℕ) (z : ℤ) → LooksAs p z → bare_cell p ≡ Some (Cell.Int z)
unfolding bare_cell
number_cell [] z h = absurd (cc (h.begins))
number_cell (d ∷ p) z h =
    let t : (d == 116) ≡ false = no_word d 116 h.begins (omega arith) in
    let f : (d == 102) ≡ false = no_word d 102 h.begins (omega arith) in
    rw (t, f, h.begins, h.value) refl

no_mark : (d : ℕ) → (d == 45) || (is_digit d) ≡ true → (d == 34) ≡ false
no_mark d h = grind (arith, nat_tests)

number_at_front : (p : List ℕ) (z : ℤ) (rest : List ℕ) → LooksAs p z → Stops rest → cell_at (p ++ rest) ≡ Some (Cell.Int z, rest)
unfolding cell_at
number_at_front [] z rest h s = absurd (cc (h.begins))
number_at_front (d ∷ p) z rest h s =
    rw (no_mark d h.begins) (rw (piece_again (d ∷ p) rest h.plain s, behind_again (d ∷ p) rest h.plain s, number_cell (d ∷ p) z h) refl)

abbrev pub IsCell : Cell → Type 0
IsCell (Cell.Int z) = IsSmall z
IsCell (Cell.Text t) = Unit {0}
IsCell (Cell.Bool b) = Unit {0}

bool_again : (b : Bool) (rest : List ℕ) → Stops rest → cell_at (bool_text b ++ rest) ≡ Some (Cell.Bool b, rest)
unfolding cell_at bare_cell
bool_again true rest s = rw (piece_again (codes "true") rest refl s, behind_again (codes "true") rest refl s) refl
bool_again false rest s = rw (piece_again (codes "false") rest refl s, behind_again (codes "false") rest refl s) refl

text_again : (t rest : List ℕ) → cell_at (cell_text (Cell.Text t) ++ rest) ≡ Some (Cell.Text t, rest)
unfolding cell_at
text_again t rest =
    let e : (flat_map escaped t ++ 34 ∷ []) ++ rest ≡ flat_map escaped t ++ 34 ∷ rest = append_assoc (flat_map escaped t) (34 ∷ []) rest in
    rw e (ap text_at (quoted_again t rest))

pub cell_again : (c : Cell) (rest : List ℕ) → IsCell c → Stops rest → cell_at (cell_text c ++ rest) ≡ Some (c, rest)
cell_again (Cell.Int z) rest h s = number_at_front (signed_decimal z) z rest (signed_look z h) s
cell_again (Cell.Text t) rest h s = text_again t rest
cell_again (Cell.Bool b) rest h s = bool_again b rest s

abbrev pub cells_text : List Cell → List ℕ
cells_text cells = flat_map (λ c. codes " " ++ cell_text c) cells

abbrev pub AreCells : List Cell → Type 0
AreCells cells = AllByRecursion IsCell cells

-- what follows cells and is none
pub record Ends (rest : List ℕ) : Type 0 where
  pub stops : Stops rest
  pub none : cell_at (drop 1 rest) ≡ None

cells_stop : (cells : List Cell) (rest : List ℕ) → Stops rest → Stops (cells_text cells ++ rest)
cells_stop [] rest s = s
cells_stop (c ∷ cs) rest s = refl

cells_split : (c : Cell) (cs : List Cell) (rest : List ℕ) → cells_text (c ∷ cs) ++ rest ≡ 32 ∷ (cell_text c ++ (cells_text cs ++ rest))
cells_split c cs rest = ap (λ (t : List ℕ). 32 ∷ t) (append_assoc (cell_text c) (cells_text cs) rest)

cells_step : (x : ℕ) (c : Cell) (more : List ℕ) (cs : List Cell) (rest : List ℕ) (fuel : ℕ) → IsCell c → Stops more → cells_from fuel more ≡ (cs, rest) → cells_from (suc fuel) (x ∷ (cell_text c ++ more)) ≡ (c ∷ cs, rest)
unfolding cells_from
cells_step x c more cs rest fuel h s e = rw (cell_again c more h s) (rw e refl)

pub cells_again : (cells : List Cell) (rest : List ℕ) (fuel : ℕ) → length cells ≤ fuel → AreCells cells → Ends rest → cells_from fuel (cells_text cells ++ rest) ≡ (cells, rest)
unfolding cells_from
cells_again [] rest zero le h e = refl
cells_again [] rest (suc fuel) le h e = rw e.none refl
cells_again (c ∷ cs) rest zero le h e = absurd (omega arith)
cells_again (c ∷ cs) rest (suc fuel) le h e =
    rw (cells_split c cs rest) (cells_step 32 c (cells_text cs ++ rest) cs rest fuel h.0 (cells_stop cs rest e.stops) (cells_again cs rest fuel (omega (arith, le)) h.1 e))

-- each cell takes a byte at least
cells_length : (cells : List Cell) (rest : List ℕ) → length cells ≤ length (cells_text cells ++ rest)
cells_length [] rest = omega arith
cells_length (c ∷ cs) rest =
    omega (arith, cells_length cs rest, length-append (cell_text c) (cells_text cs ++ rest), ap length (cells_split c cs rest))

pub cells_at_again : (cells : List Cell) (rest : List ℕ) → AreCells cells → Ends rest → cells_at (cells_text cells ++ rest) ≡ (cells, rest)
unfolding cells_at
cells_at_again cells rest h e = cells_again cells rest (length (cells_text cells ++ rest)) (cells_length cells rest) h e

-- ---- lists

close_ends : Ends (93 ∷ [])
unfolding cell_at
close_ends = record { stops = refl; none = refl }

pub list_again : (cells : List Cell) → AreCells cells → (cells_at (list_text cells)).0 ≡ cells
unfolding cells_at cells_from cell_at bare_cell piece
list_again [] h = refl
list_again (c ∷ cs) h =
    let more : List ℕ = cells_text cs ++ 93 ∷ [] in
    let e : list_text (c ∷ cs) ≡ 91 ∷ (cell_text c ++ more) = ap (λ (t : List ℕ). 91 ∷ t) (append_assoc (cell_text c) (cells_text cs) (93 ∷ [])) in
    let fits : length cs ≤ length (cell_text c ++ more) = omega (arith, cells_length cs (93 ∷ []), length-append (cell_text c) more) in
    let one : cells_from (suc (length (cell_text c ++ more))) (91 ∷ (cell_text c ++ more)) ≡ (c ∷ cs, 93 ∷ []) =
    cells_step 91 c more cs (93 ∷ []) (length (cell_text c ++ more)) h.0 (cells_stop cs (93 ∷ []) refl) (cells_again cs (93 ∷ []) (length (cell_text c ++ more)) fits h.1 close_ends) in
    ap (λ (bs : List ℕ). (cells_at bs).0) e ∙ ap (λ (p : List Cell × List ℕ). p.0) one

-- ---- versions and rows

abbrev pub IsVersion : Option ℕ → Type 0
IsVersion None = Unit {0}
IsVersion (Some v) = v < 2 ^ 32

pub version_plain : (v : Option ℕ) → IsVersion v → is_plain (version_text v) ≡ true
version_plain None h = refl
version_plain (Some v) h = decimal_plain v (omega (arith, h))

no_dash_text : (ds : List ℕ) → list_all is_digit ds ≡ true → 0 < length ds → bytes_eq ds (codes "-") ≡ false
no_dash_text [] h l = absurd (omega arith)
no_dash_text (d ∷ ds) h l = rw (no_dash d (and_left (is_digit d) (list_all is_digit ds) h)) refl

pub version_again : (v : Option ℕ) → IsVersion v → version_of (version_text v) ≡ v
version_again None h = refl
version_again (Some v) h =
    let small64 : v < 2 ^ 64 = omega (arith, h) in
    let d = numeral v small64 in
    rw (no_dash_text (decimal v) d.0 d.2, number_again v small64, lt_true v (2 ^ 32) h) refl

pub record IsRow (r : Row) : Type 0 where
  pub version : IsVersion r.version
  pub cells : AreCells r.cells

row_split : (r : Row) (rest : List ℕ) → row_text r ++ rest ≡ version_text r.version ++ (cells_text r.cells ++ rest)
row_split r rest = append_assoc (version_text r.version) (cells_text r.cells) rest

row_by : (v : Option ℕ) (cells : List Cell) (r : Row) → v ≡ r.version → cells ≡ r.cells → record { version = v; cells = cells } ≡ r
row_by v cells r e f = rw (e, f) refl

behind_version : (r : Row) (rest : List ℕ) → IsRow r → Ends rest → after (32 ∷ (row_text r ++ rest)) ≡ cells_text r.cells ++ rest
behind_version r rest h e =
    ap (λ (t : List ℕ). after (32 ∷ t)) (row_split r rest)
    ∙ after_again (version_text r.version) (cells_text r.cells ++ rest) (version_plain r.version h.version) (cells_stop r.cells rest e.stops)

front_version : (r : Row) (rest : List ℕ) → IsRow r → Ends rest → next (32 ∷ (row_text r ++ rest)) ≡ version_text r.version
front_version r rest h e =
    ap (λ (t : List ℕ). next (32 ∷ t)) (row_split r rest)
    ∙ next_again (version_text r.version) (cells_text r.cells ++ rest) (version_plain r.version h.version) (cells_stop r.cells rest e.stops)

pub after_row_again : (r : Row) (rest : List ℕ) → IsRow r → Ends rest → after_row (32 ∷ (row_text r ++ rest)) ≡ rest
unfolding after_row
after_row_again r rest h e = ap (λ (t : List ℕ). (cells_at t).1) (behind_version r rest h e) ∙ ap (λ (p : List Cell × List ℕ). p.1) (cells_at_again r.cells rest h.cells e)

pub row_again : (r : Row) (rest : List ℕ) → IsRow r → Ends rest → row_at (32 ∷ (row_text r ++ rest)) ≡ r
unfolding row_at
row_again r rest h e =
    let cells : (cells_at (after (32 ∷ (row_text r ++ rest)))).0 ≡ r.cells = ap (λ (t : List ℕ). (cells_at t).0) (behind_version r rest h e) ∙ ap (λ (p : List Cell × List ℕ). p.0) (cells_at_again r.cells rest h.cells e) in
    let version : version_of (next (32 ∷ (row_text r ++ rest))) ≡ r.version = ap version_of (front_version r rest h e) ∙ version_again r.version h.version in
    row_by (version_of (next (32 ∷ (row_text r ++ rest)))) (cells_at (after (32 ∷ (row_text r ++ rest)))).0 r version cells
