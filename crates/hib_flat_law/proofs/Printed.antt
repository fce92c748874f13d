-- The line of an entry is the text of its object, and is read as this object.
use Rattle.std.proofs.Common.{◌≡◌, ℕ, suc, length, ◌^◌, ◌<◌, ◌≤◌, List, [], ◌∷◌, ◌++◌, Option, Some, None, refl, ap, ap₂, sym, ◌∙◌, Bool, true, false, ◌==◌, ◌||◌, arith, append_assoc, flat_map, codes, pos, negsuc, nat_lt}
use Rattle.std.specs.Fmt.{decimal}
use Rattle.std.specs.List.{list_all}
use Rattle.std.proofs.lemmas.Bool.{or_parts}
use Rattle.std.proofs.lemmas.Bool.Decides.{nat_tests}
use Rattle.json.specs.Json as json
use Rattle.json.specs.Print.{escape_byte, escape, quoted, IsNumber}
use Rattle.json.specs.Word.{after_number}
use Rattle.json.specs.Tree as tree
use Rattle.json.proofs.Printed.Strings.{escape_byte_plain}
use Rattle.json.proofs.Printed.Decimals.{IsNumber-decimal}
use Rattle.json.proofs.Printed.Trees.{document-print}
use Rattle.serde_json.specs.Data as data_of
use Rattle.serde_json.specs.Written.{outline, items_outline, members_outline, compact_text, items_text, members_text}
use Rattle.serde_json.proofs.Texts.{print-outline}
use Rattle.hib_base.specs.Fits.{is_printable}
use Rattle.hib_journal.specs.Types.{Cell, Entry, Script}
use Rattle.hib_texts.specs.Texts.{escaped, cell_text}
use Rattle.hib_entry_fields.specs.Known.{is_cell, are_cells}
use Rattle.hib_lex.specs.Tokens.{is_digit}
use Rattle.hib_entry_fields.proofs.PieceLaws.{and_left, and_right, numeral}
use Rattle.hib_entry_fields.proofs.FieldLaws.{lt_from}
use Rattle.hib_flat.specs.Members.{Value, number, word, boolean, words, list, Member, members, cells}
use Rattle.hib_flat.specs.Lines.{in_quotes, words_text, list_text, value_text, member_text, cell_member, flat_line}
use Rattle.hib_flat_law.specs.Objects.{cell_data, cells_data, words_data, value_data, members_data, cell_members, object_of}

-- ---- what can be written

-- nothing in it is escaped
abbrev pub IsBare : List ℕ → Type 0
IsBare w = escape w ≡ w

abbrev pub AreBare : List (List ℕ) → Type 0
AreBare [] = Unit {0}
AreBare (w ∷ ws) = IsBare w × AreBare ws

abbrev pub IsFine : Value → Type 0
IsFine (number n) = n < 2 ^ 64
IsFine (word w) = IsBare w
IsFine (boolean b) = Unit {0}
IsFine (words ws) = AreBare ws
IsFine (list cs) = are_cells cs ≡ true

abbrev pub IsFineIf : Option Value → Type 0
IsFineIf None = Unit {0}
IsFineIf (Some v) = IsFine v

abbrev pub AreFine : List Member → Type 0
AreFine [] = Unit {0}
AreFine (m ∷ ms) = (IsBare m.0 × IsFineIf m.1) × AreFine ms

abbrev pub AreFineCells : List (List ℕ × Cell) → Type 0
AreFineCells [] = Unit {0}
AreFineCells (c ∷ cs) = (IsBare c.0 × (is_cell c.1 ≡ true)) × AreFineCells cs

-- ---- texts

bare_quoted : (w : List ℕ) → IsBare w → quoted w ≡ in_quotes w
bare_quoted w h = ap (λ (s : List ℕ). 34 ∷ (s ++ 34 ∷ [])) h

escaped_by : (v : Bool) (b : ℕ) → ((b == 34) || (b == 92)) ≡ v → is_printable b ≡ true → escape_byte b ≡ escaped b
unfolding escape_byte
escaped_by true b e h = let pos : nat_lt 0 b ≡ true = grind (arith, nat_tests) in rw e (rw pos refl)
escaped_by false b e h =
    let p : ((b == 34) ≡ false) × ((b == 92) ≡ false) = or_parts (b == 34) (b == 92) e in
    let a : (b == 34) ≡ false = p.0 in
    let c : (b == 92) ≡ false = p.1 in
    let le : 32 ≤ b = grind (arith, nat_tests) in
    escape_byte_plain b (λ (q : b ≡ 34). grind (arith, nat_tests)) (λ (q : b ≡ 92). grind (arith, nat_tests)) le ∙ sym (rw e refl)

text_same : (t : List ℕ) → list_all is_printable t ≡ true → escape t ≡ flat_map escaped t
text_same [] h = refl
text_same (b ∷ t) h =
    ap₂ (λ (x y : List ℕ). x ++ y) (escaped_by ((b == 34) || (b == 92)) b refl (and_left (is_printable b) (list_all is_printable t) h)) (text_same t (and_right (is_printable b) (list_all is_printable t) h))

cell_same : (c : Cell) → is_cell c ≡ true → compact_text (cell_data c) ≡ cell_text c
cell_same (Cell.Int (pos n)) h = refl
cell_same (Cell.Int (negsuc n)) h = refl
cell_same (Cell.Text t) h = ap (λ (s : List ℕ). 34 ∷ (s ++ 34 ∷ [])) (text_same t (and_right _ (list_all is_printable t) h))
cell_same (Cell.Bool true) h = refl
cell_same (Cell.Bool false) h = refl

more_cells : (cs : List Cell) → are_cells cs ≡ true → items_text true (cells_data cs) ≡ flat_map (λ c. codes "," ++ cell_text c) cs ++ codes "]"
more_cells [] h = refl
more_cells (c ∷ cs) h =
    let fm : List ℕ = flat_map (λ c. codes "," ++ cell_text c) cs in
    ap₂ (λ (x y : List ℕ). 44 ∷ (x ++ y)) (cell_same c (and_left (is_cell c) (are_cells cs) h)) (more_cells cs (and_right (is_cell c) (are_cells cs) h)) ∙ sym (append_assoc (44 ∷ cell_text c) fm (codes "]"))

list_same : (cs : List Cell) → are_cells cs ≡ true → compact_text (data_of.array (cells_data cs)) ≡ list_text cs
list_same [] h = refl
list_same (c ∷ cs) h =
    let fm : List ℕ = flat_map (λ c. codes "," ++ cell_text c) cs in
    ap₂ (λ (x y : List ℕ). 91 ∷ (x ++ y)) (cell_same c (and_left (is_cell c) (are_cells cs) h)) (more_cells cs (and_right (is_cell c) (are_cells cs) h)) ∙ sym (append_assoc (91 ∷ cell_text c) fm (codes "]"))

more_words : (ws : List (List ℕ)) → AreBare ws → items_text true (words_data ws) ≡ flat_map (λ w. codes "," ++ in_quotes w) ws ++ codes "]"
more_words [] h = refl
more_words (w ∷ ws) h =
    let fm : List ℕ = flat_map (λ w. codes "," ++ in_quotes w) ws in
    ap₂ (λ (x y : List ℕ). 44 ∷ (x ++ y)) (bare_quoted w h.0) (more_words ws h.1) ∙ sym (append_assoc (44 ∷ in_quotes w) fm (codes "]"))

words_same : (ws : List (List ℕ)) → AreBare ws → compact_text (data_of.array (words_data ws)) ≡ words_text ws
words_same [] h = refl
words_same (w ∷ ws) h =
    let fm : List ℕ = flat_map (λ w. codes "," ++ in_quotes w) ws in
    ap₂ (λ (x y : List ℕ). 91 ∷ (x ++ y)) (bare_quoted w h.0) (more_words ws h.1) ∙ sym (append_assoc (91 ∷ in_quotes w) fm (codes "]"))

value_same : (v : Value) → IsFine v → compact_text (value_data v) ≡ value_text v
value_same (number n) h = refl
value_same (word w) h = bare_quoted w h
value_same (boolean true) h = refl
value_same (boolean false) h = refl
value_same (words ws) h = words_same ws h
value_same (list cs) h = list_same cs h

-- ---- members

joined : (n v r : List ℕ) → 44 ∷ ((34 ∷ (n ++ 34 ∷ [])) ++ 58 ∷ (v ++ r)) ≡ (codes ",\"" ++ n ++ codes "\":" ++ v) ++ r
joined n v r = simp append_assoc

member_said : (name : List ℕ) (d : data_of.Data) (v r rest : List ℕ) → IsBare name → compact_text d ≡ v → r ≡ rest → 44 ∷ (quoted name ++ 58 ∷ (compact_text d ++ r)) ≡ (codes ",\"" ++ name ++ codes "\":" ++ v) ++ rest
member_said name d v r rest h e q =
    ap (λ (s : List ℕ). 44 ∷ (s ++ 58 ∷ (compact_text d ++ r))) (bare_quoted name h) ∙ ap₂ (λ (x y : List ℕ). 44 ∷ ((34 ∷ (name ++ 34 ∷ [])) ++ 58 ∷ (x ++ y))) e q ∙ joined name v rest

members_said : (ms : List Member) (rest : data_of.Members) → AreFine ms → members_text true (members_data ms rest) ≡ flat_map member_text ms ++ members_text true rest
members_said [] rest h = refl
members_said ((name, None) ∷ ms) rest h = members_said ms rest h.1
members_said ((name, Some v) ∷ ms) rest h =
    member_said name (value_data v) (value_text v) (members_text true (members_data ms rest)) (flat_map member_text ms ++ members_text true rest) h.0.0 (value_same v h.0.1) (members_said ms rest h.1)
    ∙ sym (append_assoc (member_text (name, Some v)) (flat_map member_text ms) (members_text true rest))

bare_cell : (n : List ℕ) → IsBare n → IsBare (codes "cell_" ++ n)
unfolding escape_byte
bare_cell n h = ap (λ (s : List ℕ). codes "cell_" ++ s) h

cell_joined : (n v rest : List ℕ) → (codes ",\"" ++ (codes "cell_" ++ n) ++ codes "\":" ++ v) ++ rest ≡ (codes ",\"cell_" ++ n ++ codes "\":" ++ v) ++ rest
cell_joined n v rest = simp append_assoc

cells_said : (cs : List (List ℕ × Cell)) → AreFineCells cs → members_text true (cell_members cs) ≡ flat_map cell_member cs ++ codes "}"
cells_said [] h = refl
cells_said (c ∷ cs) h =
    member_said (codes "cell_" ++ c.0) (cell_data c.1) (cell_text c.1) (members_text true (cell_members cs)) (flat_map cell_member cs ++ codes "}") (bare_cell c.0 h.0.0) (cell_same c.1 h.0.1) (cells_said cs h.1)
    ∙ cell_joined c.0 (cell_text c.1) (flat_map cell_member cs ++ codes "}")
    ∙ sym (append_assoc (cell_member c) (flat_map cell_member cs) (codes "}"))

line_joined : (t a b : List ℕ) → codes "{\"tick\":" ++ t ++ a ++ b ++ codes "}" ≡ codes "{\"tick\":" ++ (t ++ (a ++ (b ++ codes "}")))
line_joined t a b = simp append_assoc

pub line_said : (script : Script) (e : Entry) → AreFine (members script e) → AreFineCells (cells script e) → flat_line script e ≡ compact_text (object_of script e)
unfolding flat_line escape_byte
line_said script e h k =
    line_joined (decimal e.tick) (flat_map member_text (members script e)) (flat_map cell_member (cells script e))
    ∙ ap (λ (r : List ℕ). codes "{\"tick\":" ++ (decimal e.tick ++ r))
    (ap (λ (r : List ℕ). flat_map member_text (members script e) ++ r) (sym (cells_said (cells script e) k)) ∙ sym (members_said (members script e) (cell_members (cells script e)) h))

-- ---- it is read as the object

no_dash : (d : ℕ) → is_digit d ≡ true → (d == 45) ≡ false
no_dash d h = grind (arith, nat_tests)

negative_number : (ds : List ℕ) → list_all is_digit ds ≡ true → 0 < length ds → IsNumber ds → IsNumber (45 ∷ ds)
unfolding after_number
negative_number [] a l h = absurd (omega arith)
negative_number (d ∷ ds) a l h = rw (no_dash d (and_left (is_digit d) (list_all is_digit ds) a)) at h

cell_number : (c : Cell) → is_cell c ≡ true → tree.HasNumbers (outline (cell_data c))
cell_number (Cell.Int (pos n)) h = let lt : n < 2 ^ 63 = lt_from n (2 ^ 63) h in IsNumber-decimal n (omega arith)
cell_number (Cell.Int (negsuc n)) h =
    let lt : n < 2 ^ 63 = lt_from n (2 ^ 63) h in
    let small : suc n < 2 ^ 64 = omega (arith, lt) in
    negative_number (decimal (suc n)) (numeral (suc n) small).0 (numeral (suc n) small).2 (IsNumber-decimal (suc n) small)
cell_number (Cell.Text t) h = tt
cell_number (Cell.Bool b) h = tt

cells_numbers : (cs : List Cell) → are_cells cs ≡ true → tree.ItemsHaveNumbers (items_outline (cells_data cs))
cells_numbers [] h = tt
cells_numbers (c ∷ cs) h = (cell_number c (and_left (is_cell c) (are_cells cs) h), cells_numbers cs (and_right (is_cell c) (are_cells cs) h))

words_numbers : (ws : List (List ℕ)) → tree.ItemsHaveNumbers (items_outline (words_data ws))
words_numbers [] = tt
words_numbers (w ∷ ws) = (tt, words_numbers ws)

value_numbers : (v : Value) → IsFine v → tree.HasNumbers (outline (value_data v))
value_numbers (number n) h = IsNumber-decimal n h
value_numbers (word w) h = tt
value_numbers (boolean b) h = tt
value_numbers (words ws) h = words_numbers ws
value_numbers (list cs) h = cells_numbers cs h

members_numbers : (ms : List Member) (rest : data_of.Members) → AreFine ms → tree.MembersHaveNumbers (members_outline rest) → tree.MembersHaveNumbers (members_outline (members_data ms rest))
members_numbers [] rest h k = k
members_numbers ((name, None) ∷ ms) rest h k = members_numbers ms rest h.1 k
members_numbers ((name, Some v) ∷ ms) rest h k = (value_numbers v h.0.1, members_numbers ms rest h.1 k)

cell_members_numbers : (cs : List (List ℕ × Cell)) → AreFineCells cs → tree.MembersHaveNumbers (members_outline (cell_members cs))
cell_members_numbers [] h = tt
cell_members_numbers (c ∷ cs) h = (cell_number c.1 h.0.1, cell_members_numbers cs h.1)

cell_flat : (c : Cell) → tree.depth (outline (cell_data c)) ≤ 0
cell_flat (Cell.Int (pos n)) = omega arith
cell_flat (Cell.Int (negsuc n)) = omega arith
cell_flat (Cell.Text t) = omega arith
cell_flat (Cell.Bool b) = omega arith

cells_flat : (cs : List Cell) → tree.items_depth (items_outline (cells_data cs)) ≤ 0
cells_flat [] = omega arith
cells_flat (c ∷ cs) = omega (arith, cell_flat c, cells_flat cs)

words_flat : (ws : List (List ℕ)) → tree.items_depth (items_outline (words_data ws)) ≤ 0
words_flat [] = omega arith
words_flat (w ∷ ws) = omega (arith, words_flat ws)

value_flat : (v : Value) → tree.depth (outline (value_data v)) ≤ 1
value_flat (number n) = omega arith
value_flat (word w) = omega arith
value_flat (boolean b) = omega arith
value_flat (words ws) = omega (arith, words_flat ws)
value_flat (list cs) = omega (arith, cells_flat cs)

members_flat : (ms : List Member) (rest : data_of.Members) → tree.members_depth (members_outline rest) ≤ 1 → tree.members_depth (members_outline (members_data ms rest)) ≤ 1
members_flat [] rest k = k
members_flat ((name, None) ∷ ms) rest k = members_flat ms rest k
members_flat ((name, Some v) ∷ ms) rest k = omega (arith, value_flat v, members_flat ms rest k)

cell_members_flat : (cs : List (List ℕ × Cell)) → tree.members_depth (members_outline (cell_members cs)) ≤ 1
cell_members_flat [] = omega arith
cell_members_flat (c ∷ cs) = omega (arith, cell_flat c.1, cell_members_flat cs)

pub line_read : (script : Script) (e : Entry) → e.tick < 2 ^ 64 → AreFine (members script e) → AreFineCells (cells script e) → json.document (flat_line script e) ≡ Some (outline (object_of script e))
line_read script e t h k =
    let shallow : tree.members_depth (members_outline (members_data (members script e) (cell_members (cells script e)))) ≤ 1 = members_flat (members script e) (cell_members (cells script e)) (cell_members_flat (cells script e)) in
    ap json.document (line_said script e h k ∙ sym (print-outline (object_of script e)))
    ∙ document-print (outline (object_of script e)) (IsNumber-decimal e.tick t, members_numbers (members script e) (cell_members (cells script e)) h (cell_members_numbers (cells script e) k)) (omega (arith, shallow))
