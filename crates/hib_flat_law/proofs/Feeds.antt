-- No line has a line feed in it, so the lines of a journal are those of its entries.
use Rattle.std.proofs.Common.{◌≡◌, ℕ, suc, ◌^◌, ◌<◌, List, [], ◌∷◌, ◌++◌, Some, None, refl, ap, sym, subst, ◌∙◌, Bool, true, false, not, ◌==◌, arith, append_assoc, codes, pos, negsuc}
use Rattle.std.specs.Fmt.{decimal}
use Rattle.std.specs.List.{list_all, AllZip}
use Rattle.std.proofs.lemmas.List.Folds.{list_all-append}
use Rattle.std.proofs.lemmas.Bool.{and_from, not-true}
use Rattle.std.proofs.lemmas.Bool.Decides.{nat_tests}
use Rattle.json.specs.Print.{escape_byte, quoted}
use Rattle.serde_json.specs.Data as data_of
use Rattle.serde_json.specs.Written.{compact_text, items_text, members_text}
use Rattle.hib_lex.specs.Tokens.{is_digit}
use Rattle.hib_lex.specs.Lines.{lines_of, before_lines}
use Rattle.hib_base.specs.Valid.{is_valid}
use Rattle.hib_journal.specs.Types.{Cell, Entry, Script}
use Rattle.hib_entry_fields.specs.Known.{is_cell, are_cells}
use Rattle.hib_entry_fields.proofs.PieceLaws.{and_left, and_right, numeral}
use Rattle.hib_entry_fields.proofs.FieldLaws.{lt_from, tick_small}
use Rattle.hib_entry_fields.proofs.NameLaws.{valid_names}
use Rattle.hib_entry_texts.specs.WellFormed.{IsEntry, AreEntries}
use Rattle.hib_json_lines.proofs.Feeds.{has_none, line_none}
use Rattle.hib_flat.specs.Members.{Value, number, word, boolean, words, list, Member, members, cells}
use Rattle.hib_flat.specs.Lines.{flat_line, flat}
use Rattle.hib_flat_law.specs.Objects.{cell_data, cells_data, words_data, value_data, members_data, cell_members, object_of}
use Rattle.hib_flat_law.specs.Reading.{read_flat}
use Rattle.hib_flat_law.proofs.Printed.{IsFine, AreFine, AreFineCells, line_said}
use Rattle.hib_flat_law.proofs.Fine.{fine_members, fine_cells}
use Rattle.hib_flat_law.proofs.Whole.{entry_good, entry_tick, line_back}

none_both : (a b : List ℕ) → has_none a ≡ true → has_none b ≡ true → has_none (a ++ b) ≡ true
none_both a b h k = rw (list_all-append (λ b. not (b == 10)) a b) (and_from (has_none a) (has_none b) h k)

none_first : (a b : List ℕ) → has_none (a ++ b) ≡ true → has_none a ≡ true
none_first a b h = and_left (has_none a) (has_none b) (sym (list_all-append (λ b. not (b == 10)) a b) ∙ h)

digit_none : (d : ℕ) → is_digit d ≡ true → not (d == 10) ≡ true
digit_none d h = grind (arith, nat_tests)

digits_none : (ds : List ℕ) → list_all is_digit ds ≡ true → has_none ds ≡ true
digits_none [] h = refl
digits_none (d ∷ ds) h = rw (digit_none d (and_left (is_digit d) (list_all is_digit ds) h)) (digits_none ds (and_right (is_digit d) (list_all is_digit ds) h))

decimal_none : (n : ℕ) → n < 2 ^ 64 → has_none (decimal n) ≡ true
decimal_none n lt = digits_none (decimal n) (numeral n lt).0

-- as the text of an act in a JSON line
quoted_none : (s : List ℕ) → has_none (quoted s) ≡ true
unfolding escape_byte
quoted_none s =
    none_first (quoted s) (codes ",\"part\":\"\",\"reply\":\"\",\"session\":null,\"tick\":" ++ (decimal 0 ++ codes "}")) (line_none (record { act = s; part = []; reply = []; session = None; tick = 0 }) (decimal_none 0 (omega arith)))

cell_none : (c : Cell) → is_cell c ≡ true → has_none (compact_text (cell_data c)) ≡ true
cell_none (Cell.Int (pos n)) h = let lt : n < 2 ^ 63 = lt_from n (2 ^ 63) h in decimal_none n (omega arith)
cell_none (Cell.Int (negsuc n)) h = let lt : n < 2 ^ 63 = lt_from n (2 ^ 63) h in decimal_none (suc n) (omega arith)
cell_none (Cell.Text t) h = quoted_none t
cell_none (Cell.Bool true) h = refl
cell_none (Cell.Bool false) h = refl

cells_none : (cs : List Cell) (later : Bool) → are_cells cs ≡ true → has_none (items_text later (cells_data cs)) ≡ true
cells_none [] later h = refl
cells_none (c ∷ cs) true h = none_both (compact_text (cell_data c)) (items_text true (cells_data cs)) (cell_none c (and_left (is_cell c) (are_cells cs) h)) (cells_none cs true (and_right (is_cell c) (are_cells cs) h))
cells_none (c ∷ cs) false h = none_both (compact_text (cell_data c)) (items_text true (cells_data cs)) (cell_none c (and_left (is_cell c) (are_cells cs) h)) (cells_none cs true (and_right (is_cell c) (are_cells cs) h))

words_none : (ws : List (List ℕ)) (later : Bool) → has_none (items_text later (words_data ws)) ≡ true
words_none [] later = refl
words_none (w ∷ ws) true = none_both (quoted w) (items_text true (words_data ws)) (quoted_none w) (words_none ws true)
words_none (w ∷ ws) false = none_both (quoted w) (items_text true (words_data ws)) (quoted_none w) (words_none ws true)

value_none : (v : Value) → IsFine v → has_none (compact_text (value_data v)) ≡ true
value_none (number n) h = decimal_none n h
value_none (word w) h = quoted_none w
value_none (boolean true) h = refl
value_none (boolean false) h = refl
value_none (words ws) h = words_none ws false
value_none (list cs) h = cells_none cs false h

member_none : (k d rest : List ℕ) → has_none d ≡ true → has_none rest ≡ true → has_none (quoted k ++ 58 ∷ (d ++ rest)) ≡ true
member_none k d rest h q = none_both (quoted k) (58 ∷ (d ++ rest)) (quoted_none k) (none_both d rest h q)

members_none : (ms : List Member) (rest : data_of.Members) → AreFine ms → has_none (members_text true rest) ≡ true → has_none (members_text true (members_data ms rest)) ≡ true
members_none [] rest h q = q
members_none ((k, None) ∷ ms) rest h q = members_none ms rest h.1 q
members_none ((k, Some v) ∷ ms) rest h q = member_none k (compact_text (value_data v)) (members_text true (members_data ms rest)) (value_none v h.0.1) (members_none ms rest h.1 q)

cell_members_none : (cs : List (List ℕ × Cell)) → AreFineCells cs → has_none (members_text true (cell_members cs)) ≡ true
cell_members_none [] h = refl
cell_members_none (c ∷ cs) h = member_none (codes "cell_" ++ c.0) (compact_text (cell_data c.1)) (members_text true (cell_members cs)) (cell_none c.1 h.0.1) (cell_members_none cs h.1)

object_none : (script : Script) (e : Entry) → e.tick < 2 ^ 64 → AreFine (members script e) → AreFineCells (cells script e) → has_none (compact_text (object_of script e)) ≡ true
object_none script e t h k =
    member_none (codes "tick") (decimal e.tick) (members_text true (members_data (members script e) (cell_members (cells script e)))) (decimal_none e.tick t)
    (members_none (members script e) (cell_members (cells script e)) h (cell_members_none (cells script e) k))

line_has_none : (script : Script) (e : Entry) → is_valid script ≡ true → IsEntry script e → has_none (flat_line script e) ≡ true
line_has_none script e v i =
    let n = valid_names script v in
    let g = entry_good script e i in
    let h = fine_members script e n g.act g.reply in
    let k = fine_cells script e n g.act g.reply in
    ap has_none (line_said script e h k) ∙ object_none script e (tick_small e.tick (entry_tick script e i)) h k

-- ---- journals

feed_splits : (l rest : List ℕ) → has_none l ≡ true → lines_of (l ++ (10 ∷ rest)) ≡ l ∷ lines_of rest
feed_splits [] rest h = refl
feed_splits (b ∷ l) rest h =
    let no : (b == 10) ≡ false = not-true (b == 10) (and_left (not (b == 10)) (has_none l) h) in
    rw no (ap (before_lines b) (feed_splits l rest (and_right (not (b == 10)) (has_none l) h)))

first_entry : (script : Script) (e : Entry) (es : List Entry) → AreEntries script (e ∷ es) → IsEntry script e
first_entry script e es a = a 0 e (omega arith)

other_entries : (script : Script) (e : Entry) (es : List Entry) → AreEntries script (e ∷ es) → AreEntries script es
other_entries script e es a = λ k d h. a (suc k) d (omega (arith, h))

pub journal_back : (script : Script) (es : List Entry) → is_valid script ≡ true → AreEntries script es → AllZip (λ l e. read_flat script l ≡ Some e) (lines_of (flat script es)) es
journal_back script [] v a = tt
journal_back script (e ∷ es) v a =
    let split : lines_of (flat script (e ∷ es)) ≡ flat_line script e ∷ lines_of (flat script es) =
    ap lines_of (append_assoc (flat_line script e) (10 ∷ []) (flat script es)) ∙ feed_splits (flat_line script e) (flat script es) (line_has_none script e v (first_entry script e es a)) in
    subst (λ (ls : List (List ℕ)). AllZip (λ l e. read_flat script l ≡ Some e) ls (e ∷ es)) (sym split) (line_back script e v (first_entry script e es a), journal_back script es v (other_entries script e es a))
