-- What is found under the names of an entry's object.
use Rattle.std.proofs.Common.{◌≡◌, ℕ, suc, ◌^◌, ◌<◌, List, [], ◌∷◌, ◌++◌, drop, length, map, Option, Some, None, refl, ap, ap₂, sym, subst, ◌∙◌, Bool, true, false, not, ◌&&◌, ◌==◌, arith, bytes_eq, codes, cond, option_map, pos, negsuc, nat_le}
use Rattle.std.specs.Fmt.{decimal}
use Rattle.std.specs.List.{list_all, list_any}
use Rattle.std.specs.Option.{option_or}
use Rattle.std.proofs.lemmas.Bool.{or_parts, not-true}
use Rattle.std.proofs.lemmas.Bool.Decides.{nat_tests}
use Rattle.std.proofs.lemmas.Slice.Eq.{bytes_eq-Decides}
use Rattle.json.specs.Json as json
use Rattle.serde_json.specs.Data as data_of
use Rattle.serde_json.specs.Written.{outline, items_outline, members_outline}
use Rattle.hib_lex.specs.Tokens.{is_digit}
use Rattle.hib_journal.specs.Types.{Key, Cell, Row, ColumnDef, Entry, Script}
use Rattle.hib_report.specs.Lines.{part_text}
use Rattle.hib_texts.specs.Texts.{entity_text, query_text, session_text}
use Rattle.hib_entry_fields.specs.Fields.{number_of, signed_of, entity_of}
use Rattle.hib_entry_fields.specs.Known.{is_key, is_cell, are_cells, is_tick}
use Rattle.hib_entry_fields.proofs.PieceLaws.{and_left, and_right, number_again, numeral, lt_true}
use Rattle.hib_entry_fields.proofs.NameLaws.{IsNamed}
use Rattle.hib_entry_fields.proofs.FieldLaws.{IsKey, known_key, lt_from, tick_small}
use Rattle.hib_entry_texts.specs.WellFormed.{is_act}
use Rattle.hib_flat.specs.Words.{act_word, reply_word, cause_word}
use Rattle.hib_flat.specs.Parts as parts
use Rattle.hib_flat.specs.Members.{Value, word, boolean, words, list, Member, numbered, named, key_entity, key_id, members, cells, cells_from}
use Rattle.hib_flat_law.specs.Objects.{cell_data, cells_data, words_data, value_data, members_data, cell_members, members_of}
use Rattle.hib_flat_law.specs.Reading.{look, number_in, word_in, is_true, or_zero, or_empty, cell_of, words_of, cells_of, words_in, list_in, number_at, word_at, key_at, is_cell_name, cells_at, row_at}
use Rattle.hib_flat_law.proofs.Printed.{AreFineCells}
use Rattle.hib_flat_law.proofs.Facts as facts

-- the members of an entry's line
abbrev pub found : Script → Entry → json.Members
found script e = members_outline (members_of script e)

abbrev pub value_json : Option Value → Option json.Json
value_json o = option_map (λ (v : Value). outline (value_data v)) o

-- ---- by name

-- the value of the first member of a name, if it has one
abbrev pub pick : List ℕ → List Member → Option json.Json
pick name [] = None
pick name (m ∷ ms) = cond (bytes_eq m.0 name) (value_json m.1) (pick name ms)

-- the first value of a name
abbrev field : List ℕ → List Member → Option json.Json
field name [] = None
field name ((k, None) ∷ ms) = field name ms
field name ((k, Some v) ∷ ms) = cond (bytes_eq k name) (Some (outline (value_data v))) (field name ms)

look_by : (b : Bool) (j : json.Json) (l f r : Option json.Json) → l ≡ option_or f r → cond b (Some j) l ≡ option_or (cond b (Some j) f) r
look_by true j l f r e = refl
look_by false j l f r e = e

look_field : (name : List ℕ) (ms : List Member) (rest : data_of.Members) → look name (members_outline (members_data ms rest)) ≡ option_or (field name ms) (look name (members_outline rest))
look_field name [] rest = refl
look_field name ((k, None) ∷ ms) rest = look_field name ms rest
look_field name ((k, Some v) ∷ ms) rest =
    look_by (bytes_eq k name) (outline (value_data v)) (look name (members_outline (members_data ms rest))) (field name ms) (look name (members_outline rest)) (look_field name ms rest)

abbrev are_distinct : List Member → Bool
are_distinct [] = true
are_distinct (m ∷ ms) = not (list_any (λ (x : Member). bytes_eq x.0 m.0) ms) && are_distinct ms

absent : (name : List ℕ) (ms : List Member) → list_any (λ (m : Member). bytes_eq m.0 name) ms ≡ false → pick name ms ≡ None
absent name [] h = refl
absent name (m ∷ ms) h =
    let p : (bytes_eq m.0 name ≡ false) × (list_any (λ (m : Member). bytes_eq m.0 name) ms ≡ false) = or_parts (bytes_eq m.0 name) (list_any (λ (m : Member). bytes_eq m.0 name) ms) h in
    rw p.0 (absent name ms p.1)

none_case : (b : Bool) (k name : List ℕ) (ms : List Member) → bytes_eq k name ≡ b → list_any (λ (x : Member). bytes_eq x.0 k) ms ≡ false → field name ms ≡ pick name ms → field name ms ≡ cond b None (pick name ms)
none_case true k name ms e h q = q ∙ subst (λ (w : List ℕ). pick w ms ≡ None) ((bytes_eq-Decides k name).0 e) (absent k ms h)
none_case false k name ms e h q = q

same_pick : (name : List ℕ) (ms : List Member) → are_distinct ms ≡ true → field name ms ≡ pick name ms
same_pick name [] h = refl
same_pick name ((k, None) ∷ ms) h =
    let any = list_any (λ (x : Member). bytes_eq x.0 k) ms in
    none_case (bytes_eq k name) k name ms refl (not-true any (and_left (not any) (are_distinct ms) h)) (same_pick name ms (and_right (not any) (are_distinct ms) h))
same_pick name ((k, Some v) ∷ ms) h =
    let any = list_any (λ (x : Member). bytes_eq x.0 k) ms in
    ap (λ (o : Option json.Json). cond (bytes_eq k name) (Some (outline (value_data v))) o) (same_pick name ms (and_right (not any) (are_distinct ms) h))

other_name : (b : Bool) (n name : List ℕ) → bytes_eq (codes "cell_" ++ n) name ≡ b → is_cell_name name ≡ false → b ≡ false
other_name true n name e h =
    let q : codes "cell_" ++ n ≡ name = (bytes_eq-Decides (codes "cell_" ++ n) name).0 e in
    let p : true ≡ false = ap is_cell_name q ∙ h in
    absurd cc
other_name false n name e h = refl

look_cells : (name : List ℕ) (cs : List (List ℕ × Cell)) → is_cell_name name ≡ false → look name (members_outline (cell_members cs)) ≡ None
look_cells name [] h = refl
look_cells name (c ∷ cs) h =
    let e : bytes_eq (codes "cell_" ++ c.0) name ≡ false = other_name (bytes_eq (codes "cell_" ++ c.0) name) c.0 name refl h in
    subst (λ (b : Bool). cond b (Some (outline (cell_data c.1))) (look name (members_outline (cell_members cs))) ≡ None) (sym e) (look_cells name cs h)

or_none : (o : Option json.Json) → option_or o None ≡ o
or_none None = refl
or_none (Some j) = refl

distinct : (script : Script) (e : Entry) → are_distinct (members script e) ≡ true
distinct script e = refl

pub at : (script : Script) (e : Entry) (name : List ℕ) → is_cell_name name ≡ false → bytes_eq (codes "tick") name ≡ false → look name (found script e) ≡ pick name (members script e)
at script e name h t =
    subst (λ (b : Bool). cond b (Some (json.number (decimal e.tick))) (look name (members_outline (members_data (members script e) (cell_members (cells script e))))) ≡ pick name (members script e)) (sym t)
    (look_field name (members script e) (cell_members (cells script e))
    ∙ ap₂ option_or (same_pick name (members script e) (distinct script e)) (look_cells name (cells script e) h)
    ∙ or_none (pick name (members script e)))

-- ---- values

number_back : (o : Option ℕ) → facts.SmallIf o → number_in (value_json (numbered o)) ≡ o
number_back None h = refl
number_back (Some n) h = ap Some (number_again n h)

name_back : (name : ℕ → List ℕ) (o : Option ℕ) → word_in (value_json (named name o)) ≡ option_map name o
name_back name None = refl
name_back name (Some n) = refl

word_back : (o : Option (List ℕ)) → word_in (value_json (option_map word o)) ≡ o
word_back None = refl
word_back (Some w) = refl

no_dash : (d : ℕ) → is_digit d ≡ true → (d == 45) ≡ false
no_dash d h = grind (arith, nat_tests)

digits_back : (ds : List ℕ) (n : ℕ) → n < 2 ^ 63 → list_all is_digit ds ≡ true → 0 < length ds → number_of ds ≡ n → signed_of ds ≡ pos n
digits_back [] n lt h l e = absurd (omega arith)
digits_back (d ∷ ds) n lt h l e = rw (no_dash d (and_left (is_digit d) (list_all is_digit ds) h), e, lt_true n (2 ^ 63) lt) refl

cell_back : (c : Cell) → is_cell c ≡ true → cell_of (outline (cell_data c)) ≡ c
cell_back (Cell.Int (pos n)) h =
    let lt : n < 2 ^ 63 = lt_from n (2 ^ 63) h in
    let small : n < 2 ^ 64 = omega (arith, lt) in
    ap Cell.Int (digits_back (decimal n) n lt (numeral n small).0 (numeral n small).2 (number_again n small))
cell_back (Cell.Int (negsuc n)) h =
    let lt : n < 2 ^ 63 = lt_from n (2 ^ 63) h in
    let small : suc n < 2 ^ 64 = omega (arith, lt) in
    let le : nat_le (suc n) (2 ^ 63) ≡ true = grind (arith, nat_tests) in
    rw (number_again (suc n) small, le) refl
cell_back (Cell.Text t) h = refl
cell_back (Cell.Bool b) h = refl

cells_back : (cs : List Cell) → are_cells cs ≡ true → cells_of (items_outline (cells_data cs)) ≡ cs
cells_back [] h = refl
cells_back (c ∷ cs) h = ap₂ (λ (x : Cell) (y : List Cell). x ∷ y) (cell_back c (and_left (is_cell c) (are_cells cs) h)) (cells_back cs (and_right (is_cell c) (are_cells cs) h))

abbrev pub or_no_cells : Option (List Cell) → List Cell
or_no_cells None = []
or_no_cells (Some l) = l

list_back : (o : Option (List Cell)) → facts.ListIf o → list_in (value_json (option_map list o)) ≡ or_no_cells o
list_back None h = refl
list_back (Some l) h = cells_back l h

words_back : (ws : List (List ℕ)) → words_of (items_outline (words_data ws)) ≡ ws
words_back [] = refl
words_back (w ∷ ws) = ap (λ (y : List (List ℕ)). w ∷ y) (words_back ws)

abbrev pub or_no_words : Option (List (List ℕ)) → List (List ℕ)
or_no_words None = []
or_no_words (Some l) = l

tables_back : (script : Script) (o : Option (List ℕ)) → words_in (value_json (option_map (λ ts. words (map (entity_text script) ts)) o)) ≡ or_no_words (option_map (λ ts. map (entity_text script) ts) o)
tables_back script None = refl
tables_back script (Some ts) = words_back (map (entity_text script) ts)

-- ---- members

pub at_tick : (script : Script) (e : Entry) → is_tick e.tick ≡ true → number_at (codes "tick") (found script e) ≡ e.tick
at_tick script e h = number_again e.tick (tick_small e.tick h)

pub at_session : (script : Script) (e : Entry) → word_in (look (codes "session") (found script e)) ≡ option_map (session_text script) e.session
at_session script e = ap word_in (at script e (codes "session") refl refl) ∙ name_back (session_text script) e.session

pub at_part : (script : Script) (e : Entry) → word_at (codes "part") (found script e) ≡ part_text e.part
at_part script e = ap (λ (o : Option json.Json). or_empty (word_in o)) (at script e (codes "part") refl refl)

pub at_act : (script : Script) (e : Entry) → word_at (codes "act") (found script e) ≡ act_word e.act
at_act script e = ap (λ (o : Option json.Json). or_empty (word_in o)) (at script e (codes "act") refl refl)

pub at_reply : (script : Script) (e : Entry) → word_at (codes "reply") (found script e) ≡ reply_word e.reply
at_reply script e = ap (λ (o : Option json.Json). or_empty (word_in o)) (at script e (codes "reply") refl refl)

pub at_cause : (script : Script) (e : Entry) → word_at (codes "cause") (found script e) ≡ or_empty (cause_word e.reply)
at_cause script e = ap (λ (o : Option json.Json). or_empty (word_in o)) (at script e (codes "cause") refl refl) ∙ ap or_empty (word_back (cause_word e.reply))

pub at_killed : (script : Script) (e : Entry) → word_at (codes "killed") (found script e) ≡ or_empty (option_map (session_text script) (parts.killed_in e.act))
at_killed script e = ap (λ (o : Option json.Json). or_empty (word_in o)) (at script e (codes "killed") refl refl) ∙ ap or_empty (name_back (session_text script) (parts.killed_in e.act))

pub at_query : (script : Script) (e : Entry) → word_at (codes "query") (found script e) ≡ or_empty (option_map (query_text script) (parts.query_in e.act))
at_query script e = ap (λ (o : Option json.Json). or_empty (word_in o)) (at script e (codes "query") refl refl) ∙ ap or_empty (name_back (query_text script) (parts.query_in e.act))

pub at_dropped : (script : Script) (e : Entry) → word_in (look (codes "dropped") (found script e)) ≡ option_map (query_text script) (parts.dropped_in e.reply)
at_dropped script e = ap word_in (at script e (codes "dropped") refl refl) ∙ name_back (query_text script) (parts.dropped_in e.reply)

pub at_table : (script : Script) (e : Entry) → word_at (codes "table") (found script e) ≡ or_empty (option_map (entity_text script) (parts.table_in e.reply))
at_table script e = ap (λ (o : Option json.Json). or_empty (word_in o)) (at script e (codes "table") refl refl) ∙ ap or_empty (name_back (entity_text script) (parts.table_in e.reply))

pub at_tables : (script : Script) (e : Entry) → words_in (look (codes "tables") (found script e)) ≡ or_no_words (option_map (λ ts. map (entity_text script) ts) (parts.tables_in e.act))
at_tables script e = ap words_in (at script e (codes "tables") refl refl) ∙ tables_back script (parts.tables_in e.act)

pub at_late : (script : Script) (e : Entry) → is_true (look (codes "late") (found script e)) ≡ is_true (value_json (option_map boolean (parts.late_in e.reply)))
at_late script e = ap is_true (at script e (codes "late") refl refl)

-- an entry whose act and reply are well formed
pub record IsGood (script : Script) (e : Entry) : Type 0 where
  pub act : is_act script e.act ≡ true
  pub reply : facts.good script e.reply ≡ true

pub at_list : (script : Script) (e : Entry) → IsGood script e → list_in (look (codes "list") (found script e)) ≡ or_no_cells (parts.list_in e.act e.reply)
at_list script e h = ap list_in (at script e (codes "list") refl refl) ∙ list_back (parts.list_in e.act e.reply) (facts.list_fine script e.act e.reply h.act h.reply)

pub at_version : (script : Script) (e : Entry) → IsGood script e → number_in (look (codes "version") (found script e)) ≡ parts.version_in e.act e.reply
at_version script e h = ap number_in (at script e (codes "version") refl refl) ∙ number_back (parts.version_in e.act e.reply) (facts.version_in_small script e.act e.reply h.act h.reply)

pub at_expected : (script : Script) (e : Entry) → IsGood script e → number_in (look (codes "expected") (found script e)) ≡ parts.expected_in e.act
at_expected script e h = ap number_in (at script e (codes "expected") refl refl) ∙ number_back (parts.expected_in e.act) (facts.expected_small script e.act h.act)

pub at_found : (script : Script) (e : Entry) → IsGood script e → number_in (look (codes "found") (found script e)) ≡ parts.found_in e.reply
at_found script e h = ap number_in (at script e (codes "found") refl refl) ∙ number_back (parts.found_in e.reply) (facts.found_small script e.reply h.reply)

pub at_stamp : (script : Script) (e : Entry) → IsGood script e → number_in (look (codes "stamp") (found script e)) ≡ parts.stamp_in e.reply
at_stamp script e h = ap number_in (at script e (codes "stamp") refl refl) ∙ number_back (parts.stamp_in e.reply) (facts.stamp_small script e.reply h.reply)

pub at_time : (script : Script) (e : Entry) → IsGood script e → number_in (look (codes "time") (found script e)) ≡ parts.time_in e.act e.reply
at_time script e h = ap number_in (at script e (codes "time") refl refl) ∙ number_back (parts.time_in e.act e.reply) (facts.time_small script e.act e.reply h.act h.reply)

pub at_floor : (script : Script) (e : Entry) → IsGood script e → number_in (look (codes "floor") (found script e)) ≡ parts.floor_in e.act e.reply
at_floor script e h = ap number_in (at script e (codes "floor") refl refl) ∙ number_back (parts.floor_in e.act e.reply) (facts.floor_small script e.act e.reply h.act h.reply)

pub at_lock : (script : Script) (e : Entry) → IsGood script e → number_in (look (codes "lock") (found script e)) ≡ parts.lock_in e.act e.reply
at_lock script e h = ap number_in (at script e (codes "lock") refl refl) ∙ number_back (parts.lock_in e.act e.reply) (facts.lock_small script e.act e.reply h.act h.reply)

pub at_until : (script : Script) (e : Entry) → IsGood script e → number_in (look (codes "until") (found script e)) ≡ parts.until_in e.reply
at_until script e h = ap number_in (at script e (codes "until") refl refl) ∙ number_back (parts.until_in e.reply) (facts.until_small script e.reply h.reply)

pub at_released : (script : Script) (e : Entry) → IsGood script e → number_in (look (codes "released") (found script e)) ≡ parts.released_in e.reply
at_released script e h = ap number_in (at script e (codes "released") refl refl) ∙ number_back (parts.released_in e.reply) (facts.released_small script e.reply h.reply)

pub at_stored : (script : Script) (e : Entry) → IsGood script e → number_in (look (codes "stored") (found script e)) ≡ parts.stored_in e.reply
at_stored script e h = ap number_in (at script e (codes "stored") refl refl) ∙ number_back (parts.stored_in e.reply) (facts.stored_small script e.reply h.reply)

pub at_holders : (script : Script) (e : Entry) → IsGood script e → number_in (look (codes "holders") (found script e)) ≡ parts.holders_in e.reply
at_holders script e h = ap number_in (at script e (codes "holders") refl refl) ∙ number_back (parts.holders_in e.reply) (facts.holders_small script e.reply h.reply)

pub at_evicted : (script : Script) (e : Entry) → IsGood script e → number_in (look (codes "evicted") (found script e)) ≡ parts.evicted_in e.reply
at_evicted script e h = ap number_in (at script e (codes "evicted") refl refl) ∙ number_back (parts.evicted_in e.reply) (facts.evicted_in_small script e.reply h.reply)

-- ---- keys

key_by : (e i : ℕ) (k : Key) → e ≡ k.entity → i ≡ k.id → record { entity = e; id = i } ≡ k
key_by e i k p q = rw (p, q) refl

key_entity_at : (script : Script) (e : Entry) → word_at (codes "entity") (found script e) ≡ or_empty (option_map (entity_text script) (key_entity (parts.key_in e.act e.reply)))
key_entity_at script e = ap (λ (o : Option json.Json). or_empty (word_in o)) (at script e (codes "entity") refl refl) ∙ ap or_empty (name_back (entity_text script) (key_entity (parts.key_in e.act e.reply)))

key_id_at : (script : Script) (e : Entry) → IsGood script e → number_in (look (codes "id") (found script e)) ≡ key_id (parts.key_in e.act e.reply)
key_id_at script e h =
    ap number_in (at script e (codes "id") refl refl)
    ∙ number_back (key_id (parts.key_in e.act e.reply)) (facts.key_id_small script (parts.key_in e.act e.reply) (facts.key_known script e.act e.reply h.act h.reply))

pub key_back : (script : Script) (e : Entry) (k : Key) → IsNamed script → IsGood script e → parts.key_in e.act e.reply ≡ Some k → is_key script k ≡ true → key_at script (found script e) ≡ k
key_back script e k n h q w =
    let known : IsKey script k = known_key script k n w in
    key_by _ _ k
    (ap (entity_of script) (key_entity_at script e ∙ ap (λ (o : Option Key). or_empty (option_map (entity_text script) (key_entity o))) q) ∙ known.entity.back)
    (ap or_zero (key_id_at script e h ∙ ap key_id q))

-- ---- cells

abbrev no_cells : List Member → Bool
no_cells [] = true
no_cells (m ∷ ms) = not (is_cell_name m.0) && no_cells ms

skipped : (ms : List Member) (rest : data_of.Members) → no_cells ms ≡ true → cells_at (members_outline (members_data ms rest)) ≡ cells_at (members_outline rest)
skipped [] rest h = refl
skipped ((k, None) ∷ ms) rest h = skipped ms rest (and_right (not (is_cell_name k)) (no_cells ms) h)
skipped ((k, Some v) ∷ ms) rest h =
    let e : is_cell_name k ≡ false = not-true (is_cell_name k) (and_left (not (is_cell_name k)) (no_cells ms) h) in
    subst (λ (b : Bool). cond b ((drop 5 k, cell_of (outline (value_data v))) ∷ cells_at (members_outline (members_data ms rest))) (cells_at (members_outline (members_data ms rest))) ≡ cells_at (members_outline rest)) (sym e)
    (skipped ms rest (and_right (not (is_cell_name k)) (no_cells ms) h))

cells_again : (cs : List (List ℕ × Cell)) → AreFineCells cs → cells_at (members_outline (cell_members cs)) ≡ cs
cells_again [] h = refl
cells_again (c ∷ cs) h = ap₂ (λ (x : List ℕ × Cell) (y : List (List ℕ × Cell)). x ∷ y) (ap (λ (x : Cell). (c.0, x)) (cell_back c.1 h.0.1)) (cells_again cs h.1)

no_names : (script : Script) (e : Entry) → no_cells (members script e) ≡ true
no_names script e = refl

pub at_cells : (script : Script) (e : Entry) → AreFineCells (cells script e) → cells_at (found script e) ≡ cells script e
at_cells script e h = skipped (members script e) (cell_members (cells script e)) (no_names script e) ∙ cells_again (cells script e) h

pub only_cells : (ds : List ColumnDef) (n : ℕ) (cs : List Cell) → map (λ c. c.1) (cells_from ds n cs) ≡ cs
only_cells ds n [] = refl
only_cells ds n (c ∷ cs) = ap (λ (y : List Cell). c ∷ y) (only_cells ds (suc n) cs)

row_by : (v : Option ℕ) (cs : List Cell) (r : Row) → v ≡ r.version → cs ≡ r.cells → record { version = v; cells = cs } ≡ r
row_by v cs r p q = rw (p, q) refl

pub row_back : (script : Script) (e : Entry) (r : Row) (ds : List ColumnDef) → IsGood script e → AreFineCells (cells script e) → parts.version_in e.act e.reply ≡ r.version → cells script e ≡ cells_from ds 0 r.cells → row_at (found script e) ≡ r
row_back script e r ds h f q p =
    row_by _ _ r (at_version script e h ∙ q) (ap (λ (cs : List (List ℕ × Cell)). map (λ c. c.1) cs) (at_cells script e f ∙ p) ∙ only_cells ds 0 r.cells)
