-- The members of an entry's object: some that have a name of their own, and the cells of a row under their columns' names.
use Rattle.std.specs.Prelude.{ℕ, suc, Bool, List, [], ◌∷◌, ◌++◌, map, codes, slice_get, Option, Some, None, option_map}
use Rattle.hib_base.specs.Fits.{entity_columns}
use Rattle.hib_journal.specs.Types.{Key, Cell, Row, ColumnDef, Act, Entry, Script}
use Rattle.hib_report.specs.Lines.{part_text}
use Rattle.hib_texts.specs.Texts.{entity_text, query_text, session_text, column_name, column_text}
use Rattle.hib_flat.specs.Words.{act_word, reply_word, cause_word}
use Rattle.hib_flat.specs.Parts as parts

-- a number, a word or a name, a bool, names, or cells
pub data Value : Type 0 where
  number : ℕ → Value
  word : List ℕ → Value
  boolean : Bool → Value
  words : List (List ℕ) → Value
  list : List Cell → Value

-- a name, and its value if the entry has one
abbrev pub Member : Type 0
Member = List ℕ × Option Value

-- ---- members with names of their own

abbrev pub numbered : Option ℕ → Option Value
numbered n = option_map number n

abbrev pub named : (ℕ → List ℕ) → Option ℕ → Option Value
named name n = option_map (λ i. word (name i)) n

abbrev pub key_entity : Option Key → Option ℕ
key_entity None = None
key_entity (Some k) = Some k.entity

abbrev pub key_id : Option Key → Option ℕ
key_id None = None
key_id (Some k) = Some k.id

-- who did what, and what was answered
abbrev pub headings : Script → Entry → List Member
headings script e =
    (codes "session", named (session_text script) e.session) ∷ (codes "part", Some (word (part_text e.part))) ∷
    (codes "act", Some (word (act_word e.act))) ∷ (codes "reply", Some (word (reply_word e.reply))) ∷
    (codes "cause", option_map word (cause_word e.reply)) ∷ (codes "killed", named (session_text script) (parts.killed_in e.act)) ∷ []

abbrev pub subjects : Script → Entry → List Member
subjects script e =
    (codes "entity", named (entity_text script) (key_entity (parts.key_in e.act e.reply))) ∷ (codes "id", numbered (key_id (parts.key_in e.act e.reply))) ∷
    (codes "version", numbered (parts.version_in e.act e.reply)) ∷ (codes "expected", numbered (parts.expected_in e.act)) ∷
    (codes "found", numbered (parts.found_in e.reply)) ∷ []

abbrev pub results : Script → Entry → List Member
results script e =
    (codes "query", named (query_text script) (parts.query_in e.act)) ∷ (codes "dropped", named (query_text script) (parts.dropped_in e.reply)) ∷
    (codes "list", option_map list (parts.list_in e.act e.reply)) ∷
    (codes "tables", option_map (λ ts. words (map (entity_text script) ts)) (parts.tables_in e.act)) ∷
    (codes "table", named (entity_text script) (parts.table_in e.reply)) ∷ (codes "stamp", numbered (parts.stamp_in e.reply)) ∷ []

abbrev pub times : Entry → List Member
times e =
    (codes "time", numbered (parts.time_in e.act e.reply)) ∷ (codes "floor", numbered (parts.floor_in e.act e.reply)) ∷
    (codes "lock", numbered (parts.lock_in e.act e.reply)) ∷ (codes "until", numbered (parts.until_in e.reply)) ∷
    (codes "released", numbered (parts.released_in e.reply)) ∷ (codes "stored", numbered (parts.stored_in e.reply)) ∷ []

abbrev pub marks : Entry → List Member
marks e =
    (codes "holders", numbered (parts.holders_in e.reply)) ∷ (codes "evicted", numbered (parts.evicted_in e.reply)) ∷
    (codes "late", option_map boolean (parts.late_in e.reply)) ∷ []

-- all of them, in order, but for the tick, which comes first
abbrev pub members : Script → Entry → List Member
members script e = headings script e ++ (subjects script e ++ (results script e ++ (times e ++ marks e)))

-- ---- cells

-- the cells of a row from the n-th column on, each with its column's name
abbrev pub cells_from : List ColumnDef → ℕ → List Cell → List (List ℕ × Cell)
cells_from columns n [] = []
cells_from columns n (c ∷ cs) = (column_name (slice_get columns n), c) ∷ cells_from columns (suc n) cs

abbrev pub set_cells : Script → ℕ → List (ℕ × Cell) → List (List ℕ × Cell)
set_cells script entity xs = map (λ x. (column_text script entity x.0, x.1)) xs

abbrev pub row_cells : Script → Option Key → Option Row → List (List ℕ × Cell)
row_cells script (Some k) (Some r) = cells_from (entity_columns script.mapping k.entity) 0 r.cells
row_cells script _ _ = []

-- of the row, or those that are set
abbrev pub cells_of : Script → Act → Option Key → Option Row → List (List ℕ × Cell)
cells_of script (Act.Set k xs) key row = set_cells script k.entity xs
cells_of script _ key row = row_cells script key row

abbrev pub cells : Script → Entry → List (List ℕ × Cell)
cells script e = cells_of script e.act (parts.key_in e.act e.reply) (parts.row_in e.act e.reply)
