-- The line of a fact: a JSON object whose members have the names and the types of a journal's flat objects.
use Rattle.std.specs.Prelude.{ℕ, Bool, true, false, List, [], ◌∷◌, ◌++◌, codes, map, flat_map, Some, None, Option}
use Rattle.std.specs.Fmt.{decimal}
use Rattle.hib_base.specs.Tables.{key_of, row_left}
use Rattle.hib_journal.specs.Types.{Key, Row, Cell, Script}
use Rattle.hib_journal.specs.Slot.{Slot}
use Rattle.hib_journal.specs.Results.{Result}
use Rattle.hib_texts.specs.Texts.{entity_text, query_text, session_text}
use Rattle.hib_flat.specs.Members.{Member, number, word, words, boolean, list, numbered, row_cells}
use Rattle.hib_flat.specs.Parts.{change_expected}
use Rattle.hib_flat.specs.Words.{change_word}
use Rattle.hib_flat.specs.Lines.{member_text, cell_member}
use Rattle.hib_states.specs.Facts.{Fact}

-- its text; it stays folded where lines are put together
unfoldable pub member : Member → List ℕ
member m = member_text m

abbrev pub said : List ℕ → List ℕ → Member
said name w = (name, Some (word w))

abbrev pub key_members : Script → Key → List Member
key_members script k = said (codes "entity") (entity_text script k.entity) ∷ (codes "id", Some (number k.id)) ∷ []

-- a row, or none
abbrev pub row_members : Option Row → List Member
row_members None = said (codes "holds") (codes "nothing") ∷ []
row_members (Some r) = said (codes "holds") (codes "row") ∷ (codes "version", numbered r.version) ∷ []

abbrev pub slot_members : Slot → List Member
slot_members Slot.Vacant = said (codes "holds") (codes "nothing") ∷ []
slot_members (Slot.Item r t) =
    said (codes "holds") (codes "item") ∷ (codes "stored", Some (number t)) ∷ (codes "version", numbered r.version) ∷ []
slot_members (Slot.Lock l) =
    said (codes "holds") (codes "lock") ∷ (codes "lock", Some (number l.id)) ∷ (codes "version", numbered l.version) ∷
    (codes "until", Some (number l.timeout)) ∷ (codes "holders", Some (number l.holders)) ∷ (codes "shared", Some (boolean l.shared)) ∷
    (codes "released", Some (number l.unlock)) ∷ []

abbrev pub slot_row : Slot → Option Row
slot_row (Slot.Item r t) = Some r
slot_row _ = None

abbrev pub result_members : Option Result → List Member
result_members None = said (codes "holds") (codes "nothing") ∷ []
result_members (Some r) = said (codes "holds") (codes "list") ∷ (codes "time", Some (number r.0)) ∷ (codes "list", Some (list r.1)) ∷ []

abbrev pub session_members : Bool → ℕ → ℕ → List Member
session_members false time floor = (codes "open", Some (boolean false)) ∷ []
session_members true time floor = (codes "open", Some (boolean true)) ∷ (codes "time", Some (number time)) ∷ (codes "floor", Some (number floor)) ∷ []

abbrev pub since_member : Option ℕ → Member
since_member since = (codes "since", numbered since)

-- what it tells of, and its members
abbrev pub fact_members : Script → Fact → List Member
fact_members script (Fact.Committed k r) = said (codes "tells") (codes "row") ∷ (key_members script k ++ row_members r)
fact_members script (Fact.Cached k s) = said (codes "tells") (codes "cache") ∷ (key_members script k ++ slot_members s)
fact_members script (Fact.Stamped t v) = said (codes "tells") (codes "stamp") ∷ said (codes "table") (entity_text script t) ∷ (codes "stamp", numbered v) ∷ []
fact_members script (Fact.Kept q r) = said (codes "tells") (codes "result") ∷ said (codes "query") (query_text script q) ∷ result_members r
fact_members script (Fact.Session s on time floor) =
    said (codes "tells") (codes "session") ∷ said (codes "session") (session_text script s) ∷ session_members on time floor
fact_members script (Fact.Written s c) =
    said (codes "tells") (codes "change") ∷ said (codes "session") (session_text script s) ∷ said (codes "change") (change_word c) ∷
    (key_members script (key_of c) ++ ((codes "expected", numbered (change_expected c)) ∷ row_members (row_left c)))
fact_members script (Fact.Copied s k r) =
    said (codes "tells") (codes "copy") ∷ said (codes "session") (session_text script s) ∷ (key_members script k ++ row_members r)
fact_members script (Fact.Emptied s) = said (codes "tells") (codes "emptied") ∷ said (codes "session") (session_text script s) ∷ []
fact_members script (Fact.Holders k ss) =
    said (codes "tells") (codes "holders") ∷ (key_members script k ++ ((codes "sessions", Some (words (map (session_text script) ss))) ∷ []))
fact_members script (Fact.Unsound k deleted) = said (codes "tells") (codes "unsound") ∷ (key_members script k ++ ((codes "deleted", numbered deleted) ∷ []))
fact_members script Fact.Restarted = said (codes "tells") (codes "restart") ∷ []
fact_members script (Fact.KeyCause k s since) = said (codes "tells") (codes "cause") ∷ since_member since ∷ (key_members script k ++ slot_members s)
fact_members script (Fact.TableCause t v since) =
    said (codes "tells") (codes "cause") ∷ since_member since ∷ said (codes "table") (entity_text script t) ∷ (codes "stamp", numbered v) ∷ []
fact_members script (Fact.QueryCause q since) = said (codes "tells") (codes "cause") ∷ since_member since ∷ said (codes "query") (query_text script q) ∷ []

abbrev pub fact_cells : Script → Fact → List (List ℕ × Cell)
fact_cells script (Fact.Committed k r) = row_cells script (Some k) r
fact_cells script (Fact.Cached k s) = row_cells script (Some k) (slot_row s)
fact_cells script (Fact.Written s c) = row_cells script (Some (key_of c)) (row_left c)
fact_cells script (Fact.Copied s k r) = row_cells script (Some k) r
fact_cells script (Fact.KeyCause k s since) = row_cells script (Some k) (slot_row s)
fact_cells script _ = []

unfoldable pub fact_line : Script → ℕ → Fact → List ℕ
fact_line script n f =
    codes "{\"entry\":" ++ decimal n ++ flat_map member (fact_members script f) ++ flat_map cell_member (fact_cells script f) ++ codes "}\n"

abbrev pub fact_text : Script → ℕ → List Fact → List ℕ
fact_text script n fs = flat_map (fact_line script n) fs
