-- The JSON line of an entry, whose members are typed, and its line of comma-separated values.
use Rattle.std.specs.Prelude.{ℕ, if◌then◌else◌, ◌==◌, List, [], ◌∷◌, ◌++◌, codes, flat_map, bytes_eq, Option, Some, None}
use Rattle.std.specs.List.{join_by}
use Rattle.std.specs.Fmt.{decimal, signed_decimal}
use Rattle.hib_journal.specs.Types.{Cell, Entry, Script}
use Rattle.hib_texts.specs.Texts.{cell_text, bool_text}
use Rattle.hib_flat.specs.Members.{Value, number, word, boolean, words, list, Member, members, cells}
use Rattle.hib_flat.specs.Columns.{columns}

-- ---- JSON

-- a word and a name have nothing to escape
abbrev pub in_quotes : List ℕ → List ℕ
in_quotes w = codes "\"" ++ w ++ codes "\""

abbrev pub words_text : List (List ℕ) → List ℕ
words_text ws = codes "[" ++ join_by in_quotes (codes ",") ws ++ codes "]"

abbrev pub list_text : List Cell → List ℕ
list_text cs = codes "[" ++ join_by cell_text (codes ",") cs ++ codes "]"

abbrev pub value_text : Value → List ℕ
value_text (number n) = decimal n
value_text (word w) = in_quotes w
value_text (boolean b) = bool_text b
value_text (words ws) = words_text ws
value_text (list cs) = list_text cs

-- nothing where there is no value
abbrev pub member_text : Member → List ℕ
member_text (name, None) = []
member_text (name, Some v) = codes ",\"" ++ name ++ codes "\":" ++ value_text v

abbrev pub cell_member : List ℕ × Cell → List ℕ
cell_member c = codes ",\"cell_" ++ c.0 ++ codes "\":" ++ cell_text c.1

-- the object of an entry, without a line feed
unfoldable pub flat_line : Script → Entry → List ℕ
flat_line script e =
    codes "{\"tick\":" ++ decimal e.tick ++ flat_map member_text (members script e) ++ flat_map cell_member (cells script e) ++ codes "}"

-- the lines of entries, each with a line feed
abbrev pub flat : Script → List Entry → List ℕ
flat script es = flat_map (λ e. flat_line script e ++ codes "\n") es

-- ---- comma-separated values

-- a mark in it stands twice
abbrev pub doubled : ℕ → List ℕ
doubled b = if b == 34 then 34 ∷ 34 ∷ [] else b ∷ []

abbrev pub csv_quoted : List ℕ → List ℕ
csv_quoted t = codes "\"" ++ flat_map doubled t ++ codes "\""

abbrev pub csv_cell : Cell → List ℕ
csv_cell (Cell.Int n) = signed_decimal n
csv_cell (Cell.Text t) = csv_quoted t
csv_cell (Cell.Bool b) = bool_text b

-- names and cells as JSON's array, between marks
abbrev pub csv_value : Value → List ℕ
csv_value (number n) = decimal n
csv_value (word w) = w
csv_value (boolean b) = bool_text b
csv_value (words ws) = csv_quoted (words_text ws)
csv_value (list cs) = csv_quoted (list_text cs)

abbrev pub csv_some : Option Value → List ℕ
csv_some None = []
csv_some (Some v) = csv_value v

abbrev pub csv_member : Member → List ℕ
csv_member m = codes "," ++ csv_some m.1

-- the first cell of this name
abbrev pub cell_at : List ℕ → List (List ℕ × Cell) → Option Cell
cell_at name [] = None
cell_at name (c ∷ cs) = if bytes_eq c.0 name then Some c.1 else cell_at name cs

abbrev pub csv_some_cell : Option Cell → List ℕ
csv_some_cell None = []
csv_some_cell (Some c) = csv_cell c

-- the cells of these names
abbrev pub csv_cells : List (List ℕ) → List (List ℕ × Cell) → List ℕ
csv_cells names cs = flat_map (λ name. codes "," ++ csv_some_cell (cell_at name cs)) names

-- a value for each name, empty where there is none
unfoldable pub csv_line : Script → Entry → List ℕ
csv_line script e = decimal e.tick ++ flat_map csv_member (members script e) ++ csv_cells (columns script) (cells script e)

-- the names of what stands in each line
abbrev pub header : Script → List ℕ
header script =
    codes "tick,session,part,act,reply,cause,killed,entity,id,version,expected,found,query,dropped,list,tables,table,stamp,"
    ++ codes "time,floor,lock,until,released,stored,holders,evicted,late" ++ flat_map (λ name. codes ",cell_" ++ name) (columns script)

-- a line of names, then one for each entry, each with a line feed
abbrev pub flat_csv : Script → List Entry → List ℕ
flat_csv script es = header script ++ codes "\n" ++ flat_map (λ e. csv_line script e ++ codes "\n") es
