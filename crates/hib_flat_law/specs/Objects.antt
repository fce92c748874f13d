-- The value that the line of an entry is: an object whose members have types.
use Rattle.std.specs.Prelude.{ℕ, List, [], ◌∷◌, ◌++◌, codes, Some, None, pos, negsuc}
use Rattle.serde_json.specs.Data as data_of
use Rattle.hib_journal.specs.Types.{Cell, Entry, Script}
use Rattle.hib_flat.specs.Members.{Value, number, word, boolean, words, list, Member, members, cells}

abbrev pub number_data : ℕ → data_of.Data
number_data n = data_of.number (data_of.unsigned n)

abbrev pub cell_data : Cell → data_of.Data
cell_data (Cell.Int (pos n)) = number_data n
cell_data (Cell.Int (negsuc n)) = data_of.number (data_of.negative (negsuc n))
cell_data (Cell.Text t) = data_of.string t
cell_data (Cell.Bool b) = data_of.boolean b

abbrev pub cells_data : List Cell → data_of.Items
cells_data [] = data_of.no_items
cells_data (c ∷ cs) = data_of.item (cell_data c) (cells_data cs)

abbrev pub words_data : List (List ℕ) → data_of.Items
words_data [] = data_of.no_items
words_data (w ∷ ws) = data_of.item (data_of.string w) (words_data ws)

abbrev pub value_data : Value → data_of.Data
value_data (number n) = number_data n
value_data (word w) = data_of.string w
value_data (boolean b) = data_of.boolean b
value_data (words ws) = data_of.array (words_data ws)
value_data (list cs) = data_of.array (cells_data cs)

-- those that have a value, and then others
abbrev pub members_data : List Member → data_of.Members → data_of.Members
members_data [] rest = rest
members_data ((name, None) ∷ ms) rest = members_data ms rest
members_data ((name, Some v) ∷ ms) rest = data_of.member name (value_data v) (members_data ms rest)

abbrev pub cell_members : List (List ℕ × Cell) → data_of.Members
cell_members [] = data_of.no_members
cell_members (c ∷ cs) = data_of.member (codes "cell_" ++ c.0) (cell_data c.1) (cell_members cs)

abbrev pub members_of : Script → Entry → data_of.Members
members_of script e = data_of.member (codes "tick") (number_data e.tick) (members_data (members script e) (cell_members (cells script e)))

-- the tick, the members that the entry has, and its cells
abbrev pub object_of : Script → Entry → data_of.Data
object_of script e = data_of.object (members_of script e)
