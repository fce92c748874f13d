-- The pieces of an answer's text. Only clauses of private functions name these.
use Rattle.std.specs.Prelude.{ℕ, List, [], ◌∷◌, ◌++◌, codes, flat_map, Option, Some, None}
use Rattle.json.specs.Print.{quoted}
use Rattle.serde_json.specs.Written.{compact_text}
use Rattle.hib_journal.specs.Types.{Entry, Script}
use Rattle.hib_json_lines.specs.Line.{json_line}
use Rattle.hib_serve_requests.specs.Requests.{IdText, id_data}

-- the id behind a member, and before one
abbrev pub id_behind : Option IdText → List ℕ
id_behind None = []
id_behind (Some i) = codes ",\"id\":" ++ compact_text (id_data i)

abbrev pub id_before : Option IdText → List ℕ
id_before None = []
id_before (Some i) = codes "\"id\":" ++ (compact_text (id_data i) ++ codes ",")

-- a text behind its label
abbrev pub text_behind : List ℕ → Option (List ℕ) → List ℕ
text_behind label None = []
text_behind label (Some s) = label ++ quoted s

-- entries with a comma before each, and entries with a comma between two
abbrev pub more_entries : Script → List Entry → List ℕ
more_entries script es = flat_map (λ e. codes "," ++ json_line script e) es

abbrev pub all_entries : Script → List Entry → List ℕ
all_entries script [] = []
all_entries script (e ∷ es) = json_line script e ++ more_entries script es
