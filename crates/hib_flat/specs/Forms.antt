-- The two forms of a line under one name each.
use Rattle.std.specs.Prelude.{ℕ, List, [], ◌++◌, codes, flat_map}
use Rattle.hib_journal.specs.Types.{Entry, Script}
use Rattle.hib_flat.specs.declared.form.Form.{Form}
use Rattle.hib_flat.specs.Members.{Member}
use Rattle.hib_flat.specs.Lines.{member_text, csv_member, in_quotes, csv_quoted, flat_line, csv_line}
use Rattle.hib_flat.specs.Columns.{columns}

-- a member, with what stands before it
abbrev pub piece : Form → Member → List ℕ
piece Form.Json m = member_text m
piece Form.Csv m = csv_member m

abbrev pub pieces : Form → List Member → List ℕ
pieces form ms = flat_map (piece form) ms

-- what stands before a value
abbrev pub label : Form → List ℕ → List ℕ
label Form.Json name = codes ",\"" ++ name ++ codes "\":"
label Form.Csv name = codes ","

-- a word as a value
abbrev pub word_as : Form → List ℕ → List ℕ
word_as Form.Json w = in_quotes w
word_as Form.Csv w = w

-- JSON's array as a value
abbrev pub array_as : Form → List ℕ → List ℕ
array_as Form.Json text = text
array_as Form.Csv text = csv_quoted text

-- the columns whose names a line needs
abbrev pub needed : Form → Script → List (List ℕ)
needed Form.Json script = []
needed Form.Csv script = columns script

abbrev pub line_as : Form → Script → Entry → List ℕ
line_as Form.Json script e = flat_line script e
line_as Form.Csv script e = csv_line script e

abbrev pub lines_as : Form → Script → List Entry → List ℕ
lines_as form script es = flat_map (λ e. line_as form script e ++ codes "\n") es
