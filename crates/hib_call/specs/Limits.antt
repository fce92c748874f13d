-- How many bytes a call reads at most.
use Rattle.std.specs.Prelude.{ℕ}

-- of a script, with the section after it
abbrev pub max_script : ℕ
max_script = 1048576

-- of a script with a journal after it
abbrev pub max_journal : ℕ
max_journal = 67108864

-- in one piece
abbrev pub max_piece : ℕ
max_piece = 4096
