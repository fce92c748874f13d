-- The tick that is due.
use Rattle.std.specs.Prelude.{ℕ, ◌+◌, max}

-- one more than the greater of a part's last tick and a session's
abbrev pub due : ℕ → ℕ → ℕ
due part session = max part session + 1
