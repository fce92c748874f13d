-- What is outside of a call from memory to memory.
use Rattle.std.specs.Prelude.{ℕ, List, [], Option, Some}
use Rattle.hib_call.specs.Outside.{Outside, Shared, outside, shared}

-- before it: the source has this input, the sink has taken nothing, the keeper has no rows and was asked for none, and
-- nobody listens
abbrev pub at_start : List ℕ → Outside
at_start input = outside (Some input) 0 (Some []) 0 (shared (Some []) 0 0 [])

-- after it: the sink has taken this text, and neither it nor the source has failed
abbrev pub at_end : Option (List ℕ) → List ℕ → Shared → Outside
at_end left text kept = outside left 0 (Some text) 0 kept
