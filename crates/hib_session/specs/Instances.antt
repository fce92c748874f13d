-- Which instances have a change that is pending, and that the keys of these are known.
use Rattle.std.specs.Prelude.{◌≡◌, Bool, true, false, not, List, Some, None, Option, is_some}
use Rattle.hib_journal.specs.Types.{Key, Row, State, Held}
use Rattle.hib_journal.specs.Held.{same_cells}
use Rattle.hib_identity_map.specs.Identity.{Pairs, look_in, are_distinct}
use Rattle.hib_completion.specs.Completed.{is_key_in}

-- it is new, its cells differ from those of its base, or it is to be deleted
abbrev pub is_changed : State → Row → Option Row → Bool
is_changed State.New r b = true
is_changed State.Managed r None = false
is_changed State.Managed r (Some b) = not (same_cells r.cells b.cells)
is_changed State.Removed r b = is_some b

abbrev pub is_pending : Option Held → Bool
is_pending None = false
is_pending (Some h) = is_changed h.state h.row h.base

abbrev pub is_removed_state : State → Bool
is_removed_state State.Removed = true
is_removed_state _ = false

abbrev pub is_gone : Option Held → Bool
is_gone None = false
is_gone (Some h) = is_removed_state h.state

-- each key stands once; one of whose instance a change is pending is among the touched, and one whose instance is marked as removed
-- among the removals
pub record Covers (touched removals : List Key) (held : Pairs) : Type 0 where
  pub distinct : are_distinct held ≡ true
  pub pending : (k : Key) → is_pending (look_in held k) ≡ true → is_key_in k touched ≡ true
  pub gone : (k : Key) → is_gone (look_in held k) ≡ true → is_key_in k removals ≡ true
