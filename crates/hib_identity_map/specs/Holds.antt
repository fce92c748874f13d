-- Instances that stand for what a session's entries hold.
use Rattle.std.specs.Prelude.{◌≡◌, true, map, Some, None, Option}
use Rattle.std.specs.List.{filter_map}
use Rattle.hib_journal.specs.Types.{Key, Held}
use Rattle.hib_journal.specs.Sessions.{Journal}
use Rattle.hib_journal.specs.Held.{Instance, held, arrived}
use Rattle.hib_identity_map.specs.Identity.{Pairs, look_in, are_distinct}

-- the instance of a key
abbrev pub shown_of : Key → Held → Instance
shown_of k h = record { key = k; state = h.state; base = h.base; row = h.row }

abbrev pub shown : Key × Held → Instance
shown p = shown_of p.0 p.1

abbrev pub shown_by : Key → Option Held → Option Instance
shown_by k None = None
shown_by k (Some h) = Some (shown_of k h)

-- what is kept of a key, or none
abbrev pub held_in : Pairs → Key → Option Instance
held_in ps k = shown_by k (look_in ps k)

-- the instances stand for what is held
pub record Holds (ps : Pairs) (mine : Journal) : Type 0 where
  pub instances : (k : Key) → held_in ps k ≡ held mine k
  pub order : map shown ps ≡ filter_map (λ k. held mine k) (arrived mine)
  pub distinct : are_distinct ps ≡ true
