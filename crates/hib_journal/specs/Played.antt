-- A run of a schedule: one piece for each order, and then one for each session.
use Rattle.std.specs.Prelude.{ℕ, zero, suc, Bool, false, if◌then◌else◌, not, ◌&&◌, ◌==◌, List, [], ◌∷◌, length, is_some, reverse, Some, None, Option, option_and_then}
use Rattle.std.specs.Option.{option_map_or}
use Rattle.std.specs.List.{range_with_len}
use Rattle.hib_journal.specs.Types.{Key, Act, Order, Script, Entry}
use Rattle.hib_base.specs.Keys.{same_key}
use Rattle.hib_journal.specs.Sessions.{Journal, is_empty, own, is_by, is_open, was_killed, is_restart}
use Rattle.hib_journal.specs.Next.{next}

-- what was played, the newest first, and what is still to be played, the oldest first
abbrev pub Playing : Type 0
Playing = Journal × Journal

abbrev pub has_next : Script → Journal → ℕ → Bool
has_next script h s = not (was_killed s h) && is_some (next script s (own s h))

abbrev pub play_one : (Entry → Bool) → Journal → Journal → Option Playing
play_one p past [] = None
play_one p past (e ∷ rest) = if p e then Some (e ∷ past, rest) else None

-- the next n entries of s, or fewer if it has no further act
abbrev pub play_steps : Script → ℕ → ℕ → Journal → Journal → Option Playing
play_steps script s zero past rest = Some (past, rest)
play_steps script s (suc n) past rest =
    if has_next script past s then option_and_then (λ p. play_steps script s n p.0 p.1) (play_one (is_by s) past rest) else Some (past, rest)

abbrev pub is_kill : ℕ → Act → Bool
is_kill s (Act.Kill n) = n == s
is_kill s _ = false

abbrev pub is_evict : Key → Act → Bool
is_evict k (Act.Evict j) = same_key j k
is_evict k _ = false

abbrev pub play_order : Script → Order → Journal → Journal → Option Playing
play_order script (Order.Run s n) past rest = play_steps script s n past rest
play_order script (Order.Kill s) past rest =
    if is_open s past then play_one (λ e. is_kill s e.act) past rest else Some (past, rest)
play_order script (Order.Evict k) past rest = play_one (λ e. is_evict k e.act) past rest
play_order script Order.Restart past rest = play_one (λ e. is_restart e.act) past rest

abbrev pub play_orders : Script → List Order → Journal → Journal → Option Playing
play_orders script [] past rest = Some (past, rest)
play_orders script (o ∷ os) past rest = option_and_then (λ p. play_orders script os p.0 p.1) (play_order script o past rest)

abbrev pub play_sessions : Script → List ℕ → Journal → Journal → Option Playing
play_sessions script [] past rest = Some (past, rest)
play_sessions script (s ∷ ss) past rest =
    option_and_then (λ p. play_sessions script ss p.0 p.1) (play_steps script s (suc (length rest)) past rest)

-- the journal is what the schedule and then the rest of each session give
unfoldable pub is_played : Script → Journal → Bool
is_played script h =
    let scheduled = play_orders script script.schedule [] (reverse h) in
    let played = option_and_then (λ p. play_sessions script (range_with_len 0 (length script.sessions)) p.0 p.1) scheduled in
    option_map_or (λ p. is_empty p.1) played false
