-- What is played of a run with collections: the orders that run sessions, and then each session to its end.
use Rattle.std.specs.Prelude.{◌≡◌, ◌<◌, ℕ, Bool, false, List, length, is_some, Some}
use Rattle.std.specs.List.{range_with_len}
use Rattle.hib_journal.specs.Types.{Order, Script}
use Rattle.hib_playing.specs.Playing.{Play, play_all, play_each, play_steps, play_then, plays}
use Rattle.hib_collections_law.specs.declared.entries.Def.{Def}
use Rattle.hib_collections_law.specs.declared.entries.GatherEntry.{GatherEntry}
use Rattle.hib_collections_law.specs.Types.{Gathered}
use Rattle.hib_collections_law.specs.Gathered.{due, is_by}

abbrev pub has_next : Script → List Def → Gathered → ℕ → Bool
has_next script defs g s = is_some (due script defs s g)

-- a schedule with collections runs sessions alone
abbrev pub play_order : Script → List Def → Order → Play GatherEntry
play_order script defs (Order.Run s n) past rest = play_steps (has_next script defs) is_by s n past rest
play_order script defs o past rest = Some (past, rest)

-- each session, to its end
abbrev pub play_sessions : Script → List Def → Play GatherEntry
play_sessions script defs = play_each (play_all (has_next script defs) is_by) (range_with_len 0 (length script.sessions))

-- the orders of the schedule, one after the other, and then the rest of each session
abbrev pub play_script : Script → List Def → Play GatherEntry
play_script script defs = play_then (play_each (play_order script defs) script.schedule) (play_sessions script defs)

-- the journal is what the schedule and then the rest of each session give
unfoldable pub is_played : Script → List Def → Gathered → Bool
is_played script defs g = plays (play_script script defs) g

-- nothing is due in any session
abbrev pub AreOver : Script → List Def → Gathered → Type 0
AreOver script defs g = (s : ℕ) → s < length script.sessions → has_next script defs g s ≡ false
