-- What is played of a run with bulk lines: the orders, and then each session and each line to its end.
use Rattle.std.specs.Prelude.{◌≡◌, ◌<◌, ℕ, ◌+◌, ◌==◌, Bool, false, List, length, is_some, Some}
use Rattle.std.specs.List.{range_with_len}
use Rattle.hib_journal.specs.Types.{Order, Script}
use Rattle.hib_playing.specs.Playing.{Play, play_all, play_each, play_steps, play_then, plays}
use Rattle.hib_bulk.specs.Types.{BulkDef, BulkEntry}
use Rattle.hib_bulk_law.specs.Plain.{Bulked}
use Rattle.hib_bulk_law.specs.Acts.{next}

abbrev pub has_next : Script → List BulkDef → Bulked → ℕ → Bool
has_next script lines h s = is_some (next script lines h s)

abbrev pub is_by : ℕ → BulkEntry → Bool
is_by s e = e.session == s

-- how many sessions and lines there are, which have the numbers from 0 on
abbrev pub number_count : Script → List BulkDef → ℕ
number_count script lines = length script.sessions + length lines

-- an order runs a session or a line
abbrev pub play_order : Script → List BulkDef → Order → Play BulkEntry
play_order script lines (Order.Run s n) past rest = play_steps (has_next script lines) is_by s n past rest
play_order script lines o past rest = Some (past, rest)

-- each session and then each line, to its end
abbrev pub play_numbers : Script → List BulkDef → Play BulkEntry
play_numbers script lines = play_each (play_all (has_next script lines) is_by) (range_with_len 0 (number_count script lines))

-- the orders, one after the other, and then the rest
abbrev pub play_script : Script → List BulkDef → List Order → Play BulkEntry
play_script script lines orders = play_then (play_each (play_order script lines) orders) (play_numbers script lines)

-- the journal is what the orders and then the rest give
unfoldable pub is_played : Script → List BulkDef → List Order → Bulked → Bool
is_played script lines orders h = plays (play_script script lines orders) h

-- nothing is due in any session or line
abbrev pub AreOver : Script → List BulkDef → Bulked → Type 0
AreOver script lines h = (s : ℕ) → s < number_count script lines → has_next script lines h s ≡ false
