-- What is played of a run, and what is left to play.
use Rattle.std.specs.Prelude.{◌≡◌, ℕ, true, suc, length, ◌++◌, reverse, Some, Option, option_and_then}
use Rattle.hib_journal.specs.Types.{Script}
use Rattle.hib_journal.specs.Sessions.{Journal}
use Rattle.std.specs.List.{range_with_len}
use Rattle.hib_journal.specs.Runs.{name_identifiers}
use Rattle.hib_journal.specs.Played.{Playing, play_steps, play_orders, play_sessions}

-- what plays, after a journal, the entries that come, the oldest first
abbrev pub Play : Type 0
Play = Journal → Journal → Option Playing

-- nothing more
abbrev pub played : Play
played past rest = Some (past, rest)

-- a session, to its end
abbrev pub play_all : Script → ℕ → Play
play_all script s past rest = play_steps script s (suc (length rest)) past rest

-- the orders of the schedule, one after the other, and then each session to its end
abbrev pub play_script : Script → Play
play_script script past rest =
    option_and_then (λ p. play_sessions script (range_with_len 0 (length script.sessions)) p.0 p.1) (play_orders script script.schedule past rest)

-- a journal has gone on from another, or is still that
abbrev pub GoesOn : Journal → Journal → Type 0
GoesOn old new = (added : Journal) × (new ≡ added ++ old)

-- entries were added to a journal, the oldest first: to play all from the old journal is to play them, and then what is left
pub record Leads (all left : Play) (old new : Journal) : Type 0 where
  pub added : Journal
  pub grown : new ≡ reverse added ++ old
  pub plays : (rest : Journal) → all old (added ++ rest) ≡ left new rest

-- what was evicted from outside has an identifier still, if it had one before
abbrev pub AreNamed : Journal → Journal → Type 0
AreNamed old new = name_identifiers old ≡ true → name_identifiers new ≡ true
