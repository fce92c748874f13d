-- What the pass over a journal knows of a session, as the definitions give it. A place is the number of an entry, from 0.
use Rattle.std.specs.Prelude.{◌≡◌, ℕ, ◌≤◌, ◌<◌, Bool, true, false, ◌||◌, ◌==◌, nat_le, nat_lt, Some, None, Option}
use Rattle.hib_journal.specs.Types.{Outcome, Act, Reply}
use Rattle.hib_journal.specs.Sessions.{Journal, is_open, was_killed, own}
use Rattle.hib_journal.specs.Legal.{outcome, outcome_after}
use Rattle.hib_report.specs.declared.fates.Fate.{Fate}

-- whether a session that began at a place, and has not ended, is open after the last restart, or was lost by it; restart is the place
-- after that restart
abbrev pub is_open_at : ℕ → Option ℕ → Bool
is_open_at restart None = false
is_open_at restart (Some b) = nat_le restart b

abbrev pub is_lost_at : ℕ → Option ℕ → Bool
is_lost_at restart None = false
is_lost_at restart (Some b) = nat_lt b restart

-- what an entry of a session does to it
abbrev pub own_noted : ℕ → ℕ → Act → Reply → Fate → Fate
own_noted restart place Act.Begin r f = record f { opened = Some place; killed = f.killed || is_lost_at restart f.opened }
own_noted restart place Act.End r f = record f { opened = None; killed = f.killed || is_lost_at restart f.opened }
own_noted restart place a r f = record f { outcome = outcome_after a r f.outcome }

-- what a kill does to the session that it names
abbrev pub kill_noted : Fate → Fate
kill_noted f = record f { opened = None; killed = true }

abbrev pub kills : ℕ → Act → Bool
kills s (Act.Kill n) = n == s
kills s _ = false

-- the place after the last restart, if next is the place after an act
abbrev pub restart_after : ℕ → Act → ℕ → ℕ
restart_after next Act.Restart restart = next
restart_after next _ restart = restart

-- it stands for a session of which this is known after n entries
pub record IsFated (restart n : ℕ) (f : Fate) (opened killed : Bool) (last : Outcome) : Type 0 where
  pub since : restart ≤ n
  pub early : (b : ℕ) → f.opened ≡ Some b → b < n
  pub open_now : is_open_at restart f.opened ≡ opened
  pub killed_once : (f.killed || is_lost_at restart f.opened) ≡ killed
  pub last_outcome : f.outcome ≡ last

abbrev pub IsFateOf : ℕ → ℕ → ℕ → Fate → Journal → Type 0
IsFateOf restart n s f past = IsFated restart n f (is_open s past) (was_killed s past) (outcome (own s past))
