-- The open sessions, and that they are those of a journal.
use Rattle.std.specs.Prelude.{◌≡◌, ℕ, ◌≤◌, ◌<◌, Bool, true, false, if◌then◌else◌, not, nat_eq, ◌==◌, List, [], ◌∷◌, ◌++◌, map, Some, None, Option, unwrap_or}
use Rattle.std.specs.List.{filter, list_any}
use Rattle.std.specs.Map.{lookup}
use Rattle.hib_journal.specs.Types.{Part, Act}
use Rattle.hib_journal.specs.Sessions.{Journal, is_open, time, floor, same_part, last_tick}

-- sessions with their times
abbrev pub Opened : Type 0
Opened = List (ℕ × ℕ)

-- the first of them has the least time
abbrev pub floor_in : Opened → ℕ → ℕ
floor_in [] now = now
floor_in (p ∷ ps) now = p.1

abbrev pub least_in : Opened → Option ℕ
least_in [] = None
least_in (p ∷ ps) = Some p.1

abbrev pub without : ℕ → Opened → Opened
without s ps = filter (λ p. not (p.0 == s)) ps

abbrev pub with_begun : ℕ → Option ℕ → Opened → Opened
with_begun now None ps = ps
with_begun now (Some s) ps = without s ps ++ (s, now) ∷ []

abbrev pub with_ended : Option ℕ → Opened → Opened
with_ended None ps = ps
with_ended (Some s) ps = without s ps

-- the open sessions after an act at this tick
abbrev pub opened_after : ℕ → Option ℕ → Act → Opened → Opened
opened_after now by Act.Begin ps = with_begun now by ps
opened_after now by Act.End ps = with_ended by ps
opened_after now by (Act.Kill s) ps = without s ps
opened_after now by Act.Restart ps = []
opened_after now by _ ps = ps

-- what an act of a session's own leaves of them
abbrev pub own_after : ℕ → Act → Opened → Opened
own_after s Act.End ps = without s ps
own_after s _ ps = ps

abbrev pub time_of : Opened → ℕ → Option ℕ
time_of [] s = None
time_of (p ∷ ps) s = if p.0 == s then Some p.1 else time_of ps s

-- each of the times is so
abbrev pub Each : (ℕ → Type 0) → Opened → Type 0
Each P [] = Unit {0}
Each P (p ∷ ps) = P p.1 × Each P ps

-- each time is before those behind it
abbrev pub AreRising : Opened → Type 0
AreRising [] = Unit {0}
AreRising (p ∷ ps) = Each (λ t. p.1 < t) ps × AreRising ps

-- whether a session is open
abbrev pub holds : ℕ → Opened → Bool
holds s ps = list_any (λ p. p.0 == s) ps

abbrev pub time_if_open : ℕ → Journal → Option ℕ
time_if_open s h = if is_open s h then Some (time s h) else None

-- the tick of the registry's last entry
abbrev pub last_of : Journal → ℕ
last_of h = last_tick (λ d. same_part Part.Registry d.part) h

-- each open session has its time, in order, none after the registry's last entry
pub record IsRegistry (open_sessions : List (ℕ × ℕ)) (h : Journal) : Type 0 where
  pub each : (s : ℕ) → time_of open_sessions s ≡ time_if_open s h
  pub rising : AreRising open_sessions
  pub since : Each (λ t. 1 ≤ t) open_sessions
  pub until : Each (λ t. t ≤ last_of h) open_sessions

-- the least time of the open sessions, and none exactly where none is open: so it is the floor, until one begins
pub record IsLeast (o : Option ℕ) (h : Journal) : Type 0 where
  pub none : o ≡ None → (s : ℕ) → is_open s h ≡ false
  pub some : (t : ℕ) → o ≡ Some t → (s : ℕ) × (is_open s h ≡ true) × (time s h ≡ t)
  pub least : (t : ℕ) → o ≡ Some t → (s : ℕ) → is_open s h ≡ true → t ≤ time s h
  pub floor : (now : ℕ) → last_of h < now → floor h now ≡ unwrap_or o now

-- ---- how they are kept: the sessions by their times, and the times by their sessions

abbrev pub by_session : List (ℕ × ℕ) → Opened
by_session begun = map (λ e. (e.1, e.0)) begun

-- no session stands twice
abbrev pub AreApart : Opened → Type 0
AreApart [] = Unit {0}
AreApart (p ∷ ps) = (holds p.0 ps ≡ false) × AreApart ps

-- both are of the same sessions, each of which stands once, in order of the times
pub record IsIndexed (begun times : List (ℕ × ℕ)) : Type 0 where
  pub same : (s : ℕ) → lookup (nat_eq s) times ≡ time_of (by_session begun) s
  pub rising : AreRising (by_session begun)
  pub apart : AreApart (by_session begun)
