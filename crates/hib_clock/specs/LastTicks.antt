-- The last ticks that are kept while a list is gone over, and that they are those of a journal.
use Rattle.std.specs.Prelude.{◌≡◌, ℕ, true, nat_eq, unwrap_or, List, Some, None, Option}
use Rattle.std.specs.Map.{lookup}
use Rattle.hib_journal.specs.Types.{Part}
use Rattle.hib_journal.specs.Sessions.{Journal, same_part, same_session, last_tick}

-- numbers with ticks
abbrev pub Numbered : Type 0
Numbered = List (ℕ × ℕ)

-- the tick of a number, or 0
abbrev pub tick_in : Numbered → ℕ → ℕ
tick_in ticks n = unwrap_or (lookup (nat_eq n) ticks) 0

pub record TicksState : Type 0 where
  pub last : ℕ
  pub registry : ℕ
  pub store : ℕ
  pub stamps : ℕ
  pub results : ℕ
  pub regions : Numbered
  pub own : Numbered
  pub sessions : Numbered

abbrev pub part_last : TicksState → Part → ℕ
part_last t Part.Registry = t.registry
part_last t Part.Store = t.store
part_last t Part.Stamps = t.stamps
part_last t Part.Results = t.results
part_last t (Part.Region n) = tick_in t.regions n
part_last t (Part.Own s) = tick_in t.own s

abbrev pub session_last : TicksState → Option ℕ → ℕ
session_last t None = 0
session_last t (Some s) = tick_in t.sessions s

-- the last tick of all entries, of each part and of each session
pub record AreLast (t : TicksState) (h : Journal) : Type 0 where
  pub last : t.last ≡ last_tick (λ _. true) h
  pub parts : (p : Part) → part_last t p ≡ last_tick (λ d. same_part p d.part) h
  pub sessions : (s : Option ℕ) → session_last t s ≡ last_tick (λ d. same_session s d.session) h
