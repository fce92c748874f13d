-- What is claimed of stamps and of results for as long as they stand.
use Rattle.std.specs.Prelude.{◌≡◌, ℕ, ◌≤◌, ◌<◌, Bool, true, false, if◌then◌else◌, ◌==◌, List, [], ◌∷◌, slice_get, Some, IsSomeAnd}
use Rattle.std.specs.List.{list_any}
use Rattle.hib_base.specs.Tables.{Tables}
use Rattle.hib_base.specs.Scripts.{is_declared}
use Rattle.hib_journal.specs.Types.{Cell, Query, Script, Act, Reply, Entry}
use Rattle.hib_journal.specs.Sessions.{Journal, is_restart, committed}
use Rattle.hib_journal.specs.Stamps.{stamp, names}
use Rattle.hib_journal.specs.Results.{last_kept}
use Rattle.hib_journal.specs.Query.{gives}
use Rattle.hib_journal.specs.Sound.{kept_moment}

-- whether an act stamps t
abbrev pub stamps : ℕ → Act → Bool
stamps t (Act.Pre ts) = names t ts
stamps t (Act.Stamp ts) = names t ts
stamps t _ = false

-- the ticks of the entries since the restart that stamped t
abbrev pub stamped_at : ℕ → Journal → List ℕ
stamped_at t [] = []
stamped_at t (e ∷ h) = if is_restart e.act then [] else (if stamps t e.act then e.tick ∷ stamped_at t h else stamped_at t h)

-- the stamp of each table is at least each of these ticks
abbrev pub AreStampsLate : Script → Journal → Type 0
AreStampsLate script h = (t n : ℕ) → list_any (λ m. m == n) (stamped_at t h) ≡ true → IsSomeAnd (stamp script.timeout t h) (λ v. n ≤ v)

-- a result that is kept: it is what a List has answered, later than the result's time; and it is what the query gave over the
-- committed rows there, if its tables are declared
pub record IsResultTrue (script : Script) (start : Tables) (q time : ℕ) (list : List Cell) (h : Journal) : Type 0 where
  pub listed : (v : Entry) × (g : Journal) × (kept_moment q h ≡ v ∷ g) × (v.act ≡ Act.List q) × (v.reply ≡ Reply.Listed list) × (time < v.tick)
  pub given : (d : Query) → slice_get script.queries q ≡ Some d → is_declared script d ≡ true → list ≡ gives d (committed start (kept_moment q h))

abbrev pub AreResultsTrue : Script → Tables → Journal → Type 0
AreResultsTrue script start h = (q time : ℕ) (list : List Cell) → last_kept q h ≡ Some (time, list) → IsResultTrue script start q time list h
