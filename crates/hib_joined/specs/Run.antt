-- What a run over parts comes to.
use Rattle.std.specs.Prelude.{◌≡◌, ◌≤◌, ℕ, ⊤, List, map, Option}
use Rattle.hib_base.specs.Tables.{Tables}
use Rattle.hib_journal.specs.Types.{Script}
use Rattle.hib_journal.specs.Kept.{Kept, past}
use Rattle.hib_journal.specs.Sessions.{Journal}
use Rattle.hib_journal.specs.Legal.{IsLegal}
use Rattle.hib_journal.specs.Runs.{ask_count, fault_count, told_committed}
use Rattle.hib_law.specs.Law.{Obeys}
use Rattle.hib_split_law.specs.Merged.{AreDue}
use Rattle.hib_session.specs.Bound.{outside_count}
use Rattle.hib_session.specs.Sessions.{AreOver}
use Rattle.hib_engines.specs.Counts.{RoseBy, RoseWithin}
use Rattle.hib_engines.specs.Origin.{Origin}
pub use Rattle.hib_parts.specs.Run.{AreInOrder, IsOneByOne}
use Rattle.hib_split.specs.Alone.{AreListed}
use Rattle.hib_merge.specs.declared.tearing.Torn.{Torn}
use Rattle.hib_joined.specs.Joined.{AreApart, AreJoined}
use Rattle.hib_joined.specs.declared.joining.Joined.{Joined}

-- a run with its one journal, from the rows at the start: what the keeper tells at its end is what the journal says
pub record IsOneRun (script : Script) (from : Origin) (h : Journal) (rows : Option Tables) (failed asked_for : ℕ) : Type 0 where
  pub legal : IsLegal script from.tables h
  pub law : Obeys script from.tables h
  -- steps of sessions alone: no kill, no eviction and no restart
  pub inside : outside_count h ≡ 0
  -- each entry has the tick that is due, by the last ones of its part and of its session
  pub due : AreDue h
  pub over : AreOver script h
  pub committed : rows ≡ told_committed from.tables h
  pub faults : RoseBy from.faults (fault_count h) failed
  pub asked : RoseWithin from.asked (ask_count h) asked_for

-- there are lists of parts and of sessions, each legal by itself from these rows, that don't fit together, and this is where they
-- part first. Of two regions that were taken for each other nothing is said
abbrev pub HaveParted : Script → Option Tables → Torn → Type 0
HaveParted script told (Torn.Region asked found) = ⊤
HaveParted script told torn =
    (lists : List Journal) × (mine : List Kept) × AreListed script told lists (map past mine) × AreJoined lists mine (Joined.Torn torn)

-- on n workers: the run has one journal, in which one worker steps one session after the other; or it is torn, which doesn't come
-- with one worker; or memory ran out
abbrev pub CameToOne : ℕ → Script → Origin → Joined → Option Tables → ℕ → ℕ → Type 0
CameToOne n script from (Joined.One j) rows failed asked_for = IsOneRun script from (past j) rows failed asked_for × (n ≡ 1 → IsOneByOne (past j))
CameToOne n script from (Joined.Torn t) rows failed asked_for = (2 ≤ n) × AreApart t × HaveParted script from.tables t × RoseBy from.faults 0 failed
CameToOne n script from Joined.NoMemory rows failed asked_for = RoseBy from.faults 0 failed
