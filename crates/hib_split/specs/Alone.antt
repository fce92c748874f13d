-- What comes of a run.
use Rattle.std.specs.Prelude.{◌≡◌, ◌<◌, ℕ, List, [], length, None, Option}
use Rattle.std.specs.Option.{option_map}
use Rattle.hib_base.specs.Tables.{Tables}
use Rattle.hib_journal.specs.Types.{Script, Part}
use Rattle.hib_journal.specs.Sessions.{Journal}
use Rattle.hib_journal.specs.Next.{next}
use Rattle.hib_journal.specs.Lists.{of_part, stored}
use Rattle.hib_journal.specs.Runs.{fault_count}
use Rattle.hib_engines.specs.Counts.{RoseBy}
use Rattle.hib_split_law.specs.Merged.{list_of, of_part_in, ArePartsLegal, AreOwnLegal, IsMerged, Agrees, AreDue}
use Rattle.hib_merge.specs.Merging.{AreRising, IsInOne}
use Rattle.hib_engines.specs.Origin.{Origin}
use Rattle.hib_parts.specs.Run.{AreOfRun, AreOfRunOneByOne, IsOneByOne}

-- the most workers that a run takes
abbrev pub max_workers : ℕ
max_workers = 64

-- the lists of parts and those of sessions are legal, each by itself, and those of parts can be merged
pub record AreListed (script : Script) (told : Option Tables) (lists mine : List Journal) : Type 0 where
  pub parts : ArePartsLegal script told lists
  pub sessions : AreOwnLegal script mine
  pub apart : (p : Part) → IsInOne p lists
  pub rising : AreRising lists

-- the first n sessions are at their ends
abbrev pub AreAtEnds : Script → ℕ → List Journal → Type 0
AreAtEnds script n mine = (s : ℕ) → s < n → next script s (list_of s mine) ≡ None

-- a session's own acts are on its list as on that of its own part
abbrev pub AreOwnListed : List Journal → List Journal → Type 0
AreOwnListed lists mine = (s : ℕ) → of_part_in (Part.Own s) lists ≡ of_part (Part.Own s) (list_of s mine)

-- what a keeper tells is what the store's list leaves, and it has failed as often as the list says
pub record IsToldBy (from : Origin) (l : Journal) (tables : Option Tables) (failed : ℕ) : Type 0 where
  pub rows : tables ≡ option_map (λ start. stored start l) from.tables
  pub faults : RoseBy from.faults (fault_count l) failed

-- the lists of sessions agree with what those of parts are merged into, and each tick in it is the one that is due
abbrev pub AreWhole : List Journal → List Journal → Type 0
AreWhole lists mine = (h : Journal) → IsMerged lists h → Agrees mine h × AreDue h

-- the lists of parts, and those of the sessions so far, are those of one run
abbrev pub AreOfOne : (Part → Journal) → List Journal → Type 0
AreOfOne lists mine = AreOfRun lists (λ s. list_of s mine)

-- what the lists of parts are merged into has one session after the other, in order of number, and its k-th entry has tick k
abbrev pub AreOneByOne : List Journal → Type 0
AreOneByOne lists = (h : Journal) → IsMerged lists h → IsOneByOne h

-- the lists of parts, and those of the sessions so far, are those of one run of these sessions, one after the other, and the next
-- one may begin
abbrev pub AreSoFar : (Part → Journal) → List Journal → Type 0
AreSoFar lists mine = AreOfRunOneByOne lists (λ s. list_of s mine) (length mine) []
