-- A run on one worker: the lists of parts and those of sessions are those of one journal.
use Rattle.std.specs.Prelude.{◌≡◌, ◌≤◌, ◌⊎◌, ◌==◌, ℕ, Bool, true, false, not, if◌then◌else◌, take, List, [], ◌∷◌, length, map, unwrap_or}
use Rattle.std.specs.List.{filter, list_all, range_with_len}
use Rattle.hib_clock.specs.Due
use Rattle.hib_journal.specs.Types.{Part, Script, Entry}
use Rattle.hib_journal.specs.Sessions.{Journal, own, same_part}
use Rattle.hib_journal.specs.Next.{is_cached}
use Rattle.hib_journal.specs.Lists.{of_part}
use Rattle.hib_journal.specs.Runs.{IsNumbered}
use Rattle.hib_split_law.specs.Apart.{is_own, HaveSessions}
use Rattle.hib_split_law.specs.Merged.{IsInTurn, AreDue}
use Rattle.hib_parts.specs.declared.parts.Parts.{Parts}
use Rattle.hib_parts.specs.Listed.{RegionState, WorkerState, last_of}

-- the entities of regions
abbrev pub entities_of : List RegionState → List ℕ
entities_of regions = map (λ r. r.entity) regions

-- the cached entities of a script, in order
abbrev pub cached_entities : Script → List ℕ
cached_entities script = filter (λ n. is_cached script n) (range_with_len 0 (length script.mapping))

-- another entity's region
abbrev pub is_other : ℕ → RegionState → Bool
is_other n r = not (r.entity == n)

-- no region before a place is the entity's
abbrev pub IsFirst : ℕ → ℕ → List RegionState → Type 0
IsFirst n place regions = list_all (is_other n) (take place regions) ≡ true

-- the list of an entity's region, the first one if there are more
abbrev pub list_in : ℕ → List RegionState → Journal
list_in n [] = []
list_in n (r ∷ regions) = if r.entity == n then r.list else list_in n regions

-- the list of a part, if these are those of the shared ones. A session's own acts have none
abbrev pub list_on : (registry store stamps results : Journal) → List RegionState → Part → Journal
list_on registry store stamps results regions Part.Registry = registry
list_on registry store stamps results regions Part.Store = store
list_on registry store stamps results regions Part.Stamps = stamps
list_on registry store stamps results regions Part.Results = results
list_on registry store stamps results regions (Part.Region n) = list_in n regions
list_on registry store stamps results regions (Part.Own s) = []

-- the list of each of these parts
abbrev pub part_lists : {K N : Type 0} → Parts K N → Part → Journal
part_lists parts = list_on parts.registry parts.store.list parts.stamps parts.results parts.regions.items

-- one entry at the tick that is due was added to the list of a session and to that of this part, or to no other list if the part is
-- the session's own
pub record IsStepOn (p : Part) (old new : Part → Journal) (w v : WorkerState) : Type 0 where
  pub entry : Entry
  pub tick : entry.tick ≡ Due.due (last_of (old p)) (last_of w.list)
  pub parts : (q : Part) → is_own q ≡ false → new q ≡ (if same_part q p then entry ∷ old q else old q)
  pub mine : v.list ≡ entry ∷ w.list

-- the lists of sessions: this one's, and those of the others
abbrev pub with_own : WorkerState → (ℕ → Journal) → ℕ → Journal
with_own w others s = if w.number == s then w.list else others s

-- the lists of parts and of sessions are those of one journal, in which each entry is a session's, in turn and at the tick that is due
pub record AreOfRun (lists : Part → Journal) (mine : ℕ → Journal) : Type 0 where
  pub journal : Journal
  pub parts : (p : Part) → is_own p ≡ false → of_part p journal ≡ lists p
  pub own_parts : (s : ℕ) → of_part (Part.Own s) journal ≡ of_part (Part.Own s) (mine s)
  pub sessions : (s : ℕ) → own s journal ≡ mine s
  pub have_sessions : HaveSessions journal
  pub in_turn : IsInTurn journal
  pub due : AreDue journal

-- the number of the session of the last entry, or 0
abbrev pub last_session : Journal → ℕ
last_session [] = 0
last_session (e ∷ h) = unwrap_or e.session 0

-- sessions come in order of number: no entry is of an earlier session than the one before it
abbrev pub AreInOrder : Journal → Type 0
AreInOrder [] = Unit {0}
AreInOrder (e ∷ h) = AreInOrder h × (last_session h ≤ unwrap_or e.session 0)

-- the sessions came one after the other, in order of number, and the k-th entry has tick k
pub record IsOneByOne (h : Journal) : Type 0 where
  pub order : AreInOrder h
  pub numbered : IsNumbered h

-- the last entry is a session's own, of these entries; or it has none yet, and the last entry is on the registry, where it begins
abbrev pub IsNext : Journal → Journal → Journal → Type 0
IsNext registry m h = (last_of h ≤ last_of m) ⊎ ((m ≡ []) × (last_of h ≤ last_of registry))

-- lists of one journal in which sessions came one after the other, and session s, with these entries, is the last one or the next
pub record AreOfRunOneByOne (lists : Part → Journal) (mine : ℕ → Journal) (s : ℕ) (m : Journal) : Type 0 where
  pub run : AreOfRun lists mine
  pub one_by_one : IsOneByOne run.journal
  pub below : last_session run.journal ≤ s
  pub next : IsNext (lists Part.Registry) m run.journal

-- what a session did leaves lists of one journal such lists, whatever the other sessions have done before; and if sessions came one
-- after the other, they still do
pub record GoesOn (old : Part → Journal) (w : WorkerState) (new : Part → Journal) (v : WorkerState) : Type 0 where
  pub on : (others : ℕ → Journal) → AreOfRun old (with_own w others) → AreOfRun new (with_own v others)
  pub one_by_one : (others : ℕ → Journal) → AreOfRunOneByOne old (with_own w others) w.number w.list → AreOfRunOneByOne new (with_own v others) v.number v.list
