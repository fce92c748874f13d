-- What a run with bulk lines keeps: its journal is legal, and its parts, sessions and lines stand for it.
use Rattle.std.specs.Prelude.{◌≡◌, ◌<◌, ◌≤◌, ◌^◌, ◌==◌, ℕ, suc, ◌+◌, Bool, true, false, if◌then◌else◌, ◌&&◌, nat_lt, List, [], ◌∷◌, length, slice_get, IfSome, Some, None, Option}
use Rattle.hib_base.specs.Tables.{Tables, in_order}
use Rattle.hib_base.specs.Valid.{is_valid}
use Rattle.hib_journal.specs.Types.{Key, Script, Act, Reply, Entry, Outcome, Strategy}
use Rattle.hib_journal.specs.Sessions.{Journal, own, is_begun, deferred}
use Rattle.hib_journal.specs.Lists as Lists
use Rattle.hib_journal.specs.Next as Next
use Rattle.hib_journal.specs.Next.{strategy, is_cached}
use Rattle.hib_outside.specs.Causes.{Rose}
use Rattle.hib_store.specs.Stores.{MeetsBelow}
use Rattle.hib_session.specs.declared.session.Session.{Session}
use Rattle.hib_session.specs.Session.{Follows, IsTaken, number_of, left_in}
use Rattle.hib_engines.specs.Built.{IsBuilt}
use Rattle.hib_engines.specs.Counts.{RoseBy}
use Rattle.hib_engines.specs.Due.{IsDue}
use Rattle.hib_engines.specs.Origin.{Origin}
use Rattle.hib_bulk_law.specs.Types.{max_lines}
use Rattle.hib_bulk.specs.Types.{BulkDef, BulkAct, BulkReply, BulkEntry}
use Rattle.hib_bulk_law.specs.Plain.{Bulked, plain, plain_reply}
use Rattle.hib_bulk_law.specs.Wide.{is_old}
use Rattle.hib_bulk_law.specs.Rows.{line}
use Rattle.hib_bulk_law.specs.Acts.{next, swept_for, acts_of, steps_of}
use Rattle.hib_bulk_law.specs.Legal.{IsLegal, has_failed}
use Rattle.hib_bulk_law.specs.Law.{AtEachEntry, IsKeyCoherent, IsLoadView, AreInOrder}
use Rattle.hib_bulk.specs.Changed.{is_fault}
use Rattle.hib_bulk.specs.Standing.{BulkPartsState, AreStanding, IsStill, IsLate, entry_at}

-- how many replies say that the keeper failed
abbrev pub fault_count : Bulked → ℕ
fault_count [] = 0
fault_count (e ∷ h) = if is_fault e.reply then suc (fault_count h) else fault_count h

-- what a run asks of its script and its lines: the script is valid, its regions are read-write or none, the lines aren't more
-- than the limit, and a line reads entities of the mapping alone
pub record AreSet (script : Script) (lines : List BulkDef) : Type 0 where
  pub valid : is_valid script ≡ true
  pub few : length lines ≤ max_lines
  pub strategies : (n : ℕ) → is_cached script n ≡ true → strategy script n ≡ Strategy.ReadWrite
  pub below : (i : ℕ) (d : BulkDef) → slice_get lines i ≡ Some d → MeetsBelow (length script.mapping) d.entity d.condition

-- what of it the steps need, and that sessions and lines have numbers
pub record AreBuilt (script : Script) (lines : List BulkDef) : Type 0 where
  pub built : IsBuilt script
  pub numbers : length script.sessions + length lines < 2 ^ 32
  pub strategies : (n : ℕ) → is_cached script n ≡ true → strategy script n ≡ Strategy.ReadWrite
  pub below : (i : ℕ) (d : BulkDef) → slice_get lines i ≡ Some d → MeetsBelow (length script.mapping) d.entity d.condition

-- the journal is legal, the parts stand for it, and the keeper has failed as often as it says
pub record IsRun (script : Script) (lines : List BulkDef) (from : Origin) (h : Bulked) (x : BulkPartsState) : Type 0 where
  pub legal : IsLegal script lines from.tables h
  pub standing : AreStanding script lines from.tables h x
  pub ordered : IfSome from.tables (λ t. in_order t ≡ true)
  pub faults : RoseBy from.faults (fault_count h) x.store.faults
  pub entities : x.store.entities ≡ length script.mapping
  pub built : AreBuilt script lines

-- what is claimed of a legal journal
pub record Obeys (script : Script) (lines : List BulkDef) (told : Option Tables) (h : Bulked) : Type 0 where
  pub rows : (start : Tables) → told ≡ Some start → (k : Key) → strategy script k.entity ≡ Strategy.ReadWrite → IsKeyCoherent script lines start k h
  pub loads : (start : Tables) → told ≡ Some start → AtEachEntry (IsLoadView script lines start) h
  pub order : AreInOrder script lines h

-- ---- a turn of a session

-- the next entry
abbrev pub entry_of : Bulked → ℕ → BulkAct → BulkReply → BulkEntry
entry_of h s a r = entry_at (length h + 1) s a r

-- the same as it is in the plain journal
abbrev pub plain_entry : Bulked → ℕ → Act → BulkReply → Entry
plain_entry h s a r = Lists.entry_at (length h + 1) (Some s) a (plain_reply a r)

-- a reply, by what it is in the plain journal and by itself, if that is another
abbrev pub whole_of : Reply → Option BulkReply → BulkReply
whole_of r None = BulkReply.Plain r
whole_of r (Some other) = other

-- an entry of session s, by what it is in the plain journal
abbrev pub bulk_of : ℕ → Entry → Option BulkReply → BulkEntry
bulk_of s e other = record { tick = e.tick; session = s; part = e.part; act = BulkAct.Plain e.act; reply = whole_of e.reply other }

-- an act is due in session y
pub record IsTurn (script : Script) (h : Bulked) (y : Session) (a : Act) : Type 0 where
  pub known : number_of y < length script.sessions
  pub follows : Follows script y (own (number_of y) (plain h))
  pub next : Next.next script (number_of y) (own (number_of y) (plain h)) ≡ Some a
  pub due : IsDue script (own (number_of y) (plain h)) a

-- what an act of s would meet is not old
abbrev pub IsSwept : Script → Bulked → Act → Type 0
IsSwept script h a = (k : Key) → swept_for a ≡ Some k → is_old script k h ≡ false

-- an act of session s was answered
pub record Answers (script : Script) (lines : List BulkDef) (from : Origin) (s : ℕ) (a : Act) (r : BulkReply) (h : Bulked) (x y : BulkPartsState) : Type 0 where
  pub run : IsRun script lines from (entry_of h s (BulkAct.Plain a) r ∷ h) y
  pub taken : IsTaken script s (own s (plain h)) (plain_entry h s a r)
  pub fault : is_fault r ≡ true → Rose x.store.faults y.store.faults

-- an act of session y was answered, its entry added, and taken by the session
pub record Serves (script : Script) (lines : List BulkDef) (from : Origin) (a : Act) (h new : Bulked) (x w : BulkPartsState) (y z : Session) : Type 0 where
  pub answer : BulkReply
  pub grown : new ≡ entry_of h (number_of y) (BulkAct.Plain a) answer ∷ h
  pub run : IsRun script lines from new w
  pub follows : Follows script z (plain_entry h (number_of y) a answer ∷ own (number_of y) (plain h))
  pub less : left_in script z < left_in script y
  pub fault : is_fault answer ≡ true → Rose x.store.faults w.store.faults

-- an old item was swept away before the next act of session y, and the entry added
pub record Sweeps (script : Script) (lines : List BulkDef) (from : Origin) (s : ℕ) (k : Key) (h new : Bulked) (x w : BulkPartsState) : Type 0 where
  pub grown : new ≡ entry_of h s (BulkAct.Sweep k) BulkReply.Swept ∷ h
  pub run : IsRun script lines from new w
  pub swept : is_old script k new ≡ false
  pub faults : w.store.faults ≡ x.store.faults

-- nothing was added: the parts are as before, but for the keeper's counts, and the session follows what it followed
pub record Leaves (script : Script) (h new : Bulked) (x w : BulkPartsState) (y z : Session) : Type 0 where
  pub same : new ≡ h
  pub parts : IsStill x w
  pub entities : w.store.entities ≡ x.store.entities
  pub follows : (mine : Journal) → Follows script y mine → Follows script z mine

-- a sweep that is due comes before an act, so that it counts for half of one
abbrev pub sweeps : Option BulkAct → ℕ
sweeps (Some (BulkAct.Sweep k)) = 1
sweeps _ = 0

-- how much is left of session y: a number that falls with each of its entries
abbrev pub left_of : Script → List BulkDef → Bulked → Session → ℕ
left_of script lines h y = left_in script y + left_in script y + sweeps (next script lines h (number_of y))

-- the act that was due in session y was served, or what was old before it swept away
pub record Moves (script : Script) (lines : List BulkDef) (from : Origin) (h new : Bulked) (x w : BulkPartsState) (y z : Session) : Type 0 where
  pub entry : BulkEntry
  pub by : entry.session ≡ number_of y
  pub grown : new ≡ entry ∷ h
  pub due : next script lines h (number_of y) ≡ Some entry.act
  pub run : IsRun script lines from new w
  pub follows : Follows script z (own (number_of y) (plain new))
  pub others : (s : ℕ) → (number_of y == s) ≡ false → own s (plain new) ≡ own s (plain h)
  pub less : left_of script lines new z < left_of script lines h y
  pub fault : is_fault entry.reply ≡ true → Rose x.store.faults w.store.faults

-- ---- lines

-- a line is open from its Begin to its End
abbrev pub is_under_way : Bool → ℕ → Bool
is_under_way cached m = nat_lt 0 m && nat_lt m (if cached then 5 else 3)

-- how far a line has come, and whether its change was answered by a fault
pub record IsLine (script : Script) (h : Bulked) (s : ℕ) (d : BulkDef) (m : ℕ) (b : Bool) : Type 0 where
  pub steps : m ≡ steps_of s h
  pub failed : b ≡ has_failed s h
  pub begun : is_begun (own s (plain h)) ≡ is_under_way (is_cached script d.entity) m
  pub deferred : deferred (own s (plain h)) ≡ []

-- over entries that the parts stand for, an act of line s is due at the next tick
pub record IsLineTurn (script : Script) (lines : List BulkDef) (told : Option Tables) (h : Bulked) (s : ℕ) (d : BulkDef) (steps : ℕ) (failed : Bool) (a : BulkAct) (x : BulkPartsState) : Type 0 where
  pub legal : IsLegal script lines told h
  pub standing : AreStanding script lines told h x
  pub late : IsLate (length h + 1) (plain h)
  pub few : length h < 2 ^ 62
  pub known : nat_lt s (length script.sessions) ≡ false
  pub line : line script lines s ≡ Some d
  pub act : slice_get (acts_of script s d) steps ≡ Some a
  pub stands : IsLine script h s d steps failed

-- with what a line ends
abbrev pub outcome_of : Bool → Outcome
outcome_of true = Outcome.Fault
outcome_of false = Outcome.Committed

-- the act that was due in a line was answered, and its entry added
pub record LineMoves (script : Script) (lines : List BulkDef) (from : Origin) (s : ℕ) (d : BulkDef) (h new : Bulked) (x w : BulkPartsState) (steps : ℕ) (failed : Bool) : Type 0 where
  pub entry : BulkEntry
  pub by : entry.session ≡ s
  pub grown : new ≡ entry ∷ h
  pub due : next script lines h s ≡ Some entry.act
  pub run : IsRun script lines from new w
  pub stands : IsLine script new s d steps failed
  pub others : (n : ℕ) → (s == n) ≡ false → own n (plain new) ≡ own n (plain h)
  pub fault : is_fault entry.reply ≡ true → Rose x.store.faults w.store.faults
