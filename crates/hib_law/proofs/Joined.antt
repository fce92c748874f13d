-- All claims together.
use Rattle.hib_journal.specs.Types.{Key, Row, Strategy, Script}
use Rattle.std.proofs.Common.{◌≡◌, ℕ, ◌≤◌, Bool, false, List, [], ◌∷◌, Some, None, Option, subst}
use Rattle.hib_base.specs.Tables.{Tables, row_at}
use Rattle.hib_journal.specs.Sessions.{Journal, committed}
use Rattle.hib_journal.specs.Slot.{LockState, Slot, slot}
use Rattle.hib_journal.specs.Coherence.{holders, is_done, last_row}
use Rattle.hib_journal.specs.Legal.{IsLegal}
use Rattle.hib_law.specs.Law.{Coheres, Obeys}
use Rattle.hib_journal.proofs.Steps.{steps_in_order}
use Rattle.hib_law.proofs.Answered.{key_coherent, finds_answered}
use Rattle.hib_law.proofs.Hits.{hits_true, results_true}
use Rattle.hib_law.proofs.Misses.{have_causes}
use Rattle.hib_law.proofs.Stored.{items_old}
use Rattle.hib_law.proofs.ReadOnly.{items_given}
use Rattle.hib_law.proofs.Ids.{locks_kept}
use Rattle.hib_law.specs.Writers.{AreWritersHolders}
use Rattle.hib_law.proofs.Writers.{writers_hold}
use Rattle.hib_journal.specs.Next.{strategy}
use Rattle.hib_law.specs.Prefixes.{AtEachPrefix}
use Rattle.hib_law.specs.Seen.{AreSeenSafe, AreFloorsLow}
use Rattle.hib_law.specs.Lone.{IsAlone, IsLockLone}
use Rattle.hib_law.specs.Standing.{AreStampsLate, AreResultsTrue}
use Rattle.hib_law.proofs.Stamped.{stamps_late}
use Rattle.hib_law.proofs.Guarded.{In, IsSingle, IsLone, listed_in}
use Rattle.hib_law.proofs.Floors.{floors_le}
use Rattle.hib_law.proofs.Whole.{coherent}

-- what holds of every legal journal holds at each prefix of one
each : (P : Journal → Type 0) (script : Script) (start : Tables) → ((g : Journal) → IsLegal script (Some start) g → P g) →
    (h : Journal) → IsLegal script (Some start) h → AtEachPrefix P h
each P script start f [] l = f [] l
each P script start f (e ∷ h) l = (f (e ∷ h) l, each P script start f h l.0)

pub seen_safe : (script : Script) (start : Tables) (k : Key) → strategy script k.entity ≡ Strategy.ReadWrite →
    (h : Journal) → IsLegal script (Some start) h → AtEachPrefix (AreSeenSafe script start k) h
seen_safe script start k p = each (AreSeenSafe script start k) script start (λ g l w s b o n. (coherent script start k p g l w).safe s b o n)

pub floors_low : (script : Script) (start : Tables) (h : Journal) → IsLegal script (Some start) h → AtEachPrefix AreFloorsLow h
floors_low script start = each AreFloorsLow script start (λ g l. floors_le script start g l)

lock_lone : (x : Slot) (row : Option Row) (hs : List ℕ) (done : ℕ → Bool) (last : ℕ → Option Row) (l : LockState) → x ≡ Slot.Lock l → IsSingle x → IsLone x row hs done last →
    l.shared ≡ false → (l.holders ≤ 1) × ((s : ℕ) → In s hs → IsAlone l.version row (done s) (last s))
lock_lone x row hs done last l e one lone u =
    (subst (λ y. IsSingle y) e one u, subst (λ y. IsLone y row hs done last) e lone u)

pub locks_lone : (script : Script) (start : Tables) (k : Key) → strategy script k.entity ≡ Strategy.ReadWrite →
    (h : Journal) → IsLegal script (Some start) h → AtEachPrefix (IsLockLone script start k) h
locks_lone script start k p = each (IsLockLone script start k) script start
    (λ g l w lock e u.
    let c = (coherent script start k p g l w).holding in
    let z : (lock.holders ≤ 1) × ((s : ℕ) → In s (holders k g) → IsAlone lock.version (row_at (committed start g) k) (is_done s g) (last_row k s g)) =
    lock_lone (slot script.timeout k g) (row_at (committed start g) k) (holders k g) (λ s. is_done s g) (λ s. last_row k s g) lock e c.single c.lone u in
    (z.0, λ s i. z.1 s (listed_in s (holders k g) i)))

pub stamps_are_late : (script : Script) (start : Tables) (h : Journal) → IsLegal script (Some start) h → AtEachPrefix (AreStampsLate script) h
stamps_are_late script start = each (AreStampsLate script) script start (λ g l. stamps_late script start g l)

pub results_are_true : (script : Script) (start : Tables) (h : Journal) → IsLegal script (Some start) h → AtEachPrefix (AreResultsTrue script start) h
results_are_true script start = each (AreResultsTrue script start) script start (λ g l. results_true script start g l)

pub coheres : (script : Script) (start : Tables) (h : Journal) → IsLegal script (Some start) h → Coheres script start h
coheres script start h l = record {
  rows = λ k p. key_coherent script start k p h l;
  finds = finds_answered script start h l;
  hits = hits_true script start h l;
  misses = have_causes script start h l;
  items = λ k. items_old script start k h l;
  given = λ k p. items_given script start k p h l;
  locks = λ k p. locks_kept script start k p h l;
  safe = λ k p. seen_safe script start k p h l;
  writers = λ k p. each (AreWritersHolders k) script start (λ g l. writers_hold script start k p g l) h l;
  lone = λ k p. locks_lone script start k p h l;
  stamps = stamps_are_late script start h l;
  results = results_are_true script start h l;
  floors = floors_low script start h l;
  steps = λ s. steps_in_order script (Some start) s h l;
}

pub obeyed : (script : Script) (told : Option Tables) (h : Journal) → IsLegal script told h → Obeys script told h
obeyed script (Some start) h l = coheres script start h l
obeyed script None h l = λ s. steps_in_order script None s h l
