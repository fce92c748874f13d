-- The regions of a script's entities, which bulk lines may lock as a whole.
use Rattle.std.specs.Prelude.{◌≡◌, ℕ, ◌==◌, Bool, false, List, length, slice_get, unwrap_or}
use Rattle.hib_journal.specs.Types.{Strategy, Script, Act, Reply}
use Rattle.hib_journal.specs.Next.{strategy, capacity}
use Rattle.hib_journal.specs.Regions as Regions
use Rattle.hib_rw_region.specs.Region.{slot_in, room_in}
use Rattle.hib_bulk.specs.Types.{BulkReply}
use Rattle.hib_bulk_law.specs.Plain.{Bulked}
use Rattle.hib_bulk_region.specs.Region.{BulkState, has_old}
use Rattle.hib_bulk_region.specs.Answers.{put_reply, inserted_reply}
use Rattle.hib_bulk_region.specs.Steps as Steps
use Rattle.hib_bulk_region.specs.Stands.{IsBulkRegion}
use Rattle.hib_bulk.specs.declared.region.EntityRegion.{EntityRegion}

-- of a read-write entity there is a region
abbrev pub opened : Strategy → ℕ → ℕ → EntityRegion
opened Strategy.ReadWrite capacity timeout = EntityRegion.ReadWrite (Steps.unheld capacity timeout)
opened _ capacity timeout = EntityRegion.Uncached

-- the region of an entity; none is uncached
abbrev pub region_of : List EntityRegion → ℕ → EntityRegion
region_of xs n = unwrap_or (slice_get xs n) EntityRegion.Uncached

-- no region but that of entity n has changed
pub record IsAtRegion (n : ℕ) (xs ys : List EntityRegion) : Type 0 where
  pub all : length ys ≡ length xs
  pub others : (m : ℕ) → (n == m) ≡ false → region_of ys m ≡ region_of xs m

-- ---- the calls

abbrev pub has_old_in : EntityRegion → ℕ → Bool
has_old_in EntityRegion.Uncached id = false
has_old_in (EntityRegion.ReadWrite x) id = has_old x id

abbrev pub swept : EntityRegion → ℕ → ℕ → EntityRegion
swept EntityRegion.Uncached id now = EntityRegion.Uncached
swept (EntityRegion.ReadWrite x) id now = EntityRegion.ReadWrite (Steps.swept id now x)

-- how many lines hold it
abbrev pub held_by : EntityRegion → ℕ
held_by EntityRegion.Uncached = 0
held_by (EntityRegion.ReadWrite x) = x.holders

abbrev pub locked_all : EntityRegion → EntityRegion
locked_all EntityRegion.Uncached = EntityRegion.Uncached
locked_all (EntityRegion.ReadWrite x) = EntityRegion.ReadWrite (Steps.locked_all x)

abbrev pub unlocked_all : ℕ → EntityRegion → EntityRegion
unlocked_all now EntityRegion.Uncached = EntityRegion.Uncached
unlocked_all now (EntityRegion.ReadWrite x) = EntityRegion.ReadWrite (Steps.unlocked_all now x)

-- an act of a session that began at `begun`: the answer at a tick; Done to an act that is no region's
abbrev pub answer_by : BulkState → ℕ → ℕ → Act → BulkReply
answer_by x begun now (Act.Get k time) = Steps.got x k.id time
answer_by x begun now (Act.Put k row time floor) = put_reply (Steps.put x k.id row.version time floor)
answer_by x begun now (Act.Lock k version floor) =
    BulkReply.Plain (Reply.Locked (Regions.lock x.inner.timeout (slot_in x.inner k.id) (room_in x.inner floor) now))
answer_by x begun now (Act.Unlock k lock) = BulkReply.Plain (Reply.Unlocked (Regions.unlock (slot_in x.inner k.id) lock))
answer_by x begun now (Act.AfterInsert k row floor) = inserted_reply (Steps.inserted x k.id begun floor)
answer_by x begun now (Act.AfterUpdate k lock row) = BulkReply.Plain (Reply.Updated (Steps.updated x k.id lock))
answer_by x begun now _ = BulkReply.Plain Reply.Done

abbrev pub state_after : BulkState → ℕ → ℕ → Act → BulkState
state_after x begun now (Act.Put k row time floor) = Steps.after_put k.id row time floor now x
state_after x begun now (Act.Lock k version floor) = Steps.after_lock k.id version floor now x
state_after x begun now (Act.Unlock k lock) = Steps.after_unlock k.id lock now x
state_after x begun now (Act.AfterInsert k row floor) = Steps.after_insert k.id row begun floor now x
state_after x begun now (Act.AfterUpdate k lock row) = Steps.after_update k.id lock row now x
state_after x begun now _ = x

abbrev pub answer_in : EntityRegion → ℕ → ℕ → Act → BulkReply
answer_in EntityRegion.Uncached begun now a = BulkReply.Plain Reply.Done
answer_in (EntityRegion.ReadWrite x) begun now a = answer_by x begun now a

abbrev pub region_after : EntityRegion → ℕ → ℕ → Act → EntityRegion
region_after EntityRegion.Uncached begun now a = EntityRegion.Uncached
region_after (EntityRegion.ReadWrite x) begun now a = EntityRegion.ReadWrite (state_after x begun now a)

-- ---- and they stand for a journal

pub record IsOfEntity (script : Script) (n : ℕ) (x : BulkState) (h : Bulked) : Type 0 where
  pub strategy : strategy script n ≡ Strategy.ReadWrite
  pub capacity : x.inner.capacity ≡ capacity script n
  pub timeout : x.inner.timeout ≡ script.timeout
  pub stands : IsBulkRegion x n h

-- the region of entity n
abbrev pub IsPlaced : Script → ℕ → Bulked → EntityRegion → Type 0
IsPlaced script n h EntityRegion.Uncached = strategy script n ≡ Strategy.Uncached
IsPlaced script n h (EntityRegion.ReadWrite x) = IsOfEntity script n x h
