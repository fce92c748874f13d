-- What each call answers, and what it leaves of the region.
use Rattle.std.specs.Prelude.{ℕ, ◌+◌, ◌-◌, if◌then◌else◌, nat_le, Option}
use Rattle.hib_journal.specs.Types.{Row, Updated}
use Rattle.hib_journal.specs.Slot.{is_positive}
use Rattle.hib_journal.specs.Regions as Regions
use Rattle.hib_rw_region.specs.Region.{slot_in, room_in}
use Rattle.hib_rw_region.specs.Steps as Inner
use Rattle.hib_bulk_region.specs.Types.{BulkReply}
use Rattle.hib_bulk_law.specs.Legal.{given_back}
use Rattle.hib_bulk_region.specs.declared.answers.BulkPut.{BulkPut}
use Rattle.hib_bulk_region.specs.declared.answers.BulkInserted.{BulkInserted}
use Rattle.hib_bulk_region.specs.Region.{BulkState, shuts}

abbrev pub unheld : ℕ → ℕ → BulkState
unheld capacity timeout = record { holders = 0; unlock = 0; inner = Inner.empty capacity timeout }

abbrev pub locked_all : BulkState → BulkState
locked_all state = record state { holders = state.holders + 1 }

abbrev pub unlocked_all : ℕ → BulkState → BulkState
unlocked_all now state = record state { holders = state.holders - 1; unlock = now }

abbrev pub swept : ℕ → ℕ → BulkState → BulkState
swept id now state = record state { inner = Inner.after_evict id now state.inner }

-- while lines hold the region nothing is read
abbrev pub got : BulkState → ℕ → ℕ → BulkReply
got state id time =
    if is_positive state.holders then BulkReply.Wide state.holders else BulkReply.Plain (Regions.got (slot_in state.inner id) time)

-- and a row that is shut out is not taken

abbrev pub put : BulkState → ℕ → Option ℕ → ℕ → ℕ → BulkPut
put state id version time floor =
    if is_positive state.holders then BulkPut.Wide state.holders
    else (if nat_le time state.unlock then BulkPut.WideEarly state.unlock
    else BulkPut.Plain (Regions.put (slot_in state.inner id) (room_in state.inner floor) time version))

abbrev pub after_put : ℕ → Row → ℕ → ℕ → ℕ → BulkState → BulkState
after_put id row time floor now state =
    if shuts state time then state else record state { inner = Inner.after_put id row time floor now state.inner }

abbrev pub inserted : BulkState → ℕ → ℕ → ℕ → BulkInserted
inserted state id time floor =
    if is_positive state.holders then BulkInserted.Wide state.holders
    else (if nat_le time state.unlock then BulkInserted.WideEarly state.unlock
    else BulkInserted.Plain (Regions.after_insert (slot_in state.inner id) (room_in state.inner floor)))

abbrev pub after_insert : ℕ → Row → ℕ → ℕ → ℕ → BulkState → BulkState
after_insert id row time floor now state =
    if shuts state time then state else record state { inner = Inner.after_insert id row floor now state.inner }

-- a lock that is shut out is given back without its row

abbrev pub updated : BulkState → ℕ → ℕ → Updated
updated state id lock =
    if shuts state lock then given_back (Regions.unlock (slot_in state.inner id) lock) else Regions.after_update (slot_in state.inner id) lock

abbrev pub after_update : ℕ → ℕ → Row → ℕ → BulkState → BulkState
after_update id lock row now state = record state {
  inner = if shuts state lock then Inner.after_unlock id lock now state.inner else Inner.after_update id lock row now state.inner;
}

abbrev pub after_lock : ℕ → Option ℕ → ℕ → ℕ → BulkState → BulkState
after_lock id version floor now state = record state { inner = Inner.after_lock id version floor now state.inner }

abbrev pub after_unlock : ℕ → ℕ → ℕ → BulkState → BulkState
after_unlock id lock now state = record state { inner = Inner.after_unlock id lock now state.inner }
