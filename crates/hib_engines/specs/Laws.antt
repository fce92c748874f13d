-- The laws of the regions, stamps and results below, joined.
use Rattle.std.specs.Prelude.{◌≡◌, ℕ, ◌<◌, List, [], ◌∷◌, length}
use Rattle.std.specs.List.{All}
use Rattle.hib_journal.specs.Types.{Strategy, Entry}
use Rattle.hib_journal.specs.Sessions.{Journal}
use Rattle.hib_journal.specs.Stamps.{check}
use Rattle.hib_journal.specs.Results.{result, dropped}
use Rattle.hib_update_stamps.specs.Stamped.{Stamped, unstamped, checked}
use Rattle.hib_update_stamps.specs.Standing.{IsStamps, stamps_after}
use Rattle.hib_query_cache.specs.Ranked.{Ranked, result_of, dropped_for}
use Rattle.hib_query_cache.specs.Standing.{IsResults, results_after, IsAnswered}
use Rattle.hib_other_regions.specs.Laws as Items
use Rattle.hib_rw_region.specs.Laws as Slots

pub record Laws : Type 0 where
  pub read_only_gets : Items.ReadOnlyGets
  pub nonstrict_gets : Items.NonstrictGets
  pub read_only_puts : Items.Puts Strategy.ReadOnly
  pub nonstrict_puts : Items.Puts Strategy.Nonstrict
  pub inserts : Items.Inserts Strategy.ReadOnly
  pub removes : Items.Removes
  pub read_only_evicts : Items.Evicts Strategy.ReadOnly
  pub nonstrict_evicts : Items.Evicts Strategy.Nonstrict
  pub get_grows : Items.GetGrows
  pub put_grows : Items.PutGrows
  pub insert_grows : Items.InsertGrows
  pub remove_grows : Items.RemoveGrows
  pub evict_grows : Items.EvictGrows
  pub stays : Items.Stays
  pub restarts : Items.Restarts
  pub begins : Items.Begins
  pub slot_gets : Slots.Gets
  pub slot_puts : Slots.Puts
  pub slot_locks : Slots.Locks
  pub slot_unlocks : Slots.Unlocks
  pub slot_updates : Slots.Updates
  pub slot_inserts : Slots.Inserts
  pub slot_evicts : Slots.Evicts
  pub slot_get_grows : Slots.GetGrows
  pub slot_put_grows : Slots.PutGrows
  pub slot_lock_grows : Slots.LockGrows
  pub slot_unlock_grows : Slots.UnlockGrows
  pub slot_update_grows : Slots.UpdateGrows
  pub slot_insert_grows : Slots.InsertGrows
  pub slot_evict_grows : Slots.EvictGrows
  pub slot_stays : Slots.Stays
  pub slot_restarts : Slots.Restarts
  pub slot_begins : Slots.Begins
  pub stamps_follow : (timeout : ℕ) (stamps : Stamped) (h : Journal) (e : Entry) → IsStamps timeout stamps h
      → IsStamps timeout (stamps_after timeout e.tick e.act stamps) (e ∷ h)
  pub stamps_begin : (timeout tables : ℕ) → IsStamps timeout (unstamped tables) []
  pub stamps_answer : (timeout : ℕ) (stamps : Stamped) (h : Journal) → IsStamps timeout stamps h → (time : ℕ) (tables : List ℕ) → All (λ t. t < length stamps) tables
      → checked time tables stamps ≡ check timeout time tables h
  pub results_follow : (queries : ℕ) (r : Ranked) (h : Journal) (e : Entry) → IsResults queries r h → IsAnswered queries r e.act e.reply
      → IsResults queries (results_after e.act e.reply r) (e ∷ h)
  pub results_begin : (queries capacity : ℕ) → 0 < capacity → IsResults queries (record { capacity = capacity; kept = [] }) []
  pub results_answer : (queries : ℕ) (r : Ranked) (h : Journal) → IsResults queries r h → (q : ℕ) → result_of q r.kept ≡ result r.capacity q h
  pub results_drop : (queries : ℕ) (r : Ranked) (h : Journal) → IsResults queries r h → (q : ℕ) → dropped_for q r ≡ dropped r.capacity queries q h
