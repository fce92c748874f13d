-- The reply to a well-formed act is well formed, if the entries before it are good.
use Rattle.std.specs.Prelude.{is_some}
use Rattle.std.specs.Option.{option_map_or}
use Rattle.std.proofs.Common.{◌≡◌, ℕ, ◌+◌, ◌<◌, ◌≤◌, ◌^◌, Bool, true, false, cond, ◌||◌, length, slice_get, Some, None, Option, refl, arith}
use Rattle.std.proofs.lemmas.Bool.{and_parts}
use Rattle.hib_base.specs.Tables.{Tables, after_changes}
use Rattle.hib_base.specs.Scripts.{is_declared, are_targets_in}
use Rattle.hib_base.proofs.Lists.{all_at}
use Rattle.hib_base.proofs.Valid.{Rules}
use Rattle.hib_journal.specs.Types.{Key, Row, Strategy, Query, Script, Act, Reply, Inserted}
use Rattle.hib_journal.specs.Sessions.{Journal, own, changes, committed, floor}
use Rattle.hib_journal.specs.Slot.{history, slot}
use Rattle.hib_journal.specs.Room.{item, oldest}
use Rattle.hib_journal.specs.Held.{held}
use Rattle.hib_journal.specs.Next.{strategy, capacity, tables_of, is_in}
use Rattle.hib_journal.specs.Legal.{row_of, set_unless, get_reply, put_reply, insert_reply, evict_reply, room_for, reply_of}
use Rattle.hib_journal.specs.Regions
use Rattle.hib_journal.specs.Query.{gives}
use Rattle.hib_entry_fields.specs.Known.{is_entity}
use Rattle.hib_entry_texts.specs.WellFormed.{is_act, is_reply, is_persisted, is_changed, is_removed, is_listed, is_got, is_stored, is_inserted, is_evicted}
use Rattle.hib_formed.proofs.Goods.{AllGood, AreChanges, early_tick, key_parts, own_good, changes_good, floor_le}
use Rattle.hib_formed.proofs.Rows.{AreRows, row_found, rows_changed, rows_committed, commit_good}
use Rattle.hib_formed.proofs.Held.{held_good, find_good}
use Rattle.hib_formed.proofs.Slots.{IsSlot, history_good, slot_good, item_good, room_good, oldest_good}
use Rattle.hib_formed.proofs.Regions.{IsItem, IsRoom, got_good, put_good, locked_good, unlock_good, update_good, insert_good, got_item_good, put_item_good, insert_item_good, remove_item_good}
use Rattle.hib_formed.proofs.Lists.{gives_good, check_good, query_tables, found_good, dropped_good}

persisted_good : (b : Bool) → is_persisted (cond b Reply.Known Reply.New) ≡ true
persisted_good true = refl
persisted_good false = refl

set_good : (b : Bool) (g : Strategy) → is_changed (cond b (set_unless g) Reply.Unknown) ≡ true
set_good false g = refl
set_good true Strategy.Uncached = refl
set_good true Strategy.ReadOnly = refl
set_good true Strategy.Nonstrict = refl
set_good true Strategy.ReadWrite = refl

removed_good : (b : Bool) → is_removed (cond b Reply.Removed Reply.Unknown) ≡ true
removed_good true = refl
removed_good false = refl

module _ (script : Script) (r : Rules script) (h : Journal) (g : AllGood script h) (few : length h ≤ 2 ^ 61) where
  low : script.timeout ≤ 1000000
  low = r.timeout

  small : length h < 2 ^ 64
  small = omega arith

  slot_of : (k : Key) → IsSlot (length h) (slot script.timeout k h)
  slot_of k = slot_good script k h low g

  item_of : (k : Key) → IsItem (item (history k h))
  item_of k = item_good (history k h) (history_good script k h g)

  room_of : (k : Key) (f : ℕ) → IsRoom (room_for script h k f)
  room_of k f = room_good script script.timeout (capacity script k.entity) k.entity f h g

  get_good : (x : Strategy) (k : Key) (t : ℕ) → is_got (get_reply x script h k t) ≡ true
  get_good Strategy.ReadWrite k t = got_good (length h) small (slot script.timeout k h) t (slot_of k)
  get_good Strategy.ReadOnly k t = got_item_good true t (item (history k h)) (item_of k)
  get_good Strategy.Nonstrict k t = got_item_good false t (item (history k h)) (item_of k)
  get_good Strategy.Uncached k t = got_item_good false t (item (history k h)) (item_of k)

  stored_item : (k : Key) → is_stored (Reply.Put (Regions.put_item (oldest (capacity script k.entity) k.entity h) (item (history k h)))) ≡ true
  stored_item k = put_item_good (oldest (capacity script k.entity) k.entity h) (item (history k h)) (oldest_good script (capacity script k.entity) k.entity h g) (item_of k)

  stored_good : (x : Strategy) (k : Key) (y : Row) (t f : ℕ) → is_stored (put_reply x script h k y t f) ≡ true
  stored_good Strategy.ReadWrite k y t f = put_good (length h) small (slot script.timeout k h) (room_for script h k f) t y.version (slot_of k) (room_of k f)
  stored_good Strategy.ReadOnly k y t f = stored_item k
  stored_good Strategy.Nonstrict k y t f = stored_item k
  stored_good Strategy.Uncached k y t f = stored_item k

  inserted_item : (k : Key) → is_inserted (Reply.Inserted (cond (is_some (item (history k h))) Inserted.Present (Inserted.Stored (oldest (capacity script k.entity) k.entity h)))) ≡ true
  inserted_item k = insert_item_good (oldest (capacity script k.entity) k.entity h) (item (history k h)) (oldest_good script (capacity script k.entity) k.entity h g)

  inserted_good : (x : Strategy) (k : Key) (f : ℕ) → is_inserted (insert_reply x script h k f) ≡ true
  inserted_good Strategy.ReadWrite k f = insert_good (slot script.timeout k h) (room_for script h k f) (room_of k f)
  inserted_good Strategy.ReadOnly k f = inserted_item k
  inserted_good Strategy.Nonstrict k f = inserted_item k
  inserted_good Strategy.Uncached k f = inserted_item k

  evicted_good : (x : Strategy) (k : Key) → is_evicted (evict_reply x script h k) ≡ true
  evicted_good Strategy.ReadWrite k = refl
  evicted_good Strategy.ReadOnly k = refl
  evicted_good Strategy.Nonstrict k = refl
  evicted_good Strategy.Uncached k = refl

  listed_good : (q : ℕ) (t : Tables) → AreRows script t → is_listed (option_map_or (λ d. Reply.Listed (gives d t)) (slice_get script.queries q) Reply.Fault) ≡ true
  listed_good q t w = by (slice_get script.queries q) refl
    where
      by : (o : Option Query) → slice_get script.queries q ≡ o → is_listed (option_map_or (λ d. Reply.Listed (gives d t)) o Reply.Fault) ≡ true
      by None e = refl
      by (Some d) e =
          let p : is_declared script d ≡ true = all_at (λ d. is_declared script d) script.queries q d r.declared e in
          gives_good script d t (and_parts (is_entity script d.entity) (are_targets_in (length script.mapping) d.condition) p).0 w

  module _ (start : Tables) (rows : AreRows script start) (s : ℕ) where
    written : AreChanges script (changes s h)
    written = changes_good script (own s h) (own_good script s h g)

    now_rows : AreRows script (committed start h)
    now_rows = rows_committed script start h rows g

    seen_rows : AreRows script (after_changes (changes s h) (committed start h))
    seen_rows = rows_changed script (changes s h) (committed start h) written now_rows

    -- the reply that is due
    pub reply_good : (now : ℕ) (a : Act) → now ≤ 2 ^ 61 → is_act script a ≡ true → is_reply script a (reply_of script start h s now a) ≡ true
    reply_good now Act.Begin e p = early_tick (floor h now) (omega (arith, floor_le h now))
    reply_good now Act.End e p = refl
    reply_good now (Act.Kill n) e p = refl
    reply_good now Act.Restart e p = refl
    reply_good now (Act.Find k) e p = find_good script (held (own s h) k) (held_good script (own s h) k (own_good script s h g) p)
    reply_good now (Act.Persist k y) e p = persisted_good (is_some (held (own s h) k) || is_in k (changes s h))
    reply_good now (Act.Set k xs) e p = set_good (is_some (row_of (held (own s h) k))) (strategy script k.entity)
    reply_good now (Act.Remove k) e p = removed_good (is_some (row_of (held (own s h) k)))
    reply_good now Act.Clear e p = refl
    reply_good now (Act.Load k) e p = row_found script (after_changes (changes s h) (committed start h)) k seen_rows.placed (key_parts script k p).0
    reply_good now (Act.List q) e p = listed_good q (after_changes (changes s h) (committed start h)) seen_rows
    reply_good now (Act.Write c) e p = refl
    reply_good now Act.Commit e p = commit_good script (changes s h) (committed start h) written now_rows.placed
    reply_good now Act.Rollback e p = refl
    reply_good now (Act.Pre ts) e p = let l : script.timeout ≤ 1000000 = low in early_tick (now + script.timeout) (omega arith)
    reply_good now (Act.Stamp ts) e p = early_tick now (omega arith)
    reply_good now (Act.Check q t) e p = check_good script script.timeout low t (tables_of script q) h (query_tables script q) g
    reply_good now (Act.Look q) e p = found_good script script.results q h g
    reply_good now (Act.Keep q t l) e p = dropped_good script script.results q h
    reply_good now (Act.Get k t) e p = get_good (strategy script k.entity) k t
    reply_good now (Act.Put k y t f) e p = stored_good (strategy script k.entity) k y t f
    reply_good now (Act.Lock k v f) e p = locked_good (length h) small script.timeout (slot script.timeout k h) (room_for script h k f) now low e (slot_of k) (room_of k f)
    reply_good now (Act.Unlock k i) e p = unlock_good (length h) small (slot script.timeout k h) i (slot_of k)
    reply_good now (Act.AfterInsert k y f) e p = inserted_good (strategy script k.entity) k f
    reply_good now (Act.AfterUpdate k i y) e p = update_good (length h) small (slot script.timeout k h) i (slot_of k)
    reply_good now (Act.RegionRemove k) e p = remove_item_good (item (history k h))
    reply_good now (Act.Evict k) e p = evicted_good (strategy script k.entity) k
