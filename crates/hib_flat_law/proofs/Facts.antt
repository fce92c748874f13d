-- What the parts of a well-formed entry are: known keys, rows that are well formed, small numbers.
use Rattle.std.proofs.Common.{◌≡◌, ℕ, ◌^◌, ◌<◌, List, Option, Some, None, refl, Bool, true, ◌&&◌, arith}
use Rattle.std.specs.Option.{option_or}
use Rattle.hib_base.specs.Fits.{is_identifier}
use Rattle.hib_journal.specs.Types.{Key, Cell, Row, Change, Act, Commit, Checked, Miss, Put, Unlocked, Inserted, Updated, Reply, Script}
use Rattle.hib_entry_fields.specs.Known.{is_key, is_query, is_tick, is_version, are_cells, is_row, are_sets}
use Rattle.hib_entry_fields.proofs.PieceLaws.{and_left, and_right}
use Rattle.hib_entry_fields.proofs.FieldLaws.{lt_from, tick_small, identifier_small}
use Rattle.hib_entry_texts.specs.WellFormed.{is_change, is_act, is_read, is_commit, is_check, is_dropped_query, is_count, is_miss, is_evicted_id, is_put, is_lock, is_unlock, is_insert, is_update, is_begun, is_ended, is_done, is_found, is_persisted, is_changed, is_removed, is_cleared, is_loaded, is_listed, is_written, is_committed, is_stamped, is_checked, is_looked, is_kept, is_got, is_stored, is_locked, is_unlocked, is_inserted, is_updated, is_dropped, is_evicted, is_reply}
use Rattle.hib_flat.specs.Parts as parts
use Rattle.hib_flat.specs.Members.{key_id}

abbrev pub SmallIf : Option ℕ → Type 0
SmallIf None = Unit {0}
SmallIf (Some n) = n < 2 ^ 64

abbrev pub KeyIf : Script → Option Key → Type 0
KeyIf script None = Unit {0}
KeyIf script (Some k) = is_key script k ≡ true

abbrev pub RowIf : Option Row → Type 0
RowIf None = Unit {0}
RowIf (Some r) = is_row r ≡ true

abbrev pub ListIf : Option (List Cell) → Type 0
ListIf None = Unit {0}
ListIf (Some l) = are_cells l ≡ true

small_or : (a b : Option ℕ) → SmallIf a → SmallIf b → SmallIf (option_or a b)
small_or None b h k = k
small_or (Some n) b h k = h

key_or : (script : Script) (a b : Option Key) → KeyIf script a → KeyIf script b → KeyIf script (option_or a b)
key_or script None b h k = k
key_or script (Some n) b h k = h

row_or : (a b : Option Row) → RowIf a → RowIf b → RowIf (option_or a b)
row_or None b h k = k
row_or (Some n) b h k = h

list_or : (a b : Option (List Cell)) → ListIf a → ListIf b → ListIf (option_or a b)
list_or None b h k = k
list_or (Some n) b h k = h

pub version_small : (v : Option ℕ) → is_version v ≡ true → SmallIf v
version_small None h = tt
version_small (Some v) h = let lt : v < 2 ^ 32 = lt_from v (2 ^ 32) h in omega (arith, lt)

pub count_small : (n : ℕ) → is_count n ≡ true → n < 2 ^ 64
count_small n h = lt_from n (2 ^ 64) h

pub evicted_small : (o : Option ℕ) → is_evicted_id o ≡ true → SmallIf o
evicted_small None h = tt
evicted_small (Some i) h = identifier_small i h

pub row_version_small : (o : Option Row) → RowIf o → SmallIf (parts.row_version o)
row_version_small None h = tt
row_version_small (Some r) h = version_small r.version (and_left (is_version r.version) (are_cells r.cells) h)

pub key_id_small : (script : Script) (o : Option Key) → KeyIf script o → SmallIf (key_id o)
key_id_small script None h = tt
key_id_small script (Some k) h = identifier_small k.id (and_right _ (is_identifier k.id) h)

-- ---- acts

change_known : (script : Script) (c : Change) → is_change script c ≡ true → KeyIf script (parts.act_key (Act.Write c))
change_known script (Change.Insert k r) w = and_left (is_key script k) (is_row r) w
change_known script (Change.Update k v r) w = and_left (is_key script k) (is_version v && is_row r) w
change_known script (Change.Delete k v) w = and_left (is_key script k) (is_version v) w

act_key_known : (script : Script) (a : Act) → is_act script a ≡ true → KeyIf script (parts.act_key a)
act_key_known script (Act.Find k) w = w
act_key_known script (Act.Persist k r) w = and_left (is_key script k) (is_row r) w
act_key_known script (Act.Set k xs) w = and_left (is_key script k) (are_sets script k.entity xs) w
act_key_known script (Act.Remove k) w = w
act_key_known script (Act.Load k) w = w
act_key_known script (Act.Write c) w = change_known script c w
act_key_known script (Act.Get k t) w = and_left (is_key script k) (is_tick t) w
act_key_known script (Act.Put k r t f) w = and_left (is_key script k) (is_row r && (is_tick t && is_tick f)) w
act_key_known script (Act.Lock k v f) w = and_left (is_key script k) (is_version v && is_tick f) w
act_key_known script (Act.Unlock k i) w = and_left (is_key script k) (is_tick i) w
act_key_known script (Act.AfterInsert k r f) w = and_left (is_key script k) (is_row r && is_tick f) w
act_key_known script (Act.AfterUpdate k i r) w = and_left (is_key script k) (is_tick i && is_row r) w
act_key_known script (Act.RegionRemove k) w = w
act_key_known script (Act.Evict k) w = w
act_key_known script _ w = tt

change_row : (script : Script) (c : Change) → is_change script c ≡ true → RowIf (parts.act_row (Act.Write c))
change_row script (Change.Insert k r) w = and_right (is_key script k) (is_row r) w
change_row script (Change.Update k v r) w = and_right (is_version v) (is_row r) (and_right (is_key script k) (is_version v && is_row r) w)
change_row script (Change.Delete k v) w = tt

act_row_fine : (script : Script) (a : Act) → is_act script a ≡ true → RowIf (parts.act_row a)
act_row_fine script (Act.Persist k r) w = and_right (is_key script k) (is_row r) w
act_row_fine script (Act.Write c) w = change_row script c w
act_row_fine script (Act.Put k r t f) w = and_left (is_row r) (is_tick t && is_tick f) (and_right (is_key script k) (is_row r && (is_tick t && is_tick f)) w)
act_row_fine script (Act.AfterInsert k r f) w = and_left (is_row r) (is_tick f) (and_right (is_key script k) (is_row r && is_tick f) w)
act_row_fine script (Act.AfterUpdate k i r) w = and_right (is_tick i) (is_row r) (and_right (is_key script k) (is_tick i && is_row r) w)
act_row_fine script _ w = tt

change_expected_small : (script : Script) (c : Change) → is_change script c ≡ true → SmallIf (parts.change_expected c)
change_expected_small script (Change.Insert k r) w = tt
change_expected_small script (Change.Update k v r) w = version_small v (and_left (is_version v) (is_row r) (and_right (is_key script k) (is_version v && is_row r) w))
change_expected_small script (Change.Delete k v) w = version_small v (and_right (is_key script k) (is_version v) w)

pub expected_small : (script : Script) (a : Act) → is_act script a ≡ true → SmallIf (parts.expected_in a)
expected_small script (Act.Write c) w = change_expected_small script c w
expected_small script _ w = tt

act_time_small : (script : Script) (a : Act) → is_act script a ≡ true → SmallIf (parts.act_time a)
act_time_small script (Act.Check q t) w = tick_small t (and_right (is_query script q) (is_tick t) w)
act_time_small script (Act.Keep q t l) w = tick_small t (and_left (is_tick t) (are_cells l) (and_right (is_query script q) (is_tick t && are_cells l) w))
act_time_small script (Act.Get k t) w = tick_small t (and_right (is_key script k) (is_tick t) w)
act_time_small script (Act.Put k r t f) w = tick_small t (and_left (is_tick t) (is_tick f) (and_right (is_row r) (is_tick t && is_tick f) (and_right (is_key script k) (is_row r && (is_tick t && is_tick f)) w)))
act_time_small script _ w = tt

act_floor_small : (script : Script) (a : Act) → is_act script a ≡ true → SmallIf (parts.act_floor a)
act_floor_small script (Act.Put k r t f) w = tick_small f (and_right (is_tick t) (is_tick f) (and_right (is_row r) (is_tick t && is_tick f) (and_right (is_key script k) (is_row r && (is_tick t && is_tick f)) w)))
act_floor_small script (Act.Lock k v f) w = tick_small f (and_right (is_version v) (is_tick f) (and_right (is_key script k) (is_version v && is_tick f) w))
act_floor_small script (Act.AfterInsert k r f) w = tick_small f (and_right (is_row r) (is_tick f) (and_right (is_key script k) (is_row r && is_tick f) w))
act_floor_small script _ w = tt

act_lock_small : (script : Script) (a : Act) → is_act script a ≡ true → SmallIf (parts.act_lock a)
act_lock_small script (Act.Unlock k i) w = tick_small i (and_right (is_key script k) (is_tick i) w)
act_lock_small script (Act.AfterUpdate k i r) w = tick_small i (and_left (is_tick i) (is_row r) (and_right (is_key script k) (is_tick i && is_row r) w))
act_lock_small script _ w = tt

act_list_fine : (script : Script) (a : Act) → is_act script a ≡ true → ListIf (parts.act_list a)
act_list_fine script (Act.Keep q t l) w = and_right (is_tick t) (are_cells l) (and_right (is_query script q) (is_tick t && are_cells l) w)
act_list_fine script _ w = tt

-- ---- replies by themselves

abbrev pub good : Script → Reply → Bool
good script (Reply.Began f) = is_tick f
good script (Reply.Row r) = is_read r
good script (Reply.Listed l) = are_cells l
good script (Reply.Commit c) = is_commit script c
good script (Reply.Stamped t) = is_tick t
good script (Reply.Check c) = is_check script c
good script (Reply.Found t l) = is_tick t && are_cells l
good script (Reply.Kept q) = is_dropped_query script q
good script (Reply.Hit r) = is_row r
good script (Reply.Miss m) = is_miss m
good script (Reply.Put p) = is_put p
good script (Reply.Locked l) = is_lock l
good script (Reply.Unlocked u) = is_unlock u
good script (Reply.Inserted i) = is_insert i
good script (Reply.Updated u) = is_update u
good script _ = true

begun_good : (script : Script) (r : Reply) → is_begun r ≡ true → good script r ≡ true
begun_good script (Reply.Began f) w = w
begun_good script _ w = absurd cc

ended_good : (script : Script) (r : Reply) → is_ended r ≡ true → good script r ≡ true
ended_good script (Reply.Ended o) w = refl
ended_good script _ w = absurd cc

done_good : (script : Script) (r : Reply) → is_done r ≡ true → good script r ≡ true
done_good script Reply.Done w = refl
done_good script _ w = absurd cc

found_good : (script : Script) (r : Reply) → is_found r ≡ true → good script r ≡ true
found_good script (Reply.Row r) w = w
found_good script _ w = absurd cc

persisted_good : (script : Script) (r : Reply) → is_persisted r ≡ true → good script r ≡ true
persisted_good script Reply.New w = refl
persisted_good script Reply.Known w = refl
persisted_good script _ w = absurd cc

changed_good : (script : Script) (r : Reply) → is_changed r ≡ true → good script r ≡ true
changed_good script Reply.Set w = refl
changed_good script Reply.Unknown w = refl
changed_good script Reply.ReadOnly w = refl
changed_good script _ w = absurd cc

removed_good : (script : Script) (r : Reply) → is_removed r ≡ true → good script r ≡ true
removed_good script Reply.Removed w = refl
removed_good script Reply.Unknown w = refl
removed_good script _ w = absurd cc

cleared_good : (script : Script) (r : Reply) → is_cleared r ≡ true → good script r ≡ true
cleared_good script Reply.Cleared w = refl
cleared_good script _ w = absurd cc

loaded_good : (script : Script) (r : Reply) → is_loaded r ≡ true → good script r ≡ true
loaded_good script (Reply.Row r) w = w
loaded_good script Reply.Fault w = refl
loaded_good script _ w = absurd cc

listed_good : (script : Script) (r : Reply) → is_listed r ≡ true → good script r ≡ true
listed_good script (Reply.Listed l) w = w
listed_good script Reply.Fault w = refl
listed_good script _ w = absurd cc

written_good : (script : Script) (r : Reply) → is_written r ≡ true → good script r ≡ true
written_good script Reply.Written w = refl
written_good script _ w = absurd cc

committed_good : (script : Script) (r : Reply) → is_committed script r ≡ true → good script r ≡ true
committed_good script (Reply.Commit c) w = w
committed_good script _ w = absurd cc

stamped_good : (script : Script) (r : Reply) → is_stamped r ≡ true → good script r ≡ true
stamped_good script (Reply.Stamped t) w = w
stamped_good script _ w = absurd cc

checked_good : (script : Script) (r : Reply) → is_checked script r ≡ true → good script r ≡ true
checked_good script (Reply.Check c) w = w
checked_good script _ w = absurd cc

looked_good : (script : Script) (r : Reply) → is_looked r ≡ true → good script r ≡ true
looked_good script (Reply.Found t l) w = w
looked_good script Reply.Absent w = refl
looked_good script _ w = absurd cc

kept_good : (script : Script) (r : Reply) → is_kept script r ≡ true → good script r ≡ true
kept_good script (Reply.Kept q) w = w
kept_good script _ w = absurd cc

got_good : (script : Script) (r : Reply) → is_got r ≡ true → good script r ≡ true
got_good script (Reply.Hit r) w = w
got_good script (Reply.Miss m) w = w
got_good script _ w = absurd cc

stored_good : (script : Script) (r : Reply) → is_stored r ≡ true → good script r ≡ true
stored_good script (Reply.Put p) w = w
stored_good script _ w = absurd cc

locked_good : (script : Script) (r : Reply) → is_locked r ≡ true → good script r ≡ true
locked_good script (Reply.Locked l) w = w
locked_good script _ w = absurd cc

unlocked_good : (script : Script) (r : Reply) → is_unlocked r ≡ true → good script r ≡ true
unlocked_good script (Reply.Unlocked u) w = w
unlocked_good script _ w = absurd cc

inserted_good : (script : Script) (r : Reply) → is_inserted r ≡ true → good script r ≡ true
inserted_good script (Reply.Inserted i) w = w
inserted_good script _ w = absurd cc

updated_good : (script : Script) (r : Reply) → is_updated r ≡ true → good script r ≡ true
updated_good script (Reply.Updated u) w = w
updated_good script _ w = absurd cc

dropped_good : (script : Script) (r : Reply) → is_dropped r ≡ true → good script r ≡ true
dropped_good script Reply.Dropped w = refl
dropped_good script Reply.Absent w = refl
dropped_good script _ w = absurd cc

evicted_good : (script : Script) (r : Reply) → is_evicted r ≡ true → good script r ≡ true
evicted_good script (Reply.Evicted e) w = refl
evicted_good script _ w = absurd cc

pub reply_good : (script : Script) (a : Act) (r : Reply) → is_reply script a r ≡ true → good script r ≡ true
reply_good script Act.Begin r w = begun_good script r w
reply_good script Act.End r w = ended_good script r w
reply_good script (Act.Kill s) r w = done_good script r w
reply_good script Act.Restart r w = done_good script r w
reply_good script (Act.Find k) r w = found_good script r w
reply_good script (Act.Persist k x) r w = persisted_good script r w
reply_good script (Act.Set k xs) r w = changed_good script r w
reply_good script (Act.Remove k) r w = removed_good script r w
reply_good script Act.Clear r w = cleared_good script r w
reply_good script (Act.Load k) r w = loaded_good script r w
reply_good script (Act.List q) r w = listed_good script r w
reply_good script (Act.Write c) r w = written_good script r w
reply_good script Act.Commit r w = committed_good script r w
reply_good script Act.Rollback r w = done_good script r w
reply_good script (Act.Pre ts) r w = stamped_good script r w
reply_good script (Act.Stamp ts) r w = stamped_good script r w
reply_good script (Act.Check q t) r w = checked_good script r w
reply_good script (Act.Look q) r w = looked_good script r w
reply_good script (Act.Keep q t l) r w = kept_good script r w
reply_good script (Act.Get k t) r w = got_good script r w
reply_good script (Act.Put k x t f) r w = stored_good script r w
reply_good script (Act.Lock k v f) r w = locked_good script r w
reply_good script (Act.Unlock k i) r w = unlocked_good script r w
reply_good script (Act.AfterInsert k x f) r w = inserted_good script r w
reply_good script (Act.AfterUpdate k i x) r w = updated_good script r w
reply_good script (Act.RegionRemove k) r w = dropped_good script r w
reply_good script (Act.Evict k) r w = evicted_good script r w

-- ---- what replies have

reply_key_known : (script : Script) (r : Reply) → good script r ≡ true → KeyIf script (parts.reply_key r)
reply_key_known script (Reply.Commit (Commit.Stale k v)) w = and_left (is_key script k) (is_version v) w
reply_key_known script (Reply.Commit (Commit.Duplicate k)) w = w
reply_key_known script _ w = tt

reply_row_fine : (script : Script) (r : Reply) → good script r ≡ true → RowIf (parts.reply_row r)
reply_row_fine script (Reply.Row None) w = tt
reply_row_fine script (Reply.Row (Some r)) w = w
reply_row_fine script (Reply.Hit r) w = w
reply_row_fine script _ w = tt

pub found_small : (script : Script) (r : Reply) → good script r ≡ true → SmallIf (parts.found_in r)
found_small script (Reply.Commit (Commit.Stale k v)) w = version_small v (and_right (is_key script k) (is_version v) w)
found_small script (Reply.Put (Put.Present v)) w = version_small v w
found_small script (Reply.Put (Put.Old v)) w = version_small (Some v) w
found_small script _ w = tt

reply_list_fine : (script : Script) (r : Reply) → good script r ≡ true → ListIf (parts.reply_list r)
reply_list_fine script (Reply.Listed l) w = w
reply_list_fine script (Reply.Found t l) w = and_right (is_tick t) (are_cells l) w
reply_list_fine script _ w = tt

reply_time_small : (script : Script) (r : Reply) → good script r ≡ true → SmallIf (parts.reply_time r)
reply_time_small script (Reply.Found t l) w = tick_small t (and_left (is_tick t) (are_cells l) w)
reply_time_small script _ w = tt

reply_floor_small : (script : Script) (r : Reply) → good script r ≡ true → SmallIf (parts.reply_floor r)
reply_floor_small script (Reply.Began f) w = tick_small f w
reply_floor_small script _ w = tt

reply_lock_small : (script : Script) (r : Reply) → good script r ≡ true → SmallIf (parts.reply_lock r)
reply_lock_small script (Reply.Locked l) w = tick_small l.id (and_left (is_tick l.id) (is_tick l.until && is_evicted_id l.evicted) w)
reply_lock_small script _ w = tt

pub until_small : (script : Script) (r : Reply) → good script r ≡ true → SmallIf (parts.until_in r)
until_small script (Reply.Locked l) w = tick_small l.until (and_left (is_tick l.until) (is_evicted_id l.evicted) (and_right (is_tick l.id) (is_tick l.until && is_evicted_id l.evicted) w))
until_small script _ w = tt

pub released_small : (script : Script) (r : Reply) → good script r ≡ true → SmallIf (parts.released_in r)
released_small script (Reply.Miss (Miss.Released t)) w = tick_small t w
released_small script (Reply.Put (Put.Early t)) w = tick_small t w
released_small script _ w = tt

pub stored_small : (script : Script) (r : Reply) → good script r ≡ true → SmallIf (parts.stored_in r)
stored_small script (Reply.Miss (Miss.Young t)) w = tick_small t w
stored_small script _ w = tt

pub stamp_small : (script : Script) (r : Reply) → good script r ≡ true → SmallIf (parts.stamp_in r)
stamp_small script (Reply.Stamped t) w = tick_small t w
stamp_small script (Reply.Check (Checked.Stale n t)) w = tick_small t (and_right _ (is_tick t) w)
stamp_small script _ w = tt

pub holders_small : (script : Script) (r : Reply) → good script r ≡ true → SmallIf (parts.holders_in r)
holders_small script (Reply.Miss (Miss.Locked n)) w = count_small n w
holders_small script (Reply.Put (Put.Held n)) w = count_small n w
holders_small script (Reply.Unlocked (Unlocked.Released n)) w = count_small n w
holders_small script (Reply.Updated (Updated.Shared n)) w = count_small n w
holders_small script _ w = tt

pub evicted_in_small : (script : Script) (r : Reply) → good script r ≡ true → SmallIf (parts.evicted_in r)
evicted_in_small script (Reply.Put (Put.Stored i late)) w = evicted_small i w
evicted_in_small script (Reply.Locked l) w = evicted_small l.evicted (and_right (is_tick l.until) (is_evicted_id l.evicted) (and_right (is_tick l.id) (is_tick l.until && is_evicted_id l.evicted) w))
evicted_in_small script (Reply.Inserted (Inserted.Stored i)) w = evicted_small i w
evicted_in_small script _ w = tt

-- ---- what both have

pub key_known : (script : Script) (a : Act) (r : Reply) → is_act script a ≡ true → good script r ≡ true → KeyIf script (parts.key_in a r)
key_known script a r w g = key_or script (parts.act_key a) (parts.reply_key r) (act_key_known script a w) (reply_key_known script r g)

pub row_fine : (script : Script) (a : Act) (r : Reply) → is_act script a ≡ true → good script r ≡ true → RowIf (parts.row_in a r)
row_fine script a r w g = row_or (parts.act_row a) (parts.reply_row r) (act_row_fine script a w) (reply_row_fine script r g)

pub version_in_small : (script : Script) (a : Act) (r : Reply) → is_act script a ≡ true → good script r ≡ true → SmallIf (parts.version_in a r)
version_in_small script (Act.Lock k v f) r w g = version_small v (and_left (is_version v) (is_tick f) (and_right (is_key script k) (is_version v && is_tick f) w))
version_in_small script a r w g = row_version_small (parts.row_in a r) (row_fine script a r w g)

pub list_fine : (script : Script) (a : Act) (r : Reply) → is_act script a ≡ true → good script r ≡ true → ListIf (parts.list_in a r)
list_fine script a r w g = list_or (parts.act_list a) (parts.reply_list r) (act_list_fine script a w) (reply_list_fine script r g)

pub time_small : (script : Script) (a : Act) (r : Reply) → is_act script a ≡ true → good script r ≡ true → SmallIf (parts.time_in a r)
time_small script a r w g = small_or (parts.act_time a) (parts.reply_time r) (act_time_small script a w) (reply_time_small script r g)

pub floor_small : (script : Script) (a : Act) (r : Reply) → is_act script a ≡ true → good script r ≡ true → SmallIf (parts.floor_in a r)
floor_small script a r w g = small_or (parts.act_floor a) (parts.reply_floor r) (act_floor_small script a w) (reply_floor_small script r g)

pub lock_small : (script : Script) (a : Act) (r : Reply) → is_act script a ≡ true → good script r ≡ true → SmallIf (parts.lock_in a r)
lock_small script a r w g = small_or (parts.act_lock a) (parts.reply_lock r) (act_lock_small script a w) (reply_lock_small script r g)
