-- Which acts are a script's, on which part they are, which replies answer them, and which entries are well formed.
use Rattle.std.specs.Prelude.{◌≡◌, ℕ, ◌^◌, Bool, true, false, ◌&&◌, nat_lt, List, Option, Some, None, All}
use Rattle.hib_base.specs.Fits.{is_identifier}
use Rattle.hib_journal.specs.Types.{Row, Change, Part, Act, Reply, Entry, Commit, Checked, Miss, Put, Locked, Unlocked, Inserted, Updated, Script}
use Rattle.hib_entry_fields.specs.Known.{is_key, is_entity, is_query, is_session, is_tick, is_version, are_cells, is_row, are_tables, are_sets}

-- ---- acts

abbrev pub is_change : Script → Change → Bool
is_change script (Change.Insert k r) = is_key script k && is_row r
is_change script (Change.Update k v r) = is_key script k && (is_version v && is_row r)
is_change script (Change.Delete k v) = is_key script k && is_version v

abbrev pub is_act : Script → Act → Bool
is_act script Act.Begin = true
is_act script Act.End = true
is_act script (Act.Kill s) = is_session script s
is_act script Act.Restart = true
is_act script (Act.Find k) = is_key script k
is_act script (Act.Persist k r) = is_key script k && is_row r
is_act script (Act.Set k xs) = is_key script k && are_sets script k.entity xs
is_act script (Act.Remove k) = is_key script k
is_act script Act.Clear = true
is_act script (Act.Load k) = is_key script k
is_act script (Act.List q) = is_query script q
is_act script (Act.Write c) = is_change script c
is_act script Act.Commit = true
is_act script Act.Rollback = true
is_act script (Act.Pre ts) = are_tables script ts
is_act script (Act.Stamp ts) = are_tables script ts
is_act script (Act.Check q t) = is_query script q && is_tick t
is_act script (Act.Look q) = is_query script q
is_act script (Act.Keep q t l) = is_query script q && (is_tick t && are_cells l)
is_act script (Act.Get k t) = is_key script k && is_tick t
is_act script (Act.Put k r t f) = is_key script k && (is_row r && (is_tick t && is_tick f))
is_act script (Act.Lock k v f) = is_key script k && (is_version v && is_tick f)
is_act script (Act.Unlock k i) = is_key script k && is_tick i
is_act script (Act.AfterInsert k r f) = is_key script k && (is_row r && is_tick f)
is_act script (Act.AfterUpdate k i r) = is_key script k && (is_tick i && is_row r)
is_act script (Act.RegionRemove k) = is_key script k
is_act script (Act.Evict k) = is_key script k

-- the part of the session that does it, if there is one
abbrev pub own_part : Option ℕ → Option Part
own_part None = None
own_part (Some s) = Some (Part.Own s)

-- the part that an act of a session is on; what is a session's own needs a session
abbrev pub part_of : Act → Option ℕ → Option Part
part_of Act.Begin s = Some Part.Registry
part_of Act.End s = Some Part.Registry
part_of (Act.Kill n) s = Some Part.Registry
part_of Act.Restart s = Some Part.Registry
part_of (Act.Find k) s = own_part s
part_of (Act.Persist k r) s = own_part s
part_of (Act.Set k xs) s = own_part s
part_of (Act.Remove k) s = own_part s
part_of Act.Clear s = own_part s
part_of (Act.Load k) s = Some Part.Store
part_of (Act.List q) s = Some Part.Store
part_of (Act.Write c) s = Some Part.Store
part_of Act.Commit s = Some Part.Store
part_of Act.Rollback s = Some Part.Store
part_of (Act.Pre ts) s = Some Part.Stamps
part_of (Act.Stamp ts) s = Some Part.Stamps
part_of (Act.Check q t) s = Some Part.Stamps
part_of (Act.Look q) s = Some Part.Results
part_of (Act.Keep q t l) s = Some Part.Results
part_of (Act.Get k t) s = Some (Part.Region k.entity)
part_of (Act.Put k r t f) s = Some (Part.Region k.entity)
part_of (Act.Lock k v f) s = Some (Part.Region k.entity)
part_of (Act.Unlock k i) s = Some (Part.Region k.entity)
part_of (Act.AfterInsert k r f) s = Some (Part.Region k.entity)
part_of (Act.AfterUpdate k i r) s = Some (Part.Region k.entity)
part_of (Act.RegionRemove k) s = Some (Part.Region k.entity)
part_of (Act.Evict k) s = Some (Part.Region k.entity)

-- ---- what replies hold

abbrev pub is_read : Option Row → Bool
is_read None = true
is_read (Some r) = is_row r

abbrev pub is_commit : Script → Commit → Bool
is_commit script Commit.Committed = true
is_commit script (Commit.Stale k v) = is_key script k && is_version v
is_commit script (Commit.Duplicate k) = is_key script k
is_commit script Commit.Fault = true

abbrev pub is_check : Script → Checked → Bool
is_check script Checked.Fresh = true
is_check script (Checked.Stale n t) = is_entity script n && is_tick t

abbrev pub is_dropped_query : Script → Option ℕ → Bool
is_dropped_query script None = true
is_dropped_query script (Some q) = is_query script q

-- a number of holders has 64 bits
abbrev pub is_count : ℕ → Bool
is_count n = nat_lt n (2 ^ 64)

abbrev pub is_miss : Miss → Bool
is_miss Miss.Absent = true
is_miss (Miss.Locked n) = is_count n
is_miss (Miss.Released t) = is_tick t
is_miss (Miss.Young t) = is_tick t

abbrev pub is_evicted_id : Option ℕ → Bool
is_evicted_id None = true
is_evicted_id (Some i) = is_identifier i

abbrev pub is_put : Put → Bool
is_put (Put.Stored i late) = is_evicted_id i
is_put (Put.Present v) = is_version v
is_put (Put.Held n) = is_count n
is_put (Put.Early t) = is_tick t
is_put (Put.Old v) = is_version (Some v)
is_put Put.Crowded = true

abbrev pub is_lock : Locked → Bool
is_lock l = is_tick l.id && (is_tick l.until && is_evicted_id l.evicted)

abbrev pub is_unlock : Unlocked → Bool
is_unlock (Unlocked.Released n) = is_count n
is_unlock Unlocked.Expired = true

abbrev pub is_insert : Inserted → Bool
is_insert (Inserted.Stored i) = is_evicted_id i
is_insert Inserted.Present = true
is_insert Inserted.Crowded = true

abbrev pub is_update : Updated → Bool
is_update Updated.Stored = true
is_update (Updated.Shared n) = is_count n
is_update Updated.Expired = true

-- ---- replies, by the act that they answer

abbrev pub is_begun : Reply → Bool
is_begun (Reply.Began f) = is_tick f
is_begun _ = false

abbrev pub is_ended : Reply → Bool
is_ended (Reply.Ended o) = true
is_ended _ = false

abbrev pub is_done : Reply → Bool
is_done Reply.Done = true
is_done _ = false

abbrev pub is_found : Reply → Bool
is_found (Reply.Row r) = is_read r
is_found _ = false

abbrev pub is_persisted : Reply → Bool
is_persisted Reply.New = true
is_persisted Reply.Known = true
is_persisted _ = false

abbrev pub is_changed : Reply → Bool
is_changed Reply.Set = true
is_changed Reply.Unknown = true
is_changed Reply.ReadOnly = true
is_changed _ = false

abbrev pub is_removed : Reply → Bool
is_removed Reply.Removed = true
is_removed Reply.Unknown = true
is_removed _ = false

abbrev pub is_cleared : Reply → Bool
is_cleared Reply.Cleared = true
is_cleared _ = false

abbrev pub is_loaded : Reply → Bool
is_loaded (Reply.Row r) = is_read r
is_loaded Reply.Fault = true
is_loaded _ = false

abbrev pub is_listed : Reply → Bool
is_listed (Reply.Listed l) = are_cells l
is_listed Reply.Fault = true
is_listed _ = false

abbrev pub is_written : Reply → Bool
is_written Reply.Written = true
is_written _ = false

abbrev pub is_committed : Script → Reply → Bool
is_committed script (Reply.Commit c) = is_commit script c
is_committed script _ = false

abbrev pub is_stamped : Reply → Bool
is_stamped (Reply.Stamped t) = is_tick t
is_stamped _ = false

abbrev pub is_checked : Script → Reply → Bool
is_checked script (Reply.Check c) = is_check script c
is_checked script _ = false

abbrev pub is_looked : Reply → Bool
is_looked (Reply.Found t l) = is_tick t && are_cells l
is_looked Reply.Absent = true
is_looked _ = false

abbrev pub is_kept : Script → Reply → Bool
is_kept script (Reply.Kept q) = is_dropped_query script q
is_kept script _ = false

abbrev pub is_got : Reply → Bool
is_got (Reply.Hit r) = is_row r
is_got (Reply.Miss m) = is_miss m
is_got _ = false

abbrev pub is_stored : Reply → Bool
is_stored (Reply.Put p) = is_put p
is_stored _ = false

abbrev pub is_locked : Reply → Bool
is_locked (Reply.Locked l) = is_lock l
is_locked _ = false

abbrev pub is_unlocked : Reply → Bool
is_unlocked (Reply.Unlocked u) = is_unlock u
is_unlocked _ = false

abbrev pub is_inserted : Reply → Bool
is_inserted (Reply.Inserted i) = is_insert i
is_inserted _ = false

abbrev pub is_updated : Reply → Bool
is_updated (Reply.Updated u) = is_update u
is_updated _ = false

abbrev pub is_dropped : Reply → Bool
is_dropped Reply.Dropped = true
is_dropped Reply.Absent = true
is_dropped _ = false

abbrev pub is_evicted : Reply → Bool
is_evicted (Reply.Evicted e) = true
is_evicted _ = false

abbrev pub is_reply : Script → Act → Reply → Bool
is_reply script Act.Begin = is_begun
is_reply script Act.End = is_ended
is_reply script (Act.Kill s) = is_done
is_reply script Act.Restart = is_done
is_reply script (Act.Find k) = is_found
is_reply script (Act.Persist k r) = is_persisted
is_reply script (Act.Set k xs) = is_changed
is_reply script (Act.Remove k) = is_removed
is_reply script Act.Clear = is_cleared
is_reply script (Act.Load k) = is_loaded
is_reply script (Act.List q) = is_listed
is_reply script (Act.Write c) = is_written
is_reply script Act.Commit = is_committed script
is_reply script Act.Rollback = is_done
is_reply script (Act.Pre ts) = is_stamped
is_reply script (Act.Stamp ts) = is_stamped
is_reply script (Act.Check q t) = is_checked script
is_reply script (Act.Look q) = is_looked
is_reply script (Act.Keep q t l) = is_kept script
is_reply script (Act.Get k t) = is_got
is_reply script (Act.Put k r t f) = is_stored
is_reply script (Act.Lock k v f) = is_locked
is_reply script (Act.Unlock k i) = is_unlocked
is_reply script (Act.AfterInsert k r f) = is_inserted
is_reply script (Act.AfterUpdate k i r) = is_updated
is_reply script (Act.RegionRemove k) = is_dropped
is_reply script (Act.Evict k) = is_evicted

-- ---- entries

-- a session of the script, or none
abbrev pub is_actor : Script → Option ℕ → Bool
is_actor script None = true
is_actor script (Some s) = is_session script s

-- the act, the reply to it, the session and the tick are the script's
abbrev pub is_known : Script → Entry → Bool
is_known script e = is_act script e.act && (is_reply script e.act e.reply && (is_actor script e.session && is_tick e.tick))

-- a well-formed entry; its part is that of its act
pub record IsEntry (script : Script) (e : Entry) : Type 0 where
  pub known : is_known script e ≡ true
  pub part : part_of e.act e.session ≡ Some e.part

abbrev pub AreEntries : Script → List Entry → Type 0
AreEntries script es = All (IsEntry script) es
