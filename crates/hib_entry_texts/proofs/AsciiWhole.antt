-- The texts of well-formed acts and replies are ASCII.
use Rattle.std.proofs.Common.{◌≡◌, ℕ, List, ◌++◌, Option, Some, None, refl, Bool, true, false, ◌&&◌, codes, length}
use Rattle.std.specs.Fmt.{decimal}
use Rattle.hib_journal.specs.Types.{Key, Row, Change, Part, Act, Reply, Commit, Checked, Miss, Put, Locked, Unlocked, Inserted, Updated, Evicted, Outcome, Script}
use Rattle.hib_report.specs.Lines.{act_text, part_text, reply_text, outcome_text, found_text, commit_text, checked_text, reason_text, evicted_id_text, late_text, put_reply_text, locked_text, unlocked_text, inserted_text, updated_text, evicted_text, read_text, dropped_text}
use Rattle.hib_texts.specs.Texts.{key_text, entity_text, query_text, session_text, version_text, row_text, list_text, names_text, sets_text}
use Rattle.hib_entry_fields.specs.Known.{is_key, is_entity, is_query, is_session, is_tick, is_version, are_cells, is_row, are_sets}
use Rattle.hib_entry_fields.proofs.PieceLaws.{is_ascii, and_left, and_right}
use Rattle.hib_entry_fields.proofs.NameLaws.{IsNamed, known_entity, known_query, known_session}
use Rattle.hib_entry_fields.proofs.FieldLaws.{lt_from, tick_small, identifier_small, known_key}
use Rattle.hib_entry_fields.proofs.AsciiLaws.{join2, join3, join4, decimal_ascii, version_ascii, key_ascii, row_ascii, list_ascii, tables_ascii, sets_ascii}
use Rattle.hib_entry_texts.specs.WellFormed.{is_change, is_act, is_read, is_commit, is_check, is_dropped_query, is_count, is_miss, is_evicted_id, is_put, is_lock, is_unlock, is_insert, is_update, is_begun, is_ended, is_done, is_found, is_persisted, is_changed, is_removed, is_cleared, is_loaded, is_listed, is_written, is_committed, is_stamped, is_checked, is_looked, is_kept, is_got, is_stored, is_locked, is_unlocked, is_inserted, is_updated, is_dropped, is_evicted, is_reply}
use Rattle.hib_entry_texts.proofs.AnswerLaws.{count_small}

join6 : (a b c d e f : List ℕ) → is_ascii a ≡ true → is_ascii b ≡ true → is_ascii c ≡ true → is_ascii d ≡ true → is_ascii e ≡ true → is_ascii f ≡ true → is_ascii (a ++ b ++ c ++ d ++ e ++ f) ≡ true
join6 a b c d e f h1 h2 h3 h4 h5 h6 = join3 (a ++ b ++ c ++ d) e f (join4 a b c d h1 h2 h3 h4) h5 h6

-- ---- fields

key : (script : Script) (k : Key) → IsNamed script → is_key script k ≡ true → is_ascii (key_text script k) ≡ true
key script k h w = key_ascii script k (known_key script k h w)

tick : (t : ℕ) → is_tick t ≡ true → is_ascii (decimal t) ≡ true
tick t w = decimal_ascii t (tick_small t w)

query : (script : Script) (q : ℕ) → IsNamed script → is_query script q ≡ true → is_ascii (query_text script q) ≡ true
query script q h w = (known_query script q h (lt_from q (length script.queries) w)).ascii

pub session_ascii : (script : Script) (s : ℕ) → IsNamed script → is_session script s ≡ true → is_ascii (session_text script s) ≡ true
session_ascii script s h w = (known_session script s h (lt_from s (length script.sessions) w)).ascii

pub part_ascii : (p : Part) → is_ascii (part_text p) ≡ true
part_ascii Part.Registry = refl
part_ascii Part.Store = refl
part_ascii Part.Stamps = refl
part_ascii Part.Results = refl
part_ascii (Part.Region n) = refl
part_ascii (Part.Own s) = refl

-- ---- acts

change_ascii : (script : Script) (c : Change) → IsNamed script → is_change script c ≡ true → is_ascii (act_text script (Act.Write c)) ≡ true
change_ascii script (Change.Insert k r) h w = join4 (codes "insert ") (key_text script k) (codes " ") (row_text r) refl (key script k h (and_left (is_key script k) (is_row r) w)) refl (row_ascii r (and_right (is_key script k) (is_row r) w))
change_ascii script (Change.Update k v r) h w =
    let more = and_right (is_key script k) (is_version v && is_row r) w in
    join6 (codes "update ") (key_text script k) (codes " ") (version_text v) (codes " ") (row_text r) refl (key script k h (and_left (is_key script k) (is_version v && is_row r) w)) refl (version_ascii v (and_left (is_version v) (is_row r) more)) refl (row_ascii r (and_right (is_version v) (is_row r) more))
change_ascii script (Change.Delete k v) h w = join4 (codes "delete ") (key_text script k) (codes " ") (version_text v) refl (key script k h (and_left (is_key script k) (is_version v) w)) refl (version_ascii v (and_right (is_key script k) (is_version v) w))

pub act_ascii : (script : Script) (act : Act) → IsNamed script → is_act script act ≡ true → is_ascii (act_text script act) ≡ true
act_ascii script Act.Begin h w = refl
act_ascii script Act.End h w = refl
act_ascii script (Act.Kill s) h w = join2 (codes "kill ") (session_text script s) refl (session_ascii script s h w)
act_ascii script Act.Restart h w = refl
act_ascii script (Act.Find k) h w = join2 (codes "find ") (key_text script k) refl (key script k h w)
act_ascii script (Act.Persist k r) h w = join4 (codes "persist ") (key_text script k) (codes " ") (row_text r) refl (key script k h (and_left (is_key script k) (is_row r) w)) refl (row_ascii r (and_right (is_key script k) (is_row r) w))
act_ascii script (Act.Set k xs) h w = join3 (codes "set ") (key_text script k) (sets_text script k.entity xs) refl (key script k h (and_left (is_key script k) (are_sets script k.entity xs) w)) (sets_ascii script k.entity xs h (and_right (is_key script k) (are_sets script k.entity xs) w))
act_ascii script (Act.Remove k) h w = join2 (codes "remove ") (key_text script k) refl (key script k h w)
act_ascii script Act.Clear h w = refl
act_ascii script (Act.Load k) h w = join2 (codes "load ") (key_text script k) refl (key script k h w)
act_ascii script (Act.List q) h w = join2 (codes "list ") (query_text script q) refl (query script q h w)
act_ascii script (Act.Write c) h w = change_ascii script c h w
act_ascii script Act.Commit h w = refl
act_ascii script Act.Rollback h w = refl
act_ascii script (Act.Pre ts) h w = join2 (codes "pre") (names_text script ts) refl (tables_ascii script ts h w)
act_ascii script (Act.Stamp ts) h w = join2 (codes "stamp") (names_text script ts) refl (tables_ascii script ts h w)
act_ascii script (Act.Check q t) h w = join4 (codes "check ") (query_text script q) (codes " at ") (decimal t) refl (query script q h (and_left (is_query script q) (is_tick t) w)) refl (tick t (and_right (is_query script q) (is_tick t) w))
act_ascii script (Act.Look q) h w = join2 (codes "look ") (query_text script q) refl (query script q h w)
act_ascii script (Act.Keep q t l) h w =
    let more = and_right (is_query script q) (is_tick t && are_cells l) w in
    join6 (codes "keep ") (query_text script q) (codes " at ") (decimal t) (codes " ") (list_text l) refl (query script q h (and_left (is_query script q) (is_tick t && are_cells l) w)) refl (tick t (and_left (is_tick t) (are_cells l) more)) refl (list_ascii l (and_right (is_tick t) (are_cells l) more))
act_ascii script (Act.Get k t) h w = join4 (codes "get ") (key_text script k) (codes " at ") (decimal t) refl (key script k h (and_left (is_key script k) (is_tick t) w)) refl (tick t (and_right (is_key script k) (is_tick t) w))
act_ascii script (Act.Put k r t f) h w =
    let more = and_right (is_key script k) (is_row r && (is_tick t && is_tick f)) w in
    let ticks = and_right (is_row r) (is_tick t && is_tick f) more in
    join3 (codes "put " ++ key_text script k ++ codes " " ++ row_text r ++ codes " at " ++ decimal t) (codes " floor ") (decimal f)
    (join6 (codes "put ") (key_text script k) (codes " ") (row_text r) (codes " at ") (decimal t) refl (key script k h (and_left (is_key script k) (is_row r && (is_tick t && is_tick f)) w)) refl (row_ascii r (and_left (is_row r) (is_tick t && is_tick f) more)) refl (tick t (and_left (is_tick t) (is_tick f) ticks)))
    refl (tick f (and_right (is_tick t) (is_tick f) ticks))
act_ascii script (Act.Lock k v f) h w =
    let more = and_right (is_key script k) (is_version v && is_tick f) w in
    join6 (codes "lock ") (key_text script k) (codes " ") (version_text v) (codes " floor ") (decimal f) refl (key script k h (and_left (is_key script k) (is_version v && is_tick f) w)) refl (version_ascii v (and_left (is_version v) (is_tick f) more)) refl (tick f (and_right (is_version v) (is_tick f) more))
act_ascii script (Act.Unlock k i) h w = join4 (codes "unlock ") (key_text script k) (codes " lock ") (decimal i) refl (key script k h (and_left (is_key script k) (is_tick i) w)) refl (tick i (and_right (is_key script k) (is_tick i) w))
act_ascii script (Act.AfterInsert k r f) h w =
    let more = and_right (is_key script k) (is_row r && is_tick f) w in
    join6 (codes "after-insert ") (key_text script k) (codes " ") (row_text r) (codes " floor ") (decimal f) refl (key script k h (and_left (is_key script k) (is_row r && is_tick f) w)) refl (row_ascii r (and_left (is_row r) (is_tick f) more)) refl (tick f (and_right (is_row r) (is_tick f) more))
act_ascii script (Act.AfterUpdate k i r) h w =
    let more = and_right (is_key script k) (is_tick i && is_row r) w in
    join6 (codes "after-update ") (key_text script k) (codes " lock ") (decimal i) (codes " ") (row_text r) refl (key script k h (and_left (is_key script k) (is_tick i && is_row r) w)) refl (tick i (and_left (is_tick i) (is_row r) more)) refl (row_ascii r (and_right (is_tick i) (is_row r) more))
act_ascii script (Act.RegionRemove k) h w = join2 (codes "remove ") (key_text script k) refl (key script k h w)
act_ascii script (Act.Evict k) h w = join2 (codes "evict ") (key_text script k) refl (key script k h w)

-- ---- what replies hold

outcome_ascii : (o : Outcome) → is_ascii (outcome_text o) ≡ true
outcome_ascii Outcome.Committed = refl
outcome_ascii Outcome.RolledBack = refl
outcome_ascii Outcome.Stale = refl
outcome_ascii Outcome.Duplicate = refl
outcome_ascii Outcome.Fault = refl

read_ascii : (r : Option Row) → is_read r ≡ true → is_ascii (read_text r) ≡ true
read_ascii None w = refl
read_ascii (Some r) w = join2 (codes "row ") (row_text r) refl (row_ascii r w)

found_ascii : (v : Option ℕ) → is_version v ≡ true → is_ascii (found_text v) ≡ true
found_ascii None w = refl
found_ascii (Some v) w = version_ascii (Some v) w

commit_ascii : (script : Script) (c : Commit) → IsNamed script → is_commit script c ≡ true → is_ascii (commit_text script c) ≡ true
commit_ascii script Commit.Committed h w = refl
commit_ascii script (Commit.Stale k v) h w = join4 (codes "stale ") (key_text script k) (codes " found ") (found_text v) refl (key script k h (and_left (is_key script k) (is_version v) w)) refl (found_ascii v (and_right (is_key script k) (is_version v) w))
commit_ascii script (Commit.Duplicate k) h w = join2 (codes "duplicate ") (key_text script k) refl (key script k h w)
commit_ascii script Commit.Fault h w = refl

checked_ascii : (script : Script) (c : Checked) → IsNamed script → is_check script c ≡ true → is_ascii (checked_text script c) ≡ true
checked_ascii script Checked.Fresh h w = refl
checked_ascii script (Checked.Stale n t) h w =
    join4 (codes "stale ") (entity_text script n) (codes " ") (decimal t) refl (known_entity script n h (lt_from n (length script.mapping) (and_left (is_entity script n) (is_tick t) w))).ascii refl (tick t (and_right (is_entity script n) (is_tick t) w))

dropped_ascii : (script : Script) (q : Option ℕ) → IsNamed script → is_dropped_query script q ≡ true → is_ascii (dropped_text script q) ≡ true
dropped_ascii script None h w = refl
dropped_ascii script (Some q) h w = join2 (codes " dropped ") (query_text script q) refl (query script q h w)

count : (n : ℕ) → is_count n ≡ true → is_ascii (decimal n) ≡ true
count n w = decimal_ascii n (count_small n w)

miss_ascii : (m : Miss) → is_miss m ≡ true → is_ascii (reason_text m) ≡ true
miss_ascii Miss.Absent w = refl
miss_ascii (Miss.Locked n) w = join2 (codes "locked ") (decimal n) refl (count n w)
miss_ascii (Miss.Released t) w = join2 (codes "released ") (decimal t) refl (tick t w)
miss_ascii (Miss.Young t) w = join2 (codes "young ") (decimal t) refl (tick t w)

evicted_id_ascii : (i : Option ℕ) → is_evicted_id i ≡ true → is_ascii (evicted_id_text i) ≡ true
evicted_id_ascii None w = refl
evicted_id_ascii (Some i) w = join2 (codes " evicted ") (decimal i) refl (decimal_ascii i (identifier_small i w))

late_ascii : (late : Bool) → is_ascii (late_text late) ≡ true
late_ascii true = refl
late_ascii false = refl

put_ascii : (p : Put) → is_put p ≡ true → is_ascii (put_reply_text p) ≡ true
put_ascii (Put.Stored i late) w = join3 (codes "stored") (evicted_id_text i) (late_text late) refl (evicted_id_ascii i w) (late_ascii late)
put_ascii (Put.Present v) w = join2 (codes "present ") (version_text v) refl (version_ascii v w)
put_ascii (Put.Held n) w = join2 (codes "held ") (decimal n) refl (count n w)
put_ascii (Put.Early t) w = join2 (codes "early ") (decimal t) refl (tick t w)
put_ascii (Put.Old v) w = join2 (codes "old ") (version_text (Some v)) refl (version_ascii (Some v) w)
put_ascii Put.Crowded w = refl

locked_ascii : (l : Locked) → is_lock l ≡ true → is_ascii (locked_text l) ≡ true
locked_ascii l w =
    let more = and_right (is_tick l.id) (is_tick l.until && is_evicted_id l.evicted) w in
    join2 (codes "lock " ++ decimal l.id ++ codes " until " ++ decimal l.until) (evicted_id_text l.evicted)
    (join4 (codes "lock ") (decimal l.id) (codes " until ") (decimal l.until) refl (tick l.id (and_left (is_tick l.id) (is_tick l.until && is_evicted_id l.evicted) w)) refl (tick l.until (and_left (is_tick l.until) (is_evicted_id l.evicted) more)))
    (evicted_id_ascii l.evicted (and_right (is_tick l.until) (is_evicted_id l.evicted) more))

unlocked_ascii : (u : Unlocked) → is_unlock u ≡ true → is_ascii (unlocked_text u) ≡ true
unlocked_ascii (Unlocked.Released n) w = join2 (codes "released ") (decimal n) refl (count n w)
unlocked_ascii Unlocked.Expired w = refl

inserted_ascii : (i : Inserted) → is_insert i ≡ true → is_ascii (inserted_text i) ≡ true
inserted_ascii (Inserted.Stored i) w = join2 (codes "stored") (evicted_id_text i) refl (evicted_id_ascii i w)
inserted_ascii Inserted.Present w = refl
inserted_ascii Inserted.Crowded w = refl

updated_ascii : (u : Updated) → is_update u ≡ true → is_ascii (updated_text u) ≡ true
updated_ascii Updated.Stored w = refl
updated_ascii (Updated.Shared n) w = join2 (codes "shared ") (decimal n) refl (count n w)
updated_ascii Updated.Expired w = refl

gone_ascii : (e : Evicted) → is_ascii (evicted_text e) ≡ true
gone_ascii Evicted.Gone = refl
gone_ascii Evicted.Held = refl
gone_ascii Evicted.Absent = refl

-- ---- replies, by what they are

-- whatever act a reply answers, what it holds is well formed
abbrev pub is_sound : Script → Reply → Bool
is_sound script (Reply.Began f) = is_tick f
is_sound script (Reply.Row r) = is_read r
is_sound script (Reply.Listed l) = are_cells l
is_sound script (Reply.Commit c) = is_commit script c
is_sound script (Reply.Stamped t) = is_tick t
is_sound script (Reply.Check c) = is_check script c
is_sound script (Reply.Found t l) = is_tick t && are_cells l
is_sound script (Reply.Kept q) = is_dropped_query script q
is_sound script (Reply.Hit r) = is_row r
is_sound script (Reply.Miss m) = is_miss m
is_sound script (Reply.Put p) = is_put p
is_sound script (Reply.Locked l) = is_lock l
is_sound script (Reply.Unlocked u) = is_unlock u
is_sound script (Reply.Inserted i) = is_insert i
is_sound script (Reply.Updated u) = is_update u
is_sound script _ = true

sound_ascii : (script : Script) (r : Reply) → IsNamed script → is_sound script r ≡ true → is_ascii (reply_text script r) ≡ true
sound_ascii script (Reply.Began f) h w = join2 (codes "floor ") (decimal f) refl (tick f w)
sound_ascii script (Reply.Ended o) h w = outcome_ascii o
sound_ascii script Reply.Done h w = refl
sound_ascii script (Reply.Row r) h w = read_ascii r w
sound_ascii script Reply.New h w = refl
sound_ascii script Reply.Known h w = refl
sound_ascii script Reply.Set h w = refl
sound_ascii script Reply.Unknown h w = refl
sound_ascii script Reply.ReadOnly h w = refl
sound_ascii script Reply.Removed h w = refl
sound_ascii script Reply.Cleared h w = refl
sound_ascii script (Reply.Listed l) h w = join2 (codes "list ") (list_text l) refl (list_ascii l w)
sound_ascii script Reply.Fault h w = refl
sound_ascii script Reply.Written h w = refl
sound_ascii script (Reply.Commit c) h w = commit_ascii script c h w
sound_ascii script (Reply.Stamped t) h w = tick t w
sound_ascii script (Reply.Check c) h w = checked_ascii script c h w
sound_ascii script (Reply.Found t l) h w = join4 (codes "found at ") (decimal t) (codes " ") (list_text l) refl (tick t (and_left (is_tick t) (are_cells l) w)) refl (list_ascii l (and_right (is_tick t) (are_cells l) w))
sound_ascii script Reply.Absent h w = refl
sound_ascii script (Reply.Kept q) h w = join2 (codes "kept") (dropped_text script q) refl (dropped_ascii script q h w)
sound_ascii script (Reply.Hit r) h w = join2 (codes "hit ") (row_text r) refl (row_ascii r w)
sound_ascii script (Reply.Miss m) h w = join2 (codes "miss ") (reason_text m) refl (miss_ascii m w)
sound_ascii script (Reply.Put p) h w = put_ascii p w
sound_ascii script (Reply.Locked l) h w = locked_ascii l w
sound_ascii script (Reply.Unlocked u) h w = unlocked_ascii u w
sound_ascii script (Reply.Inserted i) h w = inserted_ascii i w
sound_ascii script (Reply.Updated u) h w = updated_ascii u w
sound_ascii script Reply.Dropped h w = refl
sound_ascii script (Reply.Evicted e) h w = gone_ascii e

begun_sound : (script : Script) (r : Reply) → is_begun r ≡ true → is_sound script r ≡ true
begun_sound script (Reply.Began f) w = w
begun_sound script _ w = absurd cc

ended_sound : (script : Script) (r : Reply) → is_ended r ≡ true → is_sound script r ≡ true
ended_sound script (Reply.Ended o) w = refl
ended_sound script _ w = absurd cc

done_sound : (script : Script) (r : Reply) → is_done r ≡ true → is_sound script r ≡ true
done_sound script Reply.Done w = refl
done_sound script _ w = absurd cc

found_sound : (script : Script) (r : Reply) → is_found r ≡ true → is_sound script r ≡ true
found_sound script (Reply.Row r) w = w
found_sound script _ w = absurd cc

persisted_sound : (script : Script) (r : Reply) → is_persisted r ≡ true → is_sound script r ≡ true
persisted_sound script Reply.New w = refl
persisted_sound script Reply.Known w = refl
persisted_sound script _ w = absurd cc

changed_sound : (script : Script) (r : Reply) → is_changed r ≡ true → is_sound script r ≡ true
changed_sound script Reply.Set w = refl
changed_sound script Reply.Unknown w = refl
changed_sound script Reply.ReadOnly w = refl
changed_sound script _ w = absurd cc

removed_sound : (script : Script) (r : Reply) → is_removed r ≡ true → is_sound script r ≡ true
removed_sound script Reply.Removed w = refl
removed_sound script Reply.Unknown w = refl
removed_sound script _ w = absurd cc

cleared_sound : (script : Script) (r : Reply) → is_cleared r ≡ true → is_sound script r ≡ true
cleared_sound script Reply.Cleared w = refl
cleared_sound script _ w = absurd cc

loaded_sound : (script : Script) (r : Reply) → is_loaded r ≡ true → is_sound script r ≡ true
loaded_sound script (Reply.Row r) w = w
loaded_sound script Reply.Fault w = refl
loaded_sound script _ w = absurd cc

listed_sound : (script : Script) (r : Reply) → is_listed r ≡ true → is_sound script r ≡ true
listed_sound script (Reply.Listed l) w = w
listed_sound script Reply.Fault w = refl
listed_sound script _ w = absurd cc

written_sound : (script : Script) (r : Reply) → is_written r ≡ true → is_sound script r ≡ true
written_sound script Reply.Written w = refl
written_sound script _ w = absurd cc

committed_sound : (script : Script) (r : Reply) → is_committed script r ≡ true → is_sound script r ≡ true
committed_sound script (Reply.Commit c) w = w
committed_sound script _ w = absurd cc

stamped_sound : (script : Script) (r : Reply) → is_stamped r ≡ true → is_sound script r ≡ true
stamped_sound script (Reply.Stamped t) w = w
stamped_sound script _ w = absurd cc

checked_sound : (script : Script) (r : Reply) → is_checked script r ≡ true → is_sound script r ≡ true
checked_sound script (Reply.Check c) w = w
checked_sound script _ w = absurd cc

looked_sound : (script : Script) (r : Reply) → is_looked r ≡ true → is_sound script r ≡ true
looked_sound script (Reply.Found t l) w = w
looked_sound script Reply.Absent w = refl
looked_sound script _ w = absurd cc

kept_sound : (script : Script) (r : Reply) → is_kept script r ≡ true → is_sound script r ≡ true
kept_sound script (Reply.Kept q) w = w
kept_sound script _ w = absurd cc

got_sound : (script : Script) (r : Reply) → is_got r ≡ true → is_sound script r ≡ true
got_sound script (Reply.Hit r) w = w
got_sound script (Reply.Miss m) w = w
got_sound script _ w = absurd cc

stored_sound : (script : Script) (r : Reply) → is_stored r ≡ true → is_sound script r ≡ true
stored_sound script (Reply.Put p) w = w
stored_sound script _ w = absurd cc

locked_sound : (script : Script) (r : Reply) → is_locked r ≡ true → is_sound script r ≡ true
locked_sound script (Reply.Locked l) w = w
locked_sound script _ w = absurd cc

unlocked_sound : (script : Script) (r : Reply) → is_unlocked r ≡ true → is_sound script r ≡ true
unlocked_sound script (Reply.Unlocked u) w = w
unlocked_sound script _ w = absurd cc

inserted_sound : (script : Script) (r : Reply) → is_inserted r ≡ true → is_sound script r ≡ true
inserted_sound script (Reply.Inserted i) w = w
inserted_sound script _ w = absurd cc

updated_sound : (script : Script) (r : Reply) → is_updated r ≡ true → is_sound script r ≡ true
updated_sound script (Reply.Updated u) w = w
updated_sound script _ w = absurd cc

dropped_sound : (script : Script) (r : Reply) → is_dropped r ≡ true → is_sound script r ≡ true
dropped_sound script Reply.Dropped w = refl
dropped_sound script Reply.Absent w = refl
dropped_sound script _ w = absurd cc

evicted_sound : (script : Script) (r : Reply) → is_evicted r ≡ true → is_sound script r ≡ true
evicted_sound script (Reply.Evicted e) w = refl
evicted_sound script _ w = absurd cc

reply_sound : (script : Script) (act : Act) (r : Reply) → is_reply script act r ≡ true → is_sound script r ≡ true
reply_sound script Act.Begin r w = begun_sound script r w
reply_sound script Act.End r w = ended_sound script r w
reply_sound script (Act.Kill s) r w = done_sound script r w
reply_sound script Act.Restart r w = done_sound script r w
reply_sound script (Act.Find k) r w = found_sound script r w
reply_sound script (Act.Persist k x) r w = persisted_sound script r w
reply_sound script (Act.Set k xs) r w = changed_sound script r w
reply_sound script (Act.Remove k) r w = removed_sound script r w
reply_sound script Act.Clear r w = cleared_sound script r w
reply_sound script (Act.Load k) r w = loaded_sound script r w
reply_sound script (Act.List q) r w = listed_sound script r w
reply_sound script (Act.Write c) r w = written_sound script r w
reply_sound script Act.Commit r w = committed_sound script r w
reply_sound script Act.Rollback r w = done_sound script r w
reply_sound script (Act.Pre ts) r w = stamped_sound script r w
reply_sound script (Act.Stamp ts) r w = stamped_sound script r w
reply_sound script (Act.Check q t) r w = checked_sound script r w
reply_sound script (Act.Look q) r w = looked_sound script r w
reply_sound script (Act.Keep q t l) r w = kept_sound script r w
reply_sound script (Act.Get k t) r w = got_sound script r w
reply_sound script (Act.Put k x t f) r w = stored_sound script r w
reply_sound script (Act.Lock k v f) r w = locked_sound script r w
reply_sound script (Act.Unlock k i) r w = unlocked_sound script r w
reply_sound script (Act.AfterInsert k x f) r w = inserted_sound script r w
reply_sound script (Act.AfterUpdate k i x) r w = updated_sound script r w
reply_sound script (Act.RegionRemove k) r w = dropped_sound script r w
reply_sound script (Act.Evict k) r w = evicted_sound script r w

pub reply_ascii : (script : Script) (act : Act) (r : Reply) → IsNamed script → is_reply script act r ≡ true → is_ascii (reply_text script r) ≡ true
reply_ascii script act r h w = sound_ascii script r h (reply_sound script act r w)
