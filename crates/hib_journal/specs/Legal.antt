-- Legal journals: each entry is the next act of its session, in its part, with the reply that the parts give.
use Rattle.std.specs.Prelude.{◌≡◌, ℕ, ◌+◌, ◌⊎◌, Bool, true, false, if◌then◌else◌, not, ◌||◌, List, [], ◌∷◌, length, slice_get, IsSome, Some, None, Option, is_some, unwrap_or, option_map, option_and_then}
use Rattle.std.specs.Option.{option_map_or}
use Rattle.hib_journal.specs.Types.{Key, Row, Change, Commit, State, Outcome, Strategy, Script, Part, Act, Reply, Inserted, Evicted, Entry}
use Rattle.hib_base.specs.Tables.{Tables, row_at, after_changes, commit_answer}
use Rattle.hib_journal.specs.Sessions.{Journal, is_empty, own, floor, changes, is_open, was_killed, committed, IsTimely}
use Rattle.hib_journal.specs.Slot.{slot, history, key_in}
use Rattle.hib_journal.specs.Room.{room, item, oldest}
use Rattle.hib_journal.specs.Regions
use Rattle.hib_journal.specs.Stamps.{check}
use Rattle.hib_journal.specs.Results.{result, dropped}
use Rattle.hib_journal.specs.Query.{gives}
use Rattle.hib_journal.specs.Held.{Instance, held}
use Rattle.hib_journal.specs.Next.{next, strategy, is_cached, capacity, is_in, tables_of}

-- own acts

abbrev pub unless_removed : State → Row → Option Row
unless_removed State.Removed r = None
unless_removed _ r = Some r

abbrev pub row_of : Option Instance → Option Row
row_of held = option_and_then (λ i. unless_removed i.state i.row) held

abbrev pub set_unless : Strategy → Reply
set_unless Strategy.ReadOnly = Reply.ReadOnly
set_unless _ = Reply.Set

abbrev pub outcome_after : Act → Reply → Outcome → Outcome
outcome_after Act.Rollback r o = Outcome.RolledBack
outcome_after Act.Commit (Reply.Commit Commit.Committed) o = Outcome.Committed
outcome_after Act.Commit (Reply.Commit (Commit.Stale k v)) o = Outcome.Stale
outcome_after Act.Commit (Reply.Commit (Commit.Duplicate k)) o = Outcome.Duplicate
outcome_after Act.Commit (Reply.Commit Commit.Fault) o = Outcome.Fault
outcome_after _ r o = o

-- the outcome of the last Commit or Rollback
abbrev pub outcome : Journal → Outcome
outcome [] = Outcome.RolledBack
outcome (e ∷ m) = outcome_after e.act e.reply (outcome m)

-- regions, by strategy

abbrev pub get_reply : Strategy → Script → Journal → Key → ℕ → Reply
get_reply Strategy.ReadWrite script h k t = Regions.got (slot script.timeout k h) t
get_reply Strategy.ReadOnly script h k t = Regions.got_item true t (item (history k h))
get_reply _ script h k t = Regions.got_item false t (item (history k h))

abbrev pub room_for : Script → Journal → Key → ℕ → Option (Option ℕ)
room_for script h k f = room script.timeout (capacity script k.entity) k.entity f h

abbrev pub put_reply : Strategy → Script → Journal → Key → Row → ℕ → ℕ → Reply
put_reply Strategy.ReadWrite script h k r t f =
    Reply.Put (Regions.put (slot script.timeout k h) (room_for script h k f) t r.version)
put_reply _ script h k r t f = Reply.Put (Regions.put_item (oldest (capacity script k.entity) k.entity h) (item (history k h)))

abbrev pub insert_reply : Strategy → Script → Journal → Key → ℕ → Reply
insert_reply Strategy.ReadWrite script h k f =
    Reply.Inserted (Regions.after_insert (slot script.timeout k h) (room_for script h k f))
insert_reply _ script h k f =
    Reply.Inserted (if is_some (item (history k h)) then Inserted.Present else Inserted.Stored (oldest (capacity script k.entity) k.entity h))

abbrev pub evict_reply : Strategy → Script → Journal → Key → Reply
evict_reply Strategy.ReadWrite script h k = Reply.Evicted (Regions.evict (slot script.timeout k h))
evict_reply _ script h k = Reply.Evicted (if is_some (item (history k h)) then Evicted.Gone else Evicted.Absent)

-- the reply to an act of session s at a tick, over its changes, the committed rows and the journal before it
abbrev pub reply_by : Script → List Change → Tables → Journal → ℕ → ℕ → Act → Reply
reply_by script cs rows h s now Act.Begin = Reply.Began (floor h now)
reply_by script cs rows h s now Act.End = Reply.Ended (outcome (own s h))
reply_by script cs rows h s now (Act.Kill n) = Reply.Done
reply_by script cs rows h s now Act.Restart = Reply.Done
reply_by script cs rows h s now (Act.Find k) = Reply.Row (row_of (held (own s h) k))
reply_by script cs rows h s now (Act.Persist k r) = if is_some (held (own s h) k) || is_in k cs then Reply.Known else Reply.New
reply_by script cs rows h s now (Act.Set k cells) =
    if is_some (row_of (held (own s h) k)) then set_unless (strategy script k.entity) else Reply.Unknown
reply_by script cs rows h s now (Act.Remove k) = if is_some (row_of (held (own s h) k)) then Reply.Removed else Reply.Unknown
reply_by script cs rows h s now Act.Clear = Reply.Cleared
reply_by script cs rows h s now (Act.Load k) = Reply.Row (row_at (after_changes cs rows) k)
reply_by script cs rows h s now (Act.List q) =
    option_map_or (λ d. Reply.Listed (gives d (after_changes cs rows))) (slice_get script.queries q) Reply.Fault
reply_by script cs rows h s now (Act.Write c) = Reply.Written
reply_by script cs rows h s now Act.Commit = Reply.Commit (commit_answer cs rows)
reply_by script cs rows h s now Act.Rollback = Reply.Done
reply_by script cs rows h s now (Act.Pre ts) = Reply.Stamped (now + script.timeout)
reply_by script cs rows h s now (Act.Stamp ts) = Reply.Stamped now
reply_by script cs rows h s now (Act.Check q t) = Reply.Check (check script.timeout t (tables_of script q) h)
reply_by script cs rows h s now (Act.Look q) = option_map_or (λ r. Reply.Found r.0 r.1) (result script.results q h) Reply.Absent
reply_by script cs rows h s now (Act.Keep q t l) = Reply.Kept (dropped script.results (length script.queries) q h)
reply_by script cs rows h s now (Act.Get k t) = get_reply (strategy script k.entity) script h k t
reply_by script cs rows h s now (Act.Put k r t f) = put_reply (strategy script k.entity) script h k r t f
reply_by script cs rows h s now (Act.Lock k v f) = Reply.Locked (Regions.lock script.timeout (slot script.timeout k h) (room_for script h k f) now)
reply_by script cs rows h s now (Act.Unlock k i) = Reply.Unlocked (Regions.unlock (slot script.timeout k h) i)
reply_by script cs rows h s now (Act.AfterInsert k r f) = insert_reply (strategy script k.entity) script h k f
reply_by script cs rows h s now (Act.AfterUpdate k i r) = Reply.Updated (Regions.after_update (slot script.timeout k h) i)
reply_by script cs rows h s now (Act.RegionRemove k) = if is_some (item (history k h)) then Reply.Dropped else Reply.Absent
reply_by script cs rows h s now (Act.Evict k) = evict_reply (strategy script k.entity) script h k

abbrev pub reply_of : Script → Tables → Journal → ℕ → ℕ → Act → Reply
reply_of script start h s now a = reply_by script (changes s h) (committed start h) h s now a

-- the fault that may be answered: to a Load of a key that the session has not changed, a List, a Commit of some changes
abbrev pub fault_of : List Change → Act → Option Reply
fault_of cs (Act.Load k) = if is_in k cs then None else Some Reply.Fault
fault_of cs (Act.List q) = Some Reply.Fault
fault_of cs Act.Commit = if is_empty cs then None else Some (Reply.Commit Commit.Fault)
fault_of cs _ = None

-- the replies that hang on the committed rows, by the session's changes
abbrev pub is_told : List Change → Act → Bool
is_told cs (Act.Load k) = not (is_in k cs)
is_told cs (Act.List q) = true
is_told cs Act.Commit = not (is_empty cs)
is_told cs _ = false

-- a reply of the kind that the store gives
abbrev pub is_of_store : Act → Reply → Bool
is_of_store (Act.Load k) (Reply.Row r) = true
is_of_store (Act.Load k) Reply.Fault = true
is_of_store (Act.Load k) _ = false
is_of_store (Act.List q) (Reply.Listed l) = true
is_of_store (Act.List q) Reply.Fault = true
is_of_store (Act.List q) _ = false
is_of_store Act.Commit (Reply.Commit c) = true
is_of_store Act.Commit _ = false
is_of_store _ r = true

-- an entry has this reply, or a fault that may be answered over these changes
abbrev pub IsAnswerBy : List Change → Reply → Entry → Type 0
IsAnswerBy cs reply e = (e.reply ≡ reply) ⊎ (fault_of cs e.act ≡ Some e.reply)

-- if the rows at the start are not told, the replies that hang on rows have their kind alone
abbrev pub IsReplyBy : Option Tables → List Change → (Tables → Reply) → Entry → Type 0
IsReplyBy (Some start) cs reply e = IsAnswerBy cs (reply start) e
IsReplyBy None cs reply e = (is_of_store e.act e.reply ≡ true) × (is_told cs e.act ≡ false → IsAnswerBy cs (reply []) e)

abbrev pub IsAnswer : Script → Tables → Journal → Entry → Type 0
IsAnswer script start h e = IsAnswerBy (changes (unwrap_or e.session 0) h) (reply_of script start h (unwrap_or e.session 0) e.tick e.act) e

-- the reply that is due
abbrev pub IsReply : Script → Option Tables → Journal → Entry → Type 0
IsReply script told h e =
    IsReplyBy told (changes (unwrap_or e.session 0) h) (λ start. reply_of script start h (unwrap_or e.session 0) e.tick e.act) e

-- the part of an act of session s: what names a key of a region goes to that region, and what is left to the registry
abbrev pub part_of : Act → ℕ → Part
part_of (Act.Find k) s = Part.Own s
part_of (Act.Persist k r) s = Part.Own s
part_of (Act.Set k cells) s = Part.Own s
part_of (Act.Remove k) s = Part.Own s
part_of Act.Clear s = Part.Own s
part_of (Act.Load k) s = Part.Store
part_of (Act.List q) s = Part.Store
part_of (Act.Write c) s = Part.Store
part_of Act.Commit s = Part.Store
part_of Act.Rollback s = Part.Store
part_of (Act.Pre ts) s = Part.Stamps
part_of (Act.Stamp ts) s = Part.Stamps
part_of (Act.Check q t) s = Part.Stamps
part_of (Act.Look q) s = Part.Results
part_of (Act.Keep q t l) s = Part.Results
part_of a s = option_map_or (λ k. Part.Region k.entity) (key_in a) Part.Registry

-- the acts that no session does
abbrev pub is_outside : Act → Bool
is_outside (Act.Kill n) = true
is_outside Act.Restart = true
is_outside (Act.Evict k) = true
is_outside _ = false

-- the act that is due: of a session its next one, unless it was killed; without a session any outside act
abbrev pub due_by : Script → Journal → Option ℕ → Act → Option Act
due_by script h (Some s) a = if was_killed s h then None else next script s (own s h)
due_by script h None a = if is_outside a then Some a else None

abbrev pub due : Script → Journal → Entry → Option Act
due script h e = due_by script h e.session e.act

-- a kill names an open session, an evict a cached entity
abbrev pub may_come : Script → Journal → Option Act → Option Act
may_come script h (Some (Act.Kill n)) = if is_open n h then Some (Act.Kill n) else None
may_come script h (Some (Act.Evict k)) = if is_cached script k.entity then Some (Act.Evict k) else None
may_come script h a = a

-- the five points of an entry, as the audit names them
pub record IsStep (script : Script) (told : Option Tables) (h : Journal) (e : Entry) : Type 0 where
  pub tick : IsTimely e h
  pub session : IsSome (due script h e)
  pub part : option_map (λ a. part_of a (unwrap_or e.session 0)) (due script h e) ≡ Some e.part
  pub act : may_come script h (due script h e) ≡ Some e.act
  pub reply : IsReply script told h e

-- the rows at the start are told, or they are not
abbrev pub IsLegal : Script → Option Tables → Journal → Type 0
IsLegal script told [] = Unit {0}
IsLegal script told (e ∷ h) = IsLegal script told h × IsStep script told h e
