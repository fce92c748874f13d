-- What a session remembers of its own entries.
use Rattle.std.specs.Prelude.{◌≡◌, ℕ, Bool, true, false, if◌then◌else◌, not, List, [], ◌∷◌, ◌++◌, Some, None, Option}
use Rattle.std.specs.List.{flat_map}
use Rattle.std.specs.Option.{is_some}
use Rattle.std.specs.Map.{lookup}
use Rattle.indexmap.specs.IndexMap.{insert_entry}
use Rattle.indexmap.specs.IndexSet.{insert_key}
use Rattle.hib_journal.specs.Types.{Key, Row, Change, Script, State, Held, Outcome, Act, Reply, Entry}
use Rattle.hib_base.specs.Keys.{same_key}
use Rattle.hib_journal.specs.Sessions.{Journal, time_in, time_after, floor_in, floor_after, changes_in, changes_after}
use Rattle.hib_journal.specs.Held.{Arrival, Stay, stay, is_break, removed, is_fresh, is_inserted}
use Rattle.hib_journal.specs.Next.{lock_id, is_in, strategy, before_cached, tables_in}
use Rattle.hib_journal.specs.Legal.{outcome, outcome_after}
use Rattle.hib_identity_map.specs.Identity.{MapState, Pairs, drop_in, add_in, change_in, written, as_removed, with_sets, remove_last}
use Rattle.hib_identity_map.specs.Holds.{Holds}
use Rattle.hib_completion.specs.Completed.{is_key_in, lock_of}
use Rattle.hib_session.specs.declared.written.Written.{Written}
use Rattle.hib_base.specs.Tables.{row_left}

-- what contracts see of a memory: what it remembers, and whether it has room for one more of each
pub record Remembered : Type 0 where
  pub time : ℕ
  pub floor : ℕ
  pub instances : MapState
  pub marks : List (Key × Bool)
  pub changes : List Change
  pub fresh : List Key
  pub locks : List (Key × ℕ)
  pub outcome : Outcome
  pub room : Bool

-- the same, with other room
abbrev pub with_room : Bool → Remembered → Remembered
with_room b x = record {
  time = x.time;
  floor = x.floor;
  instances = x.instances;
  marks = x.marks;
  changes = x.changes;
  fresh = x.fresh;
  locks = x.locks;
  outcome = x.outcome;
  room = b;
}

-- whether an instance was made by the session, and not inserted since
abbrev pub is_unwritten : Key → Option Stay → Bool
is_unwritten k None = false
is_unwritten k (Some (Arrival.Read j r, m)) = false
is_unwritten k (Some (Arrival.Made j r, m)) = not (is_inserted k m)

abbrev pub or_false : Option Bool → Bool
or_false None = false
or_false (Some b) = b

-- whether a key is marked
abbrev pub marked_in : Key → List (Key × Bool) → Bool
marked_in k marks = or_false (lookup (same_key k) marks)

-- a key has this value, in place of the one that it had; a new key comes last
abbrev pub with_value : {V : Type 0} → Key → V → List (Key × V) → List (Key × V)
with_value k v ps = insert_entry same_key ps k v

-- a key is among these; a new one comes last
abbrev pub with_key : Key → List Key → List Key
with_key k ks = insert_key same_key ks k

-- the memory stands for these entries of a session, the newest first
pub record Knows (memory : Remembered) (mine : Journal) : Type 0 where
  pub time : memory.time ≡ time_in mine
  pub floor : memory.floor ≡ floor_in mine
  pub changes : memory.changes ≡ changes_in mine
  pub outcome : memory.outcome ≡ outcome mine
  pub holds : Holds memory.instances.held mine
  pub removals : memory.instances.removals ≡ removed mine
  pub unwritten : (k : Key) → marked_in k memory.marks ≡ is_unwritten k (stay k mine)
  pub fresh : (k : Key) → is_key_in k memory.fresh ≡ is_fresh k mine
  pub locks : (k : Key) → lock_of k memory.locks ≡ lock_id k mine

-- instances that arrive: made new, or read
abbrev pub made : Row → Held
made r = record { state = State.New; base = None; row = r }

abbrev pub managed : Row → Held
managed r = record { state = State.Managed; base = Some r; row = r }

-- an instance arrives: one of the same key leaves, and it comes last
abbrev pub arrive_in : Key → Held → Pairs → Pairs
arrive_in k h ps = add_in k h (drop_in k ps)

-- a removed one leaves if it was never written, and is marked if it was
abbrev pub remove_in : Bool → Key → Pairs → Pairs
remove_in true k ps = drop_in k ps
remove_in false k ps = change_in k as_removed ps

abbrev pub unless_broken : {A : Type 0} → Bool → List A → List A
unless_broken true xs = []
unless_broken false xs = xs

abbrev pub with_pairs : MapState → Pairs → MapState
with_pairs m ps = record { held = ps; removals = m.removals }

abbrev pub map_written : Change → MapState → MapState
map_written (Change.Insert k r) m = with_pairs m (change_in k (written r) m.held)
map_written (Change.Update k v r) m = with_pairs m (change_in k (written r) m.held)
map_written (Change.Delete k v) m = with_pairs m (drop_in k m.held)

-- what each entry leaves of what is remembered; u says of a key whether its instance was never written
abbrev pub map_after : (Key → Bool) → Act → Reply → MapState → MapState
map_after u (Act.Persist k row) Reply.New m = with_pairs m (arrive_in k (made row) m.held)
map_after u (Act.Load k) (Reply.Row (Some row)) m = with_pairs m (arrive_in k (managed row) m.held)
map_after u (Act.Get k t) (Reply.Hit row) m = with_pairs m (arrive_in k (managed row) m.held)
map_after u (Act.Write c) r m = map_written c m
map_after u (Act.Set k cells) Reply.Set m = with_pairs m (change_in k (with_sets cells) m.held)
map_after u (Act.Remove k) Reply.Removed m = record { held = remove_in (u k) k m.held; removals = remove_last k m.removals }
map_after u Act.Commit r m = with_pairs m (unless_broken (is_break Act.Commit r) m.held)
map_after u Act.Rollback r m = with_pairs m []
map_after u Act.Clear r m = with_pairs m []
map_after u _ r m = m

abbrev pub marks_written : Change → List (Key × Bool) → List (Key × Bool)
marks_written (Change.Insert k r) ms = with_value k false ms
marks_written _ ms = ms

abbrev pub marks_after : Act → Reply → List (Key × Bool) → List (Key × Bool)
marks_after (Act.Persist k row) Reply.New ms = with_value k true ms
marks_after (Act.Load k) (Reply.Row (Some row)) ms = with_value k false ms
marks_after (Act.Get k t) (Reply.Hit row) ms = with_value k false ms
marks_after (Act.Write c) r ms = marks_written c ms
marks_after Act.Commit r ms = unless_broken (is_break Act.Commit r) ms
marks_after Act.Rollback r ms = []
marks_after Act.Clear r ms = []
marks_after _ r ms = ms

abbrev pub fresh_written : Change → List Key → List Key
fresh_written (Change.Insert k r) ks = with_key k ks
fresh_written (Change.Update k v r) ks = with_key k ks
fresh_written (Change.Delete k v) ks = ks

abbrev pub fresh_after : Act → Reply → List Key → List Key
fresh_after Act.Begin r ks = []
fresh_after (Act.Load k) (Reply.Row (Some row)) ks = with_key k ks
fresh_after (Act.Get k t) (Reply.Hit row) ks = with_key k ks
fresh_after (Act.Write c) r ks = fresh_written c ks
fresh_after _ r ks = ks

abbrev pub locks_after : Act → Reply → List (Key × ℕ) → List (Key × ℕ)
locks_after (Act.Lock k v f) (Reply.Locked l) ls = with_value k l.id ls
locks_after _ r ls = ls

abbrev pub noted_by : Remembered → ℕ → Act → Reply → Remembered
noted_by x now a r = record {
  time = time_after a now x.time;
  floor = floor_after a r x.floor;
  instances = map_after (λ k. marked_in k x.marks) a r x.instances;
  marks = marks_after a r x.marks;
  changes = changes_after a x.changes;
  fresh = fresh_after a r x.fresh;
  locks = locks_after a r x.locks;
  outcome = outcome_after a r x.outcome;
  room = x.room;
}

-- the memory after one more entry
abbrev pub noted : Remembered → Entry → Remembered
noted x e = noted_by x e.tick e.act e.reply

-- what a session asks of its memory for the acts that follow an answer: it stands for these entries in that
pub record Recalls (memory : Remembered) (mine : Journal) : Type 0 where
  pub time : memory.time ≡ time_in mine
  pub floor : memory.floor ≡ floor_in mine
  pub changes : memory.changes ≡ changes_in mine
  pub locks : (k : Key) → lock_of k memory.locks ≡ lock_id k mine

-- what comes before a write, by the memory
abbrev pub before_key_in : Script → Remembered → Key → Option ℕ → List Act
before_key_in script x k v =
    if is_in k x.changes then [] else before_cached (strategy script k.entity) k (if is_key_in k x.fresh then v else None) x.floor

abbrev pub before_in : Script → Remembered → Change → List Act
before_in script x (Change.Insert k r) = []
before_in script x (Change.Update k v r) = before_key_in script x k v
before_in script x (Change.Delete k v) = before_key_in script x k v

abbrev pub writes_in : Script → Remembered → List Change → List Act
writes_in script x cs = flat_map (λ c. before_in script x c ++ Act.Write c ∷ []) cs

abbrev pub flush_in : Script → Remembered → List Change → List Act
flush_in script x [] = []
flush_in script x (c ∷ cs) = Act.Pre (tables_in script (c ∷ cs)) ∷ writes_in script x (c ∷ cs)

-- what was made ready for the entry of a write is that of this act
abbrev pub Fits : Option Written → Act → Type 0
Fits None a = Unit {0}
Fits (Some w) a = (a ≡ Act.Write w.change) × (w.base ≡ row_left w.change)

-- the acts whose entries bring what is kept of them: rows, cells and lists, and the key that was removed
abbrev pub brings : Act → Bool
brings (Act.Persist k r) = true
brings (Act.Load k) = true
brings (Act.List q) = true
brings (Act.Get k t) = true
brings (Act.Set k cells) = true
brings (Act.Remove k) = true
brings _ = false

-- the copies of a write are there, if the act is one
abbrev pub has_copies : Option Written → Act → Bool
has_copies w (Act.Write c) = is_some w
has_copies w _ = true

-- the acts whose entries must find room for what is kept of them: the changes and locks of a transaction
abbrev pub takes_room : Act → Bool
takes_room (Act.Write c) = true
takes_room (Act.Lock k v f) = true
takes_room _ = false

abbrev pub is_write : Act → Bool
is_write (Act.Write c) = true
is_write _ = false
