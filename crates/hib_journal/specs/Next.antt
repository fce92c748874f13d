-- The acts of a session: Begin, and then a block for each statement.
use Rattle.std.specs.Prelude.{ℕ, Bool, true, false, if◌then◌else◌, not, ◌&&◌, ◌==◌, List, [], ◌∷◌, ◌++◌, length, slice_get, Some, None, Option, is_some, option_and_then}
use Rattle.std.specs.Option.{option_map_or}
use Rattle.std.specs.List.{filter, flat_map, list_any, range_with_len}
use Rattle.hib_journal.specs.Types.{Key, Row, Change, Commit, Strategy, Mode, Statement, Script, Act, Reply, Checked}
use Rattle.hib_base.specs.Keys.{same_key}
pub use Rattle.hib_base.specs.Scripts.{strategy_in, is_cached_by, mode_reads, mode_puts, ends}
use Rattle.hib_base.specs.Tables.{key_of, row_left, last_on, first_on}
use Rattle.hib_journal.specs.Sessions.{Journal, time_in, floor_in, changes_in}
use Rattle.hib_journal.specs.Query.{tables}
use Rattle.hib_journal.specs.Held.{held, pending, is_fresh}
use Rattle.hib_journal.specs.Plan.{Plan, Block, one, each, left_of, first_act}

-- what the mapping says of an entity
abbrev pub strategy : Script → ℕ → Strategy
strategy script n = strategy_in (slice_get script.mapping n)

abbrev pub is_cached : Script → ℕ → Bool
is_cached script n = is_cached_by (strategy script n)

abbrev pub capacity : Script → ℕ → ℕ
capacity script n = option_map_or (λ d. d.capacity) (slice_get script.mapping n) 0

abbrev pub first_version : Script → ℕ → Option ℕ
first_version script n = if option_map_or (λ d. d.versioned) (slice_get script.mapping n) false then Some 0 else None

abbrev pub is_in : Key → List Change → Bool
is_in k cs = list_any (λ c. same_key (key_of c) k) cs

abbrev pub is_in_tables : List ℕ → List Change → Bool
is_in_tables ts cs = list_any (λ c. list_any (λ t. (key_of c).entity == t) ts) cs

-- the entities of a list of changes, in the mapping's order
abbrev pub tables_in : Script → List Change → List ℕ
tables_in script cs = filter (λ n. list_any (λ c. (key_of c).entity == n) cs) (range_with_len 0 (length script.mapping))

-- find

-- a cached entity's region is spoken to of a key that is not in the changes, if the mode lets it
abbrev pub may_read : Script → Mode → Key → Journal → Bool
may_read script m k done = is_cached script k.entity && (mode_reads m && not (is_in k (changes_in done)))

abbrev pub may_put : Script → Mode → Key → Journal → Bool
may_put script m k done = is_cached script k.entity && (mode_puts m && not (is_in k (changes_in done)))

abbrev pub put_loaded : Script → Mode → Key → Reply → Block
put_loaded script m k (Reply.Row (Some r)) done go =
    if may_put script m k done then one (Act.Put k r (time_in done) (floor_in done)) done go else go done
put_loaded script m k _ done go = go done

abbrev pub load : Script → Mode → Key → Block
load script m k done go = Plan.Do (Act.Load k) (λ e. put_loaded script m k e.reply (e ∷ done) go)

abbrev pub load_unless_hit : Script → Mode → Key → Reply → Block
load_unless_hit script m k (Reply.Hit r) done go = go done
load_unless_hit script m k _ done go = load script m k done go

abbrev pub get : Script → Mode → Key → Block
get script m k done go = Plan.Do (Act.Get k (time_in done)) (λ e. load_unless_hit script m k e.reply (e ∷ done) go)

abbrev pub find_away : Script → Mode → Key → Block
find_away script m k done go = if may_read script m k done then get script m k done go else load script m k done go

abbrev pub find : Script → Mode → Key → Block
find script m k done go = if is_some (held done k) then one (Act.Find k) done go else find_away script m k done go

-- flush

abbrev pub before_cached : Strategy → Key → Option ℕ → ℕ → List Act
before_cached Strategy.ReadWrite k v floor = Act.Lock k v floor ∷ []
before_cached Strategy.Uncached k v floor = []
before_cached _ k v floor = Act.RegionRemove k ∷ []

abbrev pub before_key : Script → Journal → Key → Option ℕ → List Act
before_key script past k v =
    if is_in k (changes_in past) then []
    else before_cached (strategy script k.entity) k (if is_fresh k past then v else None) (floor_in past)

-- what comes before the write of a change: a lock, or the removal of an item
abbrev pub before_write : Script → Journal → Change → List Act
before_write script past (Change.Insert k r) = []
before_write script past (Change.Update k v r) = before_key script past k v
before_write script past (Change.Delete k v) = before_key script past k v

abbrev pub writes : Script → Journal → List Change → List Act
writes script past cs = flat_map (λ c. before_write script past c ++ Act.Write c ∷ []) cs

abbrev pub flush_of : Script → Journal → List Change → List Act
flush_of script past [] = []
flush_of script past (c ∷ cs) = Act.Pre (tables_in script (c ∷ cs)) ∷ writes script past (c ∷ cs)

abbrev pub flush : Script → Block
flush script done go = each (flush_of script done (pending done)) done go

-- list

-- the tables of a query, in the mapping's order
abbrev pub tables_of : Script → ℕ → List ℕ
tables_of script q = option_map_or (tables (length script.mapping)) (slice_get script.queries q) []

abbrev pub is_free : Script → ℕ → Bool → Journal → Bool
is_free script q by_mode done =
    option_map_or (λ d. d.cached) (slice_get script.queries q) false
    && (by_mode && not (is_in_tables (tables_of script q) (changes_in done)))

abbrev pub keep_listed : Script → Mode → ℕ → Reply → Block
keep_listed script m q (Reply.Listed l) done go =
    if is_free script q (mode_puts m) done then one (Act.Keep q (time_in done) l) done go else go done
keep_listed script m q _ done go = go done

abbrev pub list_store : Script → Mode → ℕ → Block
list_store script m q done go = Plan.Do (Act.List q) (λ e. keep_listed script m q e.reply (e ∷ done) go)

abbrev pub list_unless_fresh : Script → Mode → ℕ → Reply → Block
list_unless_fresh script m q (Reply.Check Checked.Fresh) done go = go done
list_unless_fresh script m q _ done go = list_store script m q done go

abbrev pub check : Script → Mode → ℕ → ℕ → Block
check script m q time done go = Plan.Do (Act.Check q time) (λ e. list_unless_fresh script m q e.reply (e ∷ done) go)

abbrev pub check_found : Script → Mode → ℕ → Reply → Block
check_found script m q (Reply.Found time l) done go = check script m q time done go
check_found script m q _ done go = list_store script m q done go

abbrev pub look : Script → Mode → ℕ → Block
look script m q done go = Plan.Do (Act.Look q) (λ e. check_found script m q e.reply (e ∷ done) go)

abbrev pub answer : Script → Mode → ℕ → Block
answer script m q done go = if is_free script q (mode_reads m) done then look script m q done go else list_store script m q done go

abbrev pub flush_for : Script → ℕ → Block
flush_for script q done go = if is_in_tables (tables_of script q) (pending done) then flush script done go else go done

abbrev pub list : Script → Mode → ℕ → Block
list script m q done go = flush_for script q done (λ d. answer script m q d go)

-- the end of a transaction

abbrev pub lock_in : Key → Act → Reply → ℕ → ℕ
lock_in k (Act.Lock j v f) (Reply.Locked l) i = if same_key j k then l.id else i
lock_in k _ _ i = i

-- the id that the session's own last lock on k answered
abbrev pub lock_id : Key → Journal → ℕ
lock_id k [] = 0
lock_id k (e ∷ m) = lock_in k e.act e.reply (lock_id k m)

abbrev pub is_committed_reply : Reply → Bool
is_committed_reply (Reply.Commit Commit.Committed) = true
is_committed_reply _ = false

abbrev pub complete_insert : Strategy → Key → Option Row → ℕ → List Act
complete_insert Strategy.ReadOnly k (Some r) floor = Act.AfterInsert k r floor ∷ []
complete_insert Strategy.ReadWrite k (Some r) floor = Act.AfterInsert k r floor ∷ []
complete_insert _ k _ floor = []

abbrev pub release_of : Key → ℕ → Option Row → List Act
release_of k i (Some r) = Act.AfterUpdate k i r ∷ []
release_of k i None = Act.Unlock k i ∷ []

abbrev pub complete_update : Strategy → Key → ℕ → Option Row → List Act
complete_update Strategy.ReadWrite k i r = release_of k i r
complete_update Strategy.Uncached k i r = []
complete_update _ k i r = Act.RegionRemove k ∷ []

abbrev pub complete_by : Option Change → Strategy → Key → ℕ → ℕ → Option Row → List Act
complete_by None g k i floor r = []
complete_by (Some (Change.Insert j x)) g k i floor r = complete_insert g k r floor
complete_by (Some c) g k i floor r = complete_update g k i r

-- what completes one key: by its first change, and by the row that may be put back
abbrev pub complete : Script → Mode → Journal → Bool → List Change → Key → List Act
complete script m past done cs k =
    complete_by (first_on k cs) (strategy script k.entity) k (lock_id k past) (floor_in past)
    (if done && mode_puts m then option_and_then row_left (last_on k cs) else None)

abbrev pub add_key : Key → List Key → List Key
add_key k ks = k ∷ filter (λ j. not (same_key j k)) ks

-- the keys of a list of changes, in order of their first change
abbrev pub keys_of : List Change → List Key
keys_of [] = []
keys_of (c ∷ cs) = add_key (key_of c) (keys_of cs)

abbrev pub stamps_of : List ℕ → List Act
stamps_of [] = []
stamps_of (t ∷ ts) = Act.Stamp (t ∷ ts) ∷ []

-- what completes a transaction, by whether its changes are committed
abbrev pub completion : Script → Mode → Bool → Journal → List Act
completion script m committed done =
    flat_map (λ k. complete script m done committed (changes_in done) k) (keys_of (changes_in done))
    ++ stamps_of (tables_in script (changes_in done)) ++ Act.End ∷ []

abbrev pub commit : Script → Mode → Block
commit script m done go = Plan.Do Act.Commit (λ e. each (completion script m (is_committed_reply e.reply) (e ∷ done)) (e ∷ done) go)

abbrev pub rollback : Script → Mode → Block
rollback script m done go = Plan.Do Act.Rollback (λ e. each (completion script m false (e ∷ done)) (e ∷ done) go)

-- statements

abbrev pub block : Script → Mode → Statement → Block
block script m (Statement.Find k) done go = find script m k done go
block script m (Statement.Persist k cells) done go = one (Act.Persist k (record { version = first_version script k.entity; cells = cells })) done go
block script m (Statement.Set k cells) done go = one (Act.Set k cells) done go
block script m (Statement.Remove k) done go = one (Act.Remove k) done go
block script m (Statement.List q) done go = list script m q done go
block script m Statement.Flush done go = flush script done go
block script m Statement.Clear done go = one Act.Clear done go
block script m (Statement.Mode n) done go = go done
block script m Statement.Commit done go = flush script done (λ d. commit script m d go)
block script m Statement.Rollback done go = rollback script m done go

abbrev pub mode_after : Statement → Mode → Mode
mode_after (Statement.Mode n) m = n
mode_after _ m = m

abbrev pub begin_if : Bool → Block
begin_if true done go = one Act.Begin done go
begin_if false done go = go done

-- all blocks of a session. Begin is due at the start, and after the end of a transaction that another one follows
abbrev pub blocks : Script → Mode → Bool → List Statement → Journal → Plan
blocks script m due [] done = Plan.Over
blocks script m due (st ∷ sts) done =
    begin_if due done (λ d. block script m st d (λ x. blocks script (mode_after st m) (ends st) sts x))

abbrev pub plan_of : Script → ℕ → Plan
plan_of script s = blocks script Mode.Normal true (option_map_or (λ d. d.statements) (slice_get script.sessions s) []) []

-- the next act of session s, by its own entries, the newest first
unfoldable pub next : Script → ℕ → Journal → Option Act
next script s mine = first_act (left_of (plan_of script s) mine)
