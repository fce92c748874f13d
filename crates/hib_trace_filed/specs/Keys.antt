-- The commits of a key, and its writes that were rolled back.
use Rattle.std.specs.Prelude.{◌≡◌, ◌<◌, ◌+◌, ◌-◌, ℕ, List, Option, Some, None, Vec, if◌then◌else◌, nat_eq, min, length}
use Rattle.std.specs.List.{filter_map, slice_index_or}
use Rattle.std.specs.declared.alloc.Global.{Global}
use Rattle.hib_trace_law.specs.declared.commits.Commit.{Commit}
use Rattle.hib_trace_calls.specs.declared.calls.Fate.{Fate}
use Rattle.hib_trace_calls.specs.declared.calls.Write.{Write}
use Rattle.hib_trace_filed.specs.declared.commits.By.{By}
use Rattle.hib_trace_filed.specs.declared.commits.Part.{Part}
use Rattle.hib_trace_filed.specs.declared.limits.Limits.{Limits}
use Rattle.hib_trace_filed.specs.declared.limits.OrderBy.{OrderBy}

-- an instant by clocks that differ by so much: the earliest and the latest that it may have been, within 64 bits
abbrev pub earlier : ℕ → ℕ → ℕ
earlier t n = t - n

abbrev pub later : ℕ → ℕ → ℕ
later t n = min (t + n) 18446744073709551615

-- the place of a write's row in the order of its key
abbrev pub rank_of : OrderBy → Write → Option ℕ
rank_of OrderBy.Commit w = None
rank_of OrderBy.Version w = w.version
rank_of OrderBy.Write w = Some w.end

-- the commit of a write: one whose fate is open may have been committed at any time
abbrev pub commit_by : ℕ → ℕ → Option ℕ → Fate → Option Commit
commit_by clock row rank Fate.Open = Some (record { row = row; begin = 0; end = None; version = rank })
commit_by clock row rank (Fate.Committed s) =
    Some (record { row = row; begin = earlier s.begin clock; end = Some (later s.end clock); version = rank })
commit_by clock row rank Fate.RolledBack = None

abbrev pub commit_of : Limits → Write → Option Commit
commit_of m w = commit_by m.clock w.row (rank_of m.order w) w.fate

-- a write that was rolled back, from its begin on
abbrev pub undone_by : ℕ → ℕ → ℕ → Fate → Option Commit
undone_by clock row begin Fate.RolledBack =
    Some (record { row = row; begin = earlier begin clock; end = None; version = None })
undone_by clock row begin _ = None

abbrev pub undone_of : Limits → Write → Option Commit
undone_of m w = undone_by m.clock w.row w.begin w.fate

abbrev pub filed_as : Part → Limits → Write → Option Commit
filed_as Part.Committed m w = commit_of m w
filed_as Part.Undone m w = undone_of m w

abbrev pub number_by : By → Write → ℕ
number_by By.Key w = w.key
number_by By.Table w = w.table

-- what the writes of a key, or of a table, give
abbrev pub of_number : By → (Write → Option Commit) → ℕ → Write → Option Commit
of_number by f k w = if nat_eq (number_by by w) k then f w else None

abbrev pub commits_of : Limits → List Write → ℕ → List Commit
commits_of m ws k = filter_map (of_number By.Key (commit_of m) k) ws

abbrev pub undone_writes : Limits → List Write → ℕ → List Commit
undone_writes m ws k = filter_map (of_number By.Key (undone_of m) k) ws

abbrev pub table_commits : Limits → List Write → ℕ → List Commit
table_commits m ws k = filter_map (of_number By.Table (commit_of m) k) ws

-- files by keys or by tables: each has what the writes of its number give
abbrev pub IsFiled : By → (Write → Option Commit) → List Write → List (Vec Commit Global) → Type 0
IsFiled by f ws vs =
    (k : ℕ) (d : Vec Commit Global) → k < length vs → (slice_index_or vs k d).items ≡ filter_map (of_number by f k) ws
