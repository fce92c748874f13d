-- Verdicts: what a keeper answers to a batch of changes.
use Rattle.std.specs.Prelude.{ℕ, ◌+◌, ◌<◌, true, false, if◌then◌else◌, List, [], ◌∷◌, slice_get, Some, None, Option}
use Rattle.hib_outside.specs.Types.{Row, Change, Commit}
use Rattle.hib_base.specs.Tables.{Tables, row_at, after_change, after_changes, key_of, same_version}
use Rattle.hib_outside.specs.declared.keeper.Applied.{Applied}

abbrev pub unless_as_expected : ℕ → Option ℕ → Option Row → Option Applied
unless_as_expected at v None = Some (Applied.Stale at None false)
unless_as_expected at v (Some r) = if same_version v r.version then None else Some (Applied.Stale at r.version true)

abbrev pub unless_free : ℕ → Option Row → Option Applied
unless_free at None = None
unless_free at (Some r) = Some (Applied.Duplicate at)

-- what is answered to a change at a place that meets this row and does not apply; none if it does
abbrev pub refused_at : ℕ → Change → Option Row → Option Applied
refused_at at (Change.Insert k r) found = unless_free at found
refused_at at (Change.Update k v r) found = unless_as_expected at v found
refused_at at (Change.Delete k v) found = unless_as_expected at v found

abbrev pub or_verdict : Option Applied → Applied → Applied
or_verdict None a = a
or_verdict (Some b) a = b

-- the answer to changes of which the first stands at a place: the first that does not apply decides
abbrev pub verdict : Tables → List Change → ℕ → Applied
verdict t [] at = Applied.Done
verdict t (c ∷ cs) at = or_verdict (refused_at at c (row_at t (key_of c))) (verdict (after_change c t) cs (at + 1))

-- the tables after an answer
abbrev pub after_applied : Applied → List Change → Tables → Tables
after_applied Applied.Done cs t = after_changes cs t
after_applied (Applied.Stale at found there) cs t = t
after_applied (Applied.Duplicate at) cs t = t

-- the place that an answer names is one of n
abbrev pub IsPlace : Applied → ℕ → Type 0
IsPlace Applied.Done n = Unit {0}
IsPlace (Applied.Stale at found there) n = at < n
IsPlace (Applied.Duplicate at) n = at < n

abbrev pub stale_on : Option ℕ → Option Change → Commit
stale_on found (Some c) = Commit.Stale (key_of c) found
stale_on found None = Commit.Fault

abbrev pub duplicate_on : Option Change → Commit
duplicate_on (Some c) = Commit.Duplicate (key_of c)
duplicate_on None = Commit.Fault

-- the answer of a commit that a keeper's answer makes, with the key of the change at the place that it names
abbrev pub commit_of : List Change → Applied → Commit
commit_of cs Applied.Done = Commit.Committed
commit_of cs (Applied.Stale at found there) = stale_on found (slice_get cs at)
commit_of cs (Applied.Duplicate at) = duplicate_on (slice_get cs at)
