-- Tables: a finite map from keys to rows, as its entries in order of keys. What a change does to them.
use Rattle.std.specs.Prelude.{ℕ, Bool, true, false, if◌then◌else◌, ◌&&◌, nat_eq, List, [], ◌∷◌, Some, None, Option, unwrap_or, option_map}
use Rattle.std.specs.Option.{option_eq, option_map_or, option_or}
use Rattle.hib_base.specs.Types.{Key, Row, Change, Commit}
use Rattle.hib_base.specs.Keys.{same_key, is_before}

abbrev pub Tables : Type 0
Tables = List (Key × Row)

-- the row of a key, or none
abbrev pub row_at : Tables → Key → Option Row
row_at [] k = None
row_at (e ∷ es) k = if same_key e.0 k then Some e.1 else row_at es k

-- the tables in which k has row r
abbrev pub with_row : Tables → Key → Row → Tables
with_row [] k r = (k, r) ∷ []
with_row (e ∷ es) k r =
    if same_key e.0 k then (k, r) ∷ es else (if is_before k e.0 then (k, r) ∷ e ∷ es else e ∷ with_row es k r)

-- the tables in which k has no row
abbrev pub without_row : Tables → Key → Tables
without_row [] k = []
without_row (e ∷ es) k = if same_key e.0 k then without_row es k else e ∷ without_row es k

abbrev pub unless_there : Tables → Key → Row → Option Row → Tables
unless_there kept k r None = with_row kept k r
unless_there kept k r (Some old) = kept

-- each of some rows is placed if its key has none
abbrev pub with_absent : Tables → Tables → Tables
with_absent kept [] = kept
with_absent kept (e ∷ es) = with_absent (unless_there kept e.0 e.1 (row_at kept e.0)) es

abbrev pub key_of : Change → Key
key_of (Change.Insert k r) = k
key_of (Change.Update k v r) = k
key_of (Change.Delete k v) = k

-- the row that a change leaves
abbrev pub row_left : Change → Option Row
row_left (Change.Insert k r) = Some r
row_left (Change.Update k v r) = Some r
row_left (Change.Delete k v) = None

abbrev pub tables_with : Tables → Key → Option Row → Tables
tables_with t k row = option_map_or (λ r. with_row t k r) row (without_row t k)

-- the tables after one change, and after a list of changes
abbrev pub after_change : Change → Tables → Tables
after_change c t = tables_with t (key_of c) (row_left c)

abbrev pub after_changes : List Change → Tables → Tables
after_changes [] t = t
after_changes (c ∷ cs) t = after_changes cs (after_change c t)

abbrev pub same_version : Option ℕ → Option ℕ → Bool
same_version v w = option_eq nat_eq v w

abbrev pub version_in : Option Row → Option ℕ
version_in None = None
version_in (Some r) = r.version

abbrev pub unless_expected : Key → Option ℕ → Option Row → Option Commit
unless_expected k v None = Some (Commit.Stale k None)
unless_expected k v (Some r) = if same_version v r.version then None else Some (Commit.Stale k r.version)

-- the answer to a change that does not apply, or none if it does
abbrev pub refusal : Change → Tables → Option Commit
refusal (Change.Insert k r) t = option_map (λ _. Commit.Duplicate k) (row_at t k)
refusal (Change.Update k v r) t = unless_expected k v (row_at t k)
refusal (Change.Delete k v) t = unless_expected k v (row_at t k)

-- the answer to a whole list: the first change that does not apply decides
abbrev pub commit_answer : List Change → Tables → Commit
commit_answer [] t = Commit.Committed
commit_answer (c ∷ cs) t = unwrap_or (refusal c t) (commit_answer cs (after_change c t))

-- the last change on k in a list
abbrev pub last_on : Key → List Change → Option Change
last_on k [] = None
last_on k (c ∷ cs) = option_or (last_on k cs) (if same_key (key_of c) k then Some c else None)

abbrev pub first_on : Key → List Change → Option Change
first_on k [] = None
first_on k (c ∷ cs) = if same_key (key_of c) k then Some c else first_on k cs

abbrev pub is_first : Key → Tables → Bool
is_first k [] = true
is_first k (e ∷ es) = is_before k e.0

-- each key once, in order of keys: what makes a list of rows a finite map
abbrev pub in_order : Tables → Bool
in_order [] = true
in_order (e ∷ es) = is_first e.0 es && in_order es
