-- What ends badly: judgements of one entry over the journal before it, and of a whole journal.
use Rattle.std.specs.Prelude.{Bool, true, false, if◌then◌else◌, not, ◌&&◌, ◌||◌, List, [], ◌∷◌, length, map, slice_get, Some, None, Option, option_and_then}
use Rattle.std.specs.Option.{option_map_or, option_or}
use Rattle.std.specs.List.{list_any, range_with_len}
use Rattle.hib_journal.specs.Types.{Key, Row, Cell, Change, Commit, Checked, Outcome, Script, Act, Reply, Entry}
use Rattle.hib_base.specs.Keys.{same_key}
use Rattle.hib_base.specs.Tables.{Tables, row_at, same_version, key_of}
use Rattle.hib_journal.specs.Sessions.{Journal, own, changes, committed, committer}
use Rattle.hib_journal.specs.Legal.{outcome}
use Rattle.hib_journal.specs.Query.{gives}
use Rattle.hib_journal.specs.Held.{held, same_cells, is_begin}

abbrev pub same_row : Option Row → Row → Bool
same_row None r = false
same_row (Some q) r = same_version q.version r.version && same_cells q.cells r.cells

-- a hit answers a row that is not the committed one
abbrev pub stale_by : Tables → Act → Reply → Bool
stale_by rows (Act.Get k t) (Reply.Hit r) = not (same_row (row_at rows k) r)
stale_by rows _ _ = false

abbrev pub is_stale_hit : Tables → Journal → Entry → Bool
is_stale_hit start h e = stale_by (committed start h) e.act e.reply

-- the list that a session's last entry has found
abbrev pub found_in : Reply → List Cell
found_in (Reply.Found t l) = l
found_in _ = []

abbrev pub last_found : Journal → List Cell
last_found [] = []
last_found (e ∷ m) = found_in e.reply

-- a kept list is called fresh that is not what its query gives over the committed rows
abbrev pub old_by : Script → Tables → List Cell → Act → Reply → Bool
old_by script rows l (Act.Check q t) (Reply.Check Checked.Fresh) = option_map_or (λ d. not (same_cells l (gives d rows))) (slice_get script.queries q) false
old_by script rows l _ _ = false

abbrev pub is_old_list : Script → Tables → Journal → Entry → Bool
is_old_list script start h e = old_by script (committed start h) (option_map_or (λ s. last_found (own s h)) e.session []) e.act e.reply

abbrev pub writes_key : Key → Act → Bool
writes_key k (Act.Write c) = same_key (key_of c) k
writes_key k _ = false

-- a session's entries before its first write of a key since its last Begin
abbrev pub before_write : Key → Journal → Option Journal
before_write k [] = None
before_write k (e ∷ m) = if is_begin e.act then None else option_or (before_write k m) (if writes_key k e.act then Some m else None)

-- the row on which a session's change of a key rests
abbrev pub rests_on : Key → Journal → Option Row
rests_on k mine = option_and_then (λ m. option_and_then (λ i. i.base) (held m k)) (before_write k mine)

-- a commit that is answered committed has a change that rests on a row which is not the committed one any more. The commit of a
-- versioned row is stale then, unless the row came again with the version that the change rests on
abbrev pub is_lost_by : Tables → Journal → List Change → Bool
is_lost_by rows mine cs = list_any (λ c. option_map_or (λ r. not (same_row (row_at rows (key_of c)) r)) (rests_on (key_of c) mine) false) cs

abbrev pub is_lost_update : Tables → Journal → Entry → Bool
is_lost_update start h e = option_map_or (λ s. is_lost_by (committed start h) (own s h) (changes s h)) (committer e.act e.reply e.session) false

-- a commit is answered stale or duplicate
abbrev pub refused_by : Reply → Bool
refused_by (Reply.Commit (Commit.Stale k v)) = true
refused_by (Reply.Commit (Commit.Duplicate k)) = true
refused_by _ = false

abbrev pub is_refused_commit : Entry → Bool
is_refused_commit e = refused_by e.reply

-- an entry of a journal has it
abbrev pub has_entry : (Journal → Entry → Bool) → Journal → Bool
has_entry p [] = false
has_entry p (e ∷ h) = p h e || has_entry p h

-- how each session of a script has ended, by its number: the outcome of its last transaction
abbrev pub ending : Script → Journal → List Outcome
ending script h = map (λ s. outcome (own s h)) (range_with_len 0 (length script.sessions))
