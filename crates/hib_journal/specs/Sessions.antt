-- Sessions over a journal. A journal is a list of entries, the newest first: what stands behind an entry is the journal before it.
use Rattle.std.specs.Prelude.{ℕ, ◌≤◌, ◌<◌, ◌^◌, min, Bool, true, false, if◌then◌else◌, ◌&&◌, ◌||◌, ◌==◌, List, [], ◌∷◌, ◌++◌, Some, None, Option}
use Rattle.std.specs.Option.{option_map_or}
use Rattle.hib_journal.specs.Types.{Key, Row, Change, Commit, Act, Reply, Part, Entry}
use Rattle.hib_base.specs.Tables.{Tables, after_changes, row_at}

abbrev pub Journal : Type 0
Journal = List Entry

-- nothing is in a list
abbrev pub is_empty : {A : Type 0} → List A → Bool
is_empty [] = true
is_empty _ = false

abbrev pub is_session : ℕ → Option ℕ → Bool
is_session s by = option_map_or (λ n. n == s) by false

abbrev pub is_by : ℕ → Entry → Bool
is_by s e = is_session s e.session

-- the entries of s
abbrev pub own : ℕ → Journal → Journal
own s [] = []
own s (e ∷ h) = if is_by s e then e ∷ own s h else own s h

abbrev pub time_after : Act → ℕ → ℕ → ℕ
time_after Act.Begin now t = now
time_after _ now t = t

-- the tick of the last Begin among one session's entries
abbrev pub time_in : Journal → ℕ
time_in [] = 0
time_in (e ∷ m) = time_after e.act e.tick (time_in m)

abbrev pub time : ℕ → Journal → ℕ
time s h = time_in (own s h)

abbrev pub floor_after : Act → Reply → ℕ → ℕ
floor_after Act.Begin (Reply.Began floor) f = floor
floor_after _ r f = f

-- the floor that the last Begin answered
abbrev pub floor_in : Journal → ℕ
floor_in [] = 0
floor_in (e ∷ m) = floor_after e.act e.reply (floor_in m)

abbrev pub changes_after : Act → List Change → List Change
changes_after Act.Begin cs = []
changes_after (Act.Write c) cs = cs ++ c ∷ []
changes_after _ cs = cs

-- the changes that one session's entries wrote since its last Begin, in order
abbrev pub changes_in : Journal → List Change
changes_in [] = []
changes_in (e ∷ m) = changes_after e.act (changes_in m)

abbrev pub changes : ℕ → Journal → List Change
changes s h = changes_in (own s h)

abbrev pub deferred_after : Act → List Change → List Change
deferred_after (Act.Write c) cs = cs ++ c ∷ []
deferred_after Act.Commit cs = []
deferred_after Act.Rollback cs = []
deferred_after _ cs = cs

-- the changes of one session that the store defers: written, and since then neither committed nor rolled back
abbrev pub deferred : Journal → List Change
deferred [] = []
deferred (e ∷ m) = deferred_after e.act (deferred m)

abbrev pub begun_after : Act → Bool → Bool
begun_after Act.Begin x = true
begun_after Act.End x = false
begun_after _ x = x

-- whether one session's entries have a Begin without an End after it
abbrev pub is_begun : Journal → Bool
is_begun [] = false
is_begun (e ∷ m) = begun_after e.act (is_begun m)

-- whether s is open after an act by `by`, if it was or was not before
abbrev pub open_after : ℕ → Option ℕ → Act → Bool → Bool
open_after s by Act.Begin o = is_session s by || o
open_after s by Act.End o = if is_session s by then false else o
open_after s by (Act.Kill n) o = if n == s then false else o
open_after s by Act.Restart o = false
open_after s by _ o = o

abbrev pub is_open : ℕ → Journal → Bool
is_open s [] = false
is_open s (e ∷ h) = open_after s e.session e.act (is_open s h)

abbrev pub killed_by : ℕ → Act → Bool → Bool
killed_by s (Act.Kill n) o = n == s
killed_by s Act.Restart o = o
killed_by s _ o = false

-- a Kill named s, or a Restart came while it was open
abbrev pub was_killed : ℕ → Journal → Bool
was_killed s [] = false
was_killed s (e ∷ h) = killed_by s e.act (is_open s h) || was_killed s h

-- the session of a Begin that is its last one and after which it stays open, in the whole journal
abbrev pub is_live : Journal → Act → Option ℕ → ℕ → Bool
is_live whole Act.Begin (Some s) tick = is_open s whole && (time s whole == tick)
is_live whole _ by tick = false

abbrev pub least_live : Journal → Journal → ℕ → ℕ
least_live whole [] now = now
least_live whole (e ∷ h) now =
    if is_live whole e.act e.session e.tick then min e.tick (least_live whole h now) else least_live whole h now

-- the least time among the open sessions and a session that begins now
abbrev pub floor : Journal → ℕ → ℕ
floor h now = least_live h h now

abbrev pub is_restart : Act → Bool
is_restart Act.Restart = true
is_restart _ = false

-- the entries since the last Restart
abbrev pub span : Journal → Journal
span [] = []
span (e ∷ h) = if is_restart e.act then [] else e ∷ span h

-- the session whose commit was answered Committed
abbrev pub committer : Act → Reply → Option ℕ → Option ℕ
committer Act.Commit (Reply.Commit Commit.Committed) by = by
committer _ _ by = None

-- the tables after each Committed entry
abbrev pub committed : Tables → Journal → Tables
committed start [] = start
committed start (e ∷ h) =
    option_map_or (λ s. after_changes (changes s h) (committed start h)) (committer e.act e.reply e.session) (committed start h)

-- the rows as s sees them: its own changes on top of the committed rows
abbrev pub views : Tables → Journal → ℕ → Tables
views start h s = after_changes (changes s h) (committed start h)

abbrev pub view : Tables → Journal → ℕ → Key → Option Row
view start h s k = row_at (views start h s) k

abbrev pub same_part : Part → Part → Bool
same_part Part.Registry Part.Registry = true
same_part Part.Store Part.Store = true
same_part Part.Stamps Part.Stamps = true
same_part Part.Results Part.Results = true
same_part (Part.Region n) (Part.Region m) = n == m
same_part (Part.Own n) (Part.Own m) = n == m
same_part _ _ = false

abbrev pub same_session : Option ℕ → Option ℕ → Bool
same_session one by = option_map_or (λ s. is_session s by) one false

-- the tick of the last entry that passes, or 0
abbrev pub last_tick : (Entry → Bool) → Journal → ℕ
last_tick p [] = 0
last_tick p (e ∷ h) = if p e then e.tick else last_tick p h

-- ticks are from 1 to 2 ^ 62, never fall, and rise within a part and within a session
pub record IsTimely (e : Entry) (h : Journal) : Type 0 where
  pub positive : 1 ≤ e.tick
  pub bounded : e.tick ≤ 2 ^ 62
  pub ordered : last_tick (λ _. true) h ≤ e.tick
  pub in_part : last_tick (λ d. same_part e.part d.part) h < e.tick
  pub in_session : last_tick (λ d. same_session e.session d.session) h < e.tick
