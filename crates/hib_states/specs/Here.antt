-- The facts of an entry, by what is known before and after it.
use Rattle.std.specs.Prelude.{ℕ, true, false, if◌then◌else◌, nat_eq, nat_lt, List, [], ◌∷◌, ◌++◌, map, flat_map, slice_get, Some, None, Option, option_map, option_and_then, option_to_list}
use Rattle.std.specs.Map.{lookup}
use Rattle.std.specs.Option.{option_map_or}
use Rattle.hib_base.specs.Keys.{same_key}
use Rattle.hib_base.specs.Tables.{key_of, row_left}
use Rattle.hib_journal.specs.Types.{Key, Cell, Change, Checked, Put, Inserted, Act, Reply, Entry, Script}
use Rattle.hib_journal.specs.Results.{Result}
use Rattle.hib_journal.specs.Sessions.{committer}
use Rattle.hib_follow.specs.Deleted.{committed_at}
use Rattle.hib_follow.specs.Holders.{line_at, locked_in}
use Rattle.hib_follow.specs.declared.holders.Line.{Line}
use Rattle.hib_follow.specs.Desks.{changes_at, last_at}
use Rattle.hib_follow.specs.Marks.{Stamps, value_at, stamped_since}
use Rattle.hib_follow.specs.Newest.{tables_in}
use Rattle.hib_follow.specs.Shelves.{Shelves, kept_at, kept_slot, since_at}
use Rattle.hib_follow.specs.Touched.{touched_keys}
use Rattle.hib_follow.specs.declared.desk.Desk.{Desk}
use Rattle.hib_follow.specs.declared.known.Known.{Known}
use Rattle.hib_states.specs.Facts.{Fact}
use Rattle.hib_states.specs.States.{expired_facts, is_guarded, restart_facts}

-- ---- after an entry

-- what the changes of a session leave
abbrev pub committed_of : List Entry → Desk → List Fact
committed_of es d = map (λ c. Fact.Committed (key_of c) (option_and_then row_left (last_at es d.last.entries (key_of c)))) (changes_at d.written.items)

abbrev pub committed_here : List Entry → List Desk → Option ℕ → List Fact
committed_here es ds by = option_map_or (λ s. option_map_or (committed_of es) (slice_get ds s) []) by []

abbrev pub cached_here : List Entry → Shelves → List Key → List Fact
cached_here es m ks = map (λ k. Fact.Cached k (kept_slot es (kept_at m k))) ks

abbrev pub stamped_here : Stamps → List ℕ → List Fact
stamped_here m ts = map (λ t. Fact.Stamped t (value_at m t)) ts

-- the result that an act keeps, if any may be kept
abbrev pub kept_now : Script → ℕ → List Cell → Option Result
kept_now script t l = if nat_lt 0 script.results then Some (t, l) else None

-- and what has left for it
abbrev pub kept_here : Script → Act → Reply → List Fact
kept_here script (Act.Keep q t l) (Reply.Kept o) = Fact.Kept q (kept_now script t l) ∷ map (λ p. Fact.Kept p None) (option_to_list o)
kept_here script _ _ = []

abbrev pub time_at : List Desk → ℕ → ℕ
time_at ds s = option_map_or (λ (d : Desk). d.time) (slice_get ds s) 0

abbrev pub floor_at : List Desk → ℕ → ℕ
floor_at ds s = option_map_or (λ (d : Desk). d.floor) (slice_get ds s) 0

abbrev pub session_here : List Desk → Act → Option ℕ → List Fact
session_here ds Act.Begin (Some s) = Fact.Session s true (time_at ds s) (floor_at ds s) ∷ []
session_here ds Act.End (Some s) = Fact.Session s false (time_at ds s) (floor_at ds s) ∷ []
session_here ds (Act.Kill s) by = Fact.Session s false (time_at ds s) (floor_at ds s) ∷ []
session_here ds _ _ = []

abbrev pub written_here : Act → Option ℕ → List Fact
written_here (Act.Write c) (Some s) = Fact.Written s c ∷ []
written_here _ _ = []

abbrev pub holders_here : List (Key × Line) → Act → List Fact
holders_here m a = map (λ k. Fact.Holders k (line_at m k)) (option_to_list (locked_in a))

abbrev pub facts_here : Script → List Entry → Known → Entry → List Fact
facts_here script es x e =
    restart_facts e.act ++ (session_here x.desks.all.items e.act e.session ++ (written_here e.act e.session
    ++ (committed_here es x.desks.all.items (committer e.act e.reply e.session)
    ++ (cached_here es x.shelf.shelves.entries (touched_keys e) ++ (stamped_here x.stamps.stamps.entries (tables_in e.act)
    ++ (kept_here script e.act e.reply ++ holders_here x.holders.lines.entries e.act))))))

-- ---- before it

abbrev pub key_here : List Entry → Known → Key → List Fact
key_here es x k = Fact.KeyCause k (kept_slot es (kept_at x.shelf.shelves.entries k)) (since_at x.shelf.shelves.entries k) ∷ []

abbrev pub put_here : List Entry → Known → Key → Put → List Fact
put_here es x k (Put.Stored v late) = []
put_here es x k _ = key_here es x k

abbrev pub insert_here : List Entry → Known → Key → Inserted → List Fact
insert_here es x k (Inserted.Stored v) = []
insert_here es x k _ = key_here es x k

abbrev pub check_here : Known → Checked → List Fact
check_here x Checked.Fresh = []
check_here x (Checked.Stale t v) = Fact.TableCause t (value_at x.stamps.stamps.entries t) (stamped_since x.stamps.stamps.entries t) ∷ []

abbrev pub cause_here : List Entry → Known → Act → Reply → List Fact
cause_here es x (Act.Get k t) (Reply.Miss m) = key_here es x k
cause_here es x (Act.Put k r t f) (Reply.Put p) = put_here es x k p
cause_here es x (Act.AfterInsert k r f) (Reply.Inserted i) = insert_here es x k i
cause_here es x (Act.Check q t) (Reply.Check c) = check_here x c
cause_here es x (Act.Look q) Reply.Absent = Fact.QueryCause q (lookup (nat_eq q) x.keeps.keeps.entries) ∷ []
cause_here es x _ _ = []

abbrev pub reused_here : Script → List (Key × ℕ) → Change → List Fact
reused_here script m (Change.Insert k r) = if is_guarded script k then option_to_list (option_map (λ n. Fact.Unsound k (Some n)) (lookup (same_key k) m)) else []
reused_here script m _ = []

abbrev pub unsound_here : Script → Known → Entry → List Fact
unsound_here script x e =
    expired_facts script e
    ++ flat_map (reused_here script x.deleted.numbers.entries) (committed_at x.desks.all.items (committer e.act e.reply e.session))
