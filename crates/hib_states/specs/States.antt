-- The state after each entry, by what may differ from the state before it; and why an entry was refused. All is by the definitions.
use Rattle.std.specs.Prelude.{ℕ, ◌+◌, Bool, if◌then◌else◌, not, ◌&&◌, List, [], ◌∷◌, ◌++◌, length, map, flat_map, drop, Some, None, Option, option_map, option_to_list}
use Rattle.std.specs.List.{filter}
use Rattle.std.specs.Option.{option_map_or}
use Rattle.hib_base.specs.Tables.{Tables, key_of, row_at}
use Rattle.hib_journal.specs.Types.{Key, Row, Change, Act, Reply, Entry, Script, Put, Inserted, Checked}
use Rattle.hib_journal.specs.Sessions.{Journal, own, time, floor_in, changes, committer, committed, is_open}
use Rattle.hib_journal.specs.Slot.{key_in, touch_here}
use Rattle.hib_journal.specs.Next.{strategy}
use Rattle.hib_journal.specs.Coherence.{holders}
use Rattle.hib_journal.specs.Held.{held, is_break}
use Rattle.hib_journal.specs.Legal.{row_of}
use Rattle.hib_journal.specs.Sound.{leaves_calm}
use Rattle.hib_report.specs.Unsound.{is_read_write}
use Rattle.hib_journal.specs.Stamps.{stamp}
use Rattle.hib_journal.specs.Results.{result}
use Rattle.hib_follow.specs.Cached.{cached}
use Rattle.hib_follow.specs.Deleted.{last_deleted}
use Rattle.hib_follow.specs.Holders.{locked_in}
use Rattle.hib_follow.specs.Newest.{tables_in, last_touch, last_stamp, last_keep}
use Rattle.hib_follow.specs.Touched.{touched_keys}
use Rattle.hib_states.specs.Facts.{Fact}
use Rattle.hib_states.specs.Texts.{fact_text}

-- ---- the state after an entry that follows a journal

-- the row of each key that a commit has changed
abbrev pub committed_by : Tables → Journal → Entry → ℕ → List Fact
committed_by start h e s = map (λ c. Fact.Committed (key_of c) (row_at (committed start (e ∷ h)) (key_of c))) (changes s h)

abbrev pub committed_facts : Tables → Journal → Entry → List Fact
committed_facts start h e = option_map_or (committed_by start h e) (committer e.act e.reply e.session) []

-- what each key has that the entry has touched
abbrev pub cached_facts : Script → Journal → Entry → List Fact
cached_facts script h e = map (λ k. Fact.Cached k (cached script k (e ∷ h))) (touched_keys e)

abbrev pub stamped_facts : Script → Journal → Entry → List Fact
stamped_facts script h e = map (λ t. Fact.Stamped t (stamp script.timeout t (e ∷ h))) (tables_in e.act)

-- the query whose result is kept, and the one whose result has left for it
abbrev pub queries_in : Act → Reply → List ℕ
queries_in (Act.Keep q t l) (Reply.Kept o) = q ∷ option_to_list o
queries_in _ _ = []

abbrev pub kept_facts : Script → Journal → Entry → List Fact
kept_facts script h e = map (λ q. Fact.Kept q (result script.results q (e ∷ h))) (queries_in e.act e.reply)

-- the session that begins, ends or is killed
abbrev pub sessions_in : Act → Option ℕ → List ℕ
sessions_in Act.Begin by = option_to_list by
sessions_in Act.End by = option_to_list by
sessions_in (Act.Kill s) by = s ∷ []
sessions_in _ by = []

abbrev pub session_fact : Journal → ℕ → Fact
session_fact h s = Fact.Session s (is_open s h) (time s h) (floor_in (own s h))

abbrev pub session_facts : Journal → Entry → List Fact
session_facts h e = map (session_fact (e ∷ h)) (sessions_in e.act e.session)

-- the change that the session has written
abbrev pub written_by : Journal → Entry → ℕ → List Fact
written_by h e s = map (Fact.Written s) (drop (length (changes s h)) (changes s (e ∷ h)))

abbrev pub written_facts : Journal → Entry → List Fact
written_facts h e = option_map_or (written_by h e) e.session []

abbrev pub restart_facts : Act → List Fact
restart_facts Act.Restart = Fact.Restarted ∷ []
restart_facts _ = []

-- who holds the key whose lock the entry takes or gives back
abbrev pub holders_facts : Journal → Entry → List Fact
holders_facts h e = map (λ k. Fact.Holders k (holders k (e ∷ h))) (option_to_list (locked_in e.act))

-- the key of which a session has another copy by its act
abbrev pub copied_in : Act → Reply → Option Key
copied_in (Act.Get k t) (Reply.Hit r) = Some k
copied_in (Act.Load k) (Reply.Row (Some r)) = Some k
copied_in (Act.Persist k r) Reply.New = Some k
copied_in (Act.Set k cells) Reply.Set = Some k
copied_in (Act.Remove k) Reply.Removed = Some k
copied_in (Act.Write c) r = Some (key_of c)
copied_in _ r = None

-- what a session has of it
abbrev pub copied_by : Journal → ℕ → Option Key → List Fact
copied_by h s o = map (λ k. Fact.Copied s k (row_of (held (own s h) k))) (option_to_list o)

abbrev pub emptied_by : Act → Reply → ℕ → List Fact
emptied_by a r s = if is_break a r then Fact.Emptied s ∷ [] else []

abbrev pub copied_facts : Journal → Entry → List Fact
copied_facts h e = option_map_or (λ s. copied_by (e ∷ h) s (copied_in e.act e.reply) ++ emptied_by e.act e.reply s) e.session []

-- ---- the read-write keys that aren't sound from the entry on, over the journal before it

abbrev pub is_guarded : Script → Key → Bool
is_guarded script k = is_read_write (strategy script k.entity)

-- the key that the entry names, if a lock on it had run out
abbrev pub expired_facts : Script → Entry → List Fact
expired_facts script e =
    map (λ k. Fact.Unsound k None) (filter (λ k. is_guarded script k && not (leaves_calm (touch_here e.act e.reply))) (option_to_list (key_in e.act)))

-- the keys that a commit inserts after one had deleted them
abbrev pub reused_by : Script → Journal → Change → List Fact
reused_by script h (Change.Insert k r) = if is_guarded script k then option_to_list (option_map (λ n. Fact.Unsound k (Some n)) (last_deleted k h)) else []
reused_by script h _ = []

abbrev pub reused_facts : Script → Journal → Entry → List Fact
reused_facts script h e = option_map_or (λ s. flat_map (reused_by script h) (changes s h)) (committer e.act e.reply e.session) []

abbrev pub unsound_facts : Script → Journal → Entry → List Fact
unsound_facts script h e = expired_facts script e ++ reused_facts script h e

-- ---- why the entry was refused, over the journal before it

abbrev pub key_cause : Script → Journal → Key → List Fact
key_cause script h k = Fact.KeyCause k (cached script k h) (last_touch k h) ∷ []

abbrev pub put_cause : Script → Journal → Key → Put → List Fact
put_cause script h k (Put.Stored v late) = []
put_cause script h k _ = key_cause script h k

abbrev pub insert_cause : Script → Journal → Key → Inserted → List Fact
insert_cause script h k (Inserted.Stored v) = []
insert_cause script h k _ = key_cause script h k

abbrev pub table_cause : Script → Journal → ℕ → List Fact
table_cause script h t = Fact.TableCause t (stamp script.timeout t h) (last_stamp t h) ∷ []

abbrev pub query_cause : Journal → ℕ → List Fact
query_cause h q = Fact.QueryCause q (last_keep q h) ∷ []

abbrev pub check_cause : Script → Journal → Checked → List Fact
check_cause script h Checked.Fresh = []
check_cause script h (Checked.Stale t v) = table_cause script h t

abbrev pub cause_in : Script → Journal → Act → Reply → List Fact
cause_in script h (Act.Get k t) (Reply.Miss m) = key_cause script h k
cause_in script h (Act.Put k r t f) (Reply.Put p) = put_cause script h k p
cause_in script h (Act.AfterInsert k r f) (Reply.Inserted i) = insert_cause script h k i
cause_in script h (Act.Check q t) (Reply.Check c) = check_cause script h c
cause_in script h (Act.Look q) Reply.Absent = query_cause h q
cause_in script h _ _ = []

-- ---- all of it

abbrev pub facts_after : Script → Tables → Journal → Entry → List Fact
facts_after script start h e =
    restart_facts e.act ++ (session_facts h e ++ (written_facts h e ++ (committed_facts start h e
    ++ (cached_facts script h e ++ (stamped_facts script h e ++ (kept_facts script h e ++ holders_facts h e))))))

abbrev pub facts : Script → Tables → Journal → Entry → List Fact
facts script start h e = cause_in script h e.act e.reply ++ (unsound_facts script h e ++ (facts_after script start h e ++ copied_facts h e))

-- a line for each, with the entry's number in the journal
abbrev pub entry_text : Script → Tables → Journal → Entry → List ℕ
entry_text script start h e = fact_text script (length h + 1) (facts script start h e)

-- of each entry of a journal, the oldest first
abbrev pub states_text : Script → Tables → Journal → List ℕ
states_text script start [] = []
states_text script start (e ∷ h) = states_text script start h ++ entry_text script start h e
