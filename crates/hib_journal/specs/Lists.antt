-- Lists of entries read by one part: the whole journal, or the part's own entries. The entries of other parts are skipped.
use Rattle.std.specs.Prelude.{◌≡◌, ◌<◌, ◌||◌, ℕ, Bool, true, false, if◌then◌else◌, ◌==◌, List, [], ◌∷◌, Some, None, Option, unwrap_or}
use Rattle.hib_journal.specs.Types.{Change, Script, Act, Reply, Part, Entry}
use Rattle.hib_base.specs.Tables.{Tables, after_changes}
use Rattle.hib_journal.specs.Sessions.{Journal, is_session, deferred_after, committer, same_part, last_tick}
use Rattle.hib_journal.specs.Legal.{IsReplyBy, reply_by, reply_of, part_of}

-- the entries of a part
abbrev pub of_part : Part → Journal → Journal
of_part p [] = []
of_part p (e ∷ l) = if same_part p e.part then e ∷ of_part p l else of_part p l

-- an act that ends sessions from outside: each part hears of it
abbrev pub stops : Act → Bool
stops (Act.Kill n) = true
stops Act.Restart = true
stops _ = false

-- what a part sees: its entries, and each kill and restart
abbrev pub seen_by : Part → Journal → Journal
seen_by p [] = []
seen_by p (e ∷ l) = if same_part p e.part || stops e.act then e ∷ seen_by p l else seen_by p l

-- a tick is after those of a part's entries
abbrev pub IsLate : Part → ℕ → Journal → Type 0
IsLate p now l = last_tick (λ d. same_part p d.part) l < now

-- the entry of an act that was answered at a tick, of a session or from outside
abbrev pub entry_at : ℕ → Option ℕ → Act → Reply → Entry
entry_at now by a r = record { tick = now; session = by; part = part_of a (unwrap_or by 0); act = a; reply = r }

-- the reply that the definitions give over a list, whatever rows were committed
abbrev pub IsReplyOf : Script → Journal → Option ℕ → ℕ → Act → Reply → Type 0
IsReplyOf script l by now a r = (start : Tables) → r ≡ reply_of script start l (unwrap_or by 0) now a

abbrev pub unsaved_after : ℕ → Option ℕ → Act → List Change → List Change
unsaved_after s by (Act.Kill n) cs = if n == s then [] else cs
unsaved_after s by Act.Restart cs = []
unsaved_after s by a cs = if is_session s by then deferred_after a cs else cs

-- the changes of s that the store defers: written, and since then neither committed nor rolled back nor lost by a kill or a restart
abbrev pub unsaved : ℕ → Journal → List Change
unsaved s [] = []
unsaved s (e ∷ l) = unsaved_after s e.session e.act (unsaved s l)

abbrev pub stored_by : Option ℕ → Journal → Tables → Tables
stored_by None l t = t
stored_by (Some s) l t = after_changes (unsaved s l) t

-- the committed rows, by what the store deferred
abbrev pub stored : Tables → Journal → Tables
stored start [] = start
stored start (e ∷ l) = stored_by (committer e.act e.reply e.session) l (stored start l)

-- the reply that is due, by what the store deferred and stored
abbrev pub IsStoreReply : Script → Option Tables → Journal → Entry → Type 0
IsStoreReply script told l e =
    IsReplyBy told (unsaved (unwrap_or e.session 0) l)
    (λ start. reply_by script (unsaved (unwrap_or e.session 0) l) (stored start l) l (unwrap_or e.session 0) e.tick e.act) e
