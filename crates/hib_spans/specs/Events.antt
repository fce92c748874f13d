-- The events of a trace for Perfetto, each with what stands before it.
use Rattle.std.specs.Prelude.{ℕ, List, ◌+◌, ◌++◌, codes, Option, Some, None}
use Rattle.std.specs.Fmt.{decimal}
use Rattle.json.specs.Print.{quoted}
use Rattle.hib_journal.specs.Types.{Key, Act, Entry, Part, Reply, Script}
use Rattle.hib_report.specs.Lines.{act_text, part_text, reply_text}
use Rattle.hib_texts.specs.Texts.{key_text, session_text}

-- 0 for what comes from outside, and then each session's
abbrev pub track_of : Option ℕ → ℕ
track_of None = 0
track_of (Some s) = s + 1

abbrev pub track_name : Script → Option ℕ → List ℕ
track_name script None = codes "schedule"
track_name script (Some s) = session_text script s

-- when and where; with these the object ends
abbrev pub place_text : ℕ → ℕ → List ℕ
place_text tick track = codes ",\"ts\":" ++ decimal tick ++ codes ",\"pid\":1,\"tid\":" ++ decimal track ++ codes "}"

-- the name of a track
abbrev pub track_text : List ℕ → ℕ → List ℕ
track_text name track =
    (codes ",\n{\"name\":\"thread_name\",\"ph\":\"M\",\"pid\":1,\"tid\":" ++ decimal track) ++ codes ",\"args\":{\"name\":" ++ quoted name ++ codes "}}"

-- what a step does, and on which part
abbrev pub step_text : Script → Act → Part → List ℕ
step_text script a p = codes ",\n{\"name\":" ++ quoted (act_text script a) ++ codes ",\"cat\":" ++ quoted (part_text p)

-- that it is a mark, and what was answered
abbrev pub answer_text : Script → Reply → List ℕ
answer_text script r = codes ",\"ph\":\"i\",\"s\":\"t\",\"args\":{\"reply\":" ++ quoted (reply_text script r) ++ codes "}"

abbrev pub mark_text : Script → Entry → List ℕ
mark_text script e = step_text script e.act e.part ++ answer_text script e.reply ++ place_text e.tick (track_of e.session)

-- a transaction begins or ends
abbrev pub transaction_text : List ℕ → ℕ → ℕ → List ℕ
transaction_text phase tick track =
    codes ",\n{\"name\":\"transaction\",\"cat\":\"transaction\",\"ph\":\"" ++ phase ++ codes "\"" ++ place_text tick track

-- what tells a lock from others that are held at the same time: its key and its session
abbrev pub holder_text : Key → ℕ → List ℕ
holder_text k track = (codes "\",\"id\":\"" ++ decimal k.entity) ++ (codes "." ++ decimal k.id) ++ (codes "." ++ decimal track) ++ codes "\""

abbrev pub named_lock : Script → List ℕ → Key → List ℕ
named_lock script phase k = codes ",\n{\"name\":" ++ quoted (codes "lock " ++ key_text script k) ++ codes ",\"cat\":\"lock\",\"ph\":\"" ++ phase

-- a lock begins or ends
abbrev pub lock_text : Script → List ℕ → Key → ℕ → ℕ → List ℕ
lock_text script phase k tick track = named_lock script phase k ++ holder_text k track ++ place_text tick track
