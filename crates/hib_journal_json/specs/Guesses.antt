-- The entry that five members look like.
use Rattle.std.specs.Prelude.{ℕ, Bool, true, false, ◌&&◌, ◌==◌, List, Option, Some, None, bytes_eq, option_map}
use Rattle.hib_journal.specs.Types.{Part, Act, Entry, Script}
use Rattle.hib_entry_fields.specs.Fields.{session_of}
use Rattle.hib_entry_texts.specs.Acts.{act_of}
use Rattle.hib_entry_texts.specs.Replies.{reply_of}
use Rattle.hib_entry_texts.specs.WellFormed.{part_of}
use Rattle.hib_json_lines.specs.Line.{LineText}

abbrev pub entry_with : Script → LineText → Option ℕ → Part → Act → Entry
entry_with script l session part act = record { tick = l.tick; session = session; part = part; act = act; reply = reply_of script act l.reply }

abbrev pub guess_with : Script → LineText → Option ℕ → Act → Option Entry
guess_with script l session act = option_map (λ (p : Part). entry_with script l session p act) (part_of act session)

-- none if the act is a session's own, and no session is named
abbrev pub guess : Script → LineText → Option Entry
guess script l = guess_with script l (option_map (session_of script) l.session) (act_of script l.part l.act)

abbrev pub same_names : Option (List ℕ) → Option (List ℕ) → Bool
same_names None None = true
same_names (Some a) (Some b) = bytes_eq a b
same_names _ _ = false

abbrev pub same_texts : LineText → LineText → Bool
same_texts a b =
    bytes_eq a.act b.act && (bytes_eq a.part b.part && (bytes_eq a.reply b.reply && (same_names a.session b.session && (a.tick == b.tick))))
