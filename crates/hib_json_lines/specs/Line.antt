-- The JSON line of an entry.
use Rattle.std.specs.Prelude.{ℕ, List, codes, Some, None, Option, ◌++◌, flat_map, option_map}
use Rattle.json.specs.Print.{quoted}
use Rattle.serde_json.specs.Data.{Data, string, number, unsigned, null, object, member, no_members}
use Rattle.serde_json.specs.Written.{compact_text}
use Rattle.hib_journal.specs.Types.{Entry, Script}
use Rattle.hib_report.specs.Lines.{act_text, part_text, reply_text}
use Rattle.hib_texts.specs.Texts.{session_text}

-- an entry as texts, and its tick
pub record LineText : Type 0 where
  pub act : List ℕ
  pub part : List ℕ
  pub reply : List ℕ
  pub session : Option (List ℕ)
  pub tick : ℕ

-- as in the report
abbrev pub texts : Script → Entry → LineText
texts script e = record {
  act = act_text script e.act;
  part = part_text e.part;
  reply = reply_text script e.reply;
  session = option_map (session_text script) e.session;
  tick = e.tick;
}

-- no session is null
abbrev pub session_data : Option (List ℕ) → Data
session_data None = null
session_data (Some name) = string name

-- the object with exactly these five members
abbrev pub object_of : LineText → Data
object_of l =
    object (member (codes "act") (string l.act) (member (codes "part") (string l.part) (member (codes "reply") (string l.reply)
    (member (codes "session") (session_data l.session) (member (codes "tick") (number (unsigned l.tick)) no_members)))))

-- the value of that member, as it is written
abbrev pub session_value : Script → Option ℕ → List ℕ
session_value script None = codes "null"
session_value script (Some s) = quoted (session_text script s)

-- what serde_json writes for it, without a line feed
unfoldable pub json_line : Script → Entry → List ℕ
json_line script e = compact_text (object_of (texts script e))

-- the lines of entries, each with a line feed
abbrev pub json_lines : Script → List Entry → List ℕ
json_lines script es = flat_map (λ e. json_line script e ++ codes "\n") es
