-- The objects of the answers, and their texts.
use Rattle.std.specs.Prelude.{ℕ, List, map, codes, Bool, true, false, Option, Some, None}
use Rattle.serde_json.specs.Data.{Data, string, array, object, Members, no_members, member}
use Rattle.serde_json.specs.View.{items_of}
use Rattle.serde_json.specs.Written.{compact_text}
use Rattle.hib_journal.specs.Types.{Entry, Script}
use Rattle.hib_json_lines.specs.Line.{object_of, texts}
use Rattle.hib_serve_requests.specs.Requests.{IdText, id_data}
use Rattle.hib_serve_answers.specs.Refusals.{word_of, why_of}
use Rattle.hib_serve_answers.specs.declared.refusals.Refusal.{Refusal}

-- before some members the request's id, if it has one, and a text, if there is one
abbrev pub and_id : Option IdText → Members → Members
and_id None ms = ms
and_id (Some i) ms = member (codes "id") (id_data i) ms

abbrev pub and_text : List ℕ → Option (List ℕ) → Members → Members
and_text key None ms = ms
and_text key (Some s) ms = member key (string s) ms

-- ---- what a request added

-- whether steps are left, since memory ran out in them
abbrev pub stop : Bool → Option (List ℕ)
stop false = None
stop true = Some (codes "memory")

-- each entry with the members of its line of JSON
abbrev pub entries_data : Script → List Entry → Data
entries_data script es = array (items_of (map (λ e. object_of (texts script e)) es))

abbrev pub done_object : Script → Option IdText → Option (List ℕ) → List Entry → Bool → Data
done_object script i session es stopped =
    object (member (codes "answers") (entries_data script es)
    (and_id i (and_text (codes "session") session (and_text (codes "stopped") (stop stopped) no_members))))

-- ---- a refusal

abbrev pub refused_object : Option IdText → Refusal → Data
refused_object i r =
    object (and_id i (member (codes "refused") (string (word_of r)) (and_text (codes "why") (why_of r) no_members)))

-- ---- their texts, as serde_json writes them, without a line feed

unfoldable pub done_text : Script → Option IdText → Option (List ℕ) → List Entry → Bool → List ℕ
done_text script i session es stopped = compact_text (done_object script i session es stopped)

unfoldable pub refused_text : Option IdText → Refusal → List ℕ
refused_text i r = compact_text (refused_object i r)
