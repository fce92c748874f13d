-- The object of a request.
use Rattle.std.specs.Prelude.{ℕ, true, List, codes, string_bytes, Option, Some, None}
use Rattle.serde_json.specs.Data.{Data, boolean, number, unsigned, string, array, object, no_items, item, Members, no_members, member, put}
use Rattle.hib_serve_requests.specs.declared.requests.Asked.{Asked}
use Rattle.hib_serve_requests.specs.declared.requests.Id.{Id}

-- as contracts see it: texts are bytes
pub data IdText : Type 0 where
  text : List ℕ → IdText
  whole : ℕ → IdText

pub data AskedText : Type 0 where
  says : List ℕ → List ℕ → AskedText
  goes_on : List ℕ → AskedText
  kills : List ℕ → AskedText
  evicts : List ℕ → ℕ → AskedText
  restarts : AskedText
  ends : AskedText

abbrev pub id_text : Id → IdText
id_text (Id.Text s) = text (string_bytes s)
id_text (Id.Number n) = whole n

abbrev pub asked_text : Asked → AskedText
asked_text (Asked.Say session statement) = says (string_bytes session) (string_bytes statement)
asked_text (Asked.GoOn session) = goes_on (string_bytes session)
asked_text (Asked.Kill session) = kills (string_bytes session)
asked_text (Asked.Evict entity n) = evicts (string_bytes entity) n
asked_text Asked.Restart = restarts
asked_text Asked.End = ends

-- ---- its members

abbrev pub members_of : AskedText → Members
members_of (says session statement) = member (codes "say") (string statement) (member (codes "session") (string session) no_members)
members_of (goes_on session) = member (codes "go") (string session) no_members
members_of (kills session) = member (codes "kill") (string session) no_members
members_of (evicts entity n) = member (codes "evict") (array (item (string entity) (item (number (unsigned n)) no_items))) no_members
members_of restarts = member (codes "restart") (boolean true) no_members
members_of ends = member (codes "end") (boolean true) no_members

abbrev pub id_data : IdText → Data
id_data (text s) = string s
id_data (whole n) = number (unsigned n)

-- the members, with the id among them if there is one
abbrev pub with_id : Option IdText → Members → Members
with_id None ms = ms
with_id (Some i) ms = put (codes "id") (id_data i) ms

abbrev pub object_of : Option IdText → AskedText → Data
object_of i a = object (with_id i (members_of a))
