-- What a line asks for, and why a line asks for nothing.
use Rattle.std.specs.Prelude.{◌≡◌, ◌<◌, ◌≤◌, ◌||◌, ℕ, List, codes, length, bytes_eq, Bool, string_bytes, IsUtf8, Option, Some, None, option_map, if◌then◌else◌}
use Rattle.serde_json.specs.Data.{Data, object, Members, no_members, member}
use Rattle.serde_json.specs.Read.{read}
use Rattle.hib_serve_requests.specs.Members.{id_in}
use Rattle.hib_serve_requests.specs.Requests.{IdText, AskedText, id_text, asked_text, object_of}
use Rattle.hib_serve_requests.specs.declared.requests.Asked.{Asked}
use Rattle.hib_serve_requests.specs.declared.requests.Fault.{Fault}
use Rattle.hib_serve_requests.specs.declared.requests.Id.{Id}

-- how many bytes a line may have: 64 KiB
abbrev pub most_bytes : ℕ
most_bytes = 65536

-- a line isn't too long, and is UTF-8 text that serde_json reads as this
pub record Reads (line : List ℕ) (d : Data) : Type 0 where
  pub short : length line ≤ most_bytes
  pub text : IsUtf8 line
  pub read : read line ≡ Some d

-- it asks for this, and its answer is told apart by this: it is the request's object, with no other member
abbrev pub Asks : List ℕ → Option Id → Asked → Type 0
Asks line i a = Reads line (object_of (option_map id_text i) (asked_text a))

-- the names of the members that requests have
abbrev pub is_known : List ℕ → Bool
is_known k =
    bytes_eq k (codes "id") || bytes_eq k (codes "session") || bytes_eq k (codes "say") || bytes_eq k (codes "go") || bytes_eq k (codes "kill") ||
    bytes_eq k (codes "evict") || bytes_eq k (codes "restart") || bytes_eq k (codes "end")

-- the first name that no request has
abbrev pub first_unknown : Members → Option (List ℕ)
first_unknown no_members = None
first_unknown (member k d ms) = if is_known k then first_unknown ms else Some k

-- the members are those of no request
abbrev pub AreOfNone : Members → Type 0
AreOfNone ms = (first_unknown ms ≡ None) × ((i : Option IdText) (a : AskedText) → object ms ≡ object_of i a → ⊥)

-- what is wrong with the members of an object
abbrev pub IsWrong : Members → Fault → Type 0
IsWrong ms Fault.Long = ⊥
IsWrong ms Fault.NotAnObject = ⊥
IsWrong ms (Fault.Unknown name) = first_unknown ms ≡ Some (string_bytes name)
IsWrong ms Fault.Members = AreOfNone ms

-- a line is an object with these members, of which this is wrong. Its answer is told apart by its id, if that is of its form
pub record IsObject (line : List ℕ) (i : Option Id) (f : Fault) : Type 0 where
  pub members : Members
  pub reads : Reads line (object members)
  pub wrong : IsWrong members f
  pub id : option_map id_text i ≡ id_in (object members)

-- it is refused so
abbrev pub IsFault : List ℕ → Option Id → Fault → Type 0
IsFault line i Fault.Long = (most_bytes < length line) × (i ≡ None)
IsFault line i Fault.NotAnObject = (length line ≤ most_bytes) × (((ms : Members) → Reads line (object ms) → ⊥) × (i ≡ None))
IsFault line i f = IsObject line i f
