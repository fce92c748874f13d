-- What a value's members ask for, whatever others it has.
use Rattle.std.specs.Prelude.{ℕ, Bool, true, false, List, codes, Option, Some, None, option_map, if◌then◌else◌}
use Rattle.std.specs.Option.{option_and_then, option_or}
use Rattle.serde_json.specs.Data.{Data, number, unsigned, string, boolean}
use Rattle.serde_json.specs.Find.{get, at, as_str, as_number, as_u64}
use Rattle.hib_serve_requests.specs.Requests.{IdText, text, whole, AskedText, says, goes_on, kills, evicts, restarts, ends}

abbrev pub text_at : List ℕ → Data → Option (List ℕ)
text_at key d = option_and_then as_str (get key d)

-- a text, or a whole number of 64 bits
abbrev pub id_of : Data → Option IdText
id_of (string s) = Some (text s)
id_of (number (unsigned n)) = Some (whole n)
id_of _ = None

abbrev pub id_in : Data → Option IdText
id_in d = option_and_then id_of (get (codes "id") d)

-- ---- what is asked for

abbrev pub says_with : Option (List ℕ) → Option (List ℕ) → Option AskedText
says_with (Some session) (Some statement) = Some (says session statement)
says_with _ _ = None

abbrev pub says_in : Data → Option AskedText
says_in d = says_with (text_at (codes "session") d) (text_at (codes "say") d)

abbrev pub goes_on_in : Data → Option AskedText
goes_on_in d = option_map goes_on (text_at (codes "go") d)

abbrev pub kills_in : Data → Option AskedText
kills_in d = option_map kills (text_at (codes "kill") d)

abbrev pub evicts_with : Option (List ℕ) → Option ℕ → Option AskedText
evicts_with (Some entity) (Some n) = Some (evicts entity n)
evicts_with _ _ = None

abbrev pub evicts_of : Data → Option AskedText
evicts_of d = evicts_with (option_and_then as_str (at 0 d)) (option_and_then as_u64 (option_and_then as_number (at 1 d)))

abbrev pub evicts_in : Data → Option AskedText
evicts_in d = option_and_then evicts_of (get (codes "evict") d)

abbrev pub is_true : Option Data → Bool
is_true (Some (boolean true)) = true
is_true _ = false

abbrev pub alone_in : Data → Option AskedText
alone_in d =
    if is_true (get (codes "restart") d) then Some restarts
    else (if is_true (get (codes "end") d) then Some ends else None)

abbrev pub asked_in : Data → Option AskedText
asked_in d = option_or (says_in d) (option_or (goes_on_in d) (option_or (kills_in d) (option_or (evicts_in d) (alone_in d))))
