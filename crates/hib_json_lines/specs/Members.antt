-- The members that a value has, whatever others it has.
use Rattle.std.specs.Prelude.{ℕ, List, codes, Some, None, Option}
use Rattle.std.specs.Option.{option_and_then}
use Rattle.serde_json.specs.Data.{Data, string, null}
use Rattle.serde_json.specs.Find.{get, as_str, as_number, as_u64}
use Rattle.hib_json_lines.specs.Line.{LineText}

abbrev pub text_at : List ℕ → Data → Option (List ℕ)
text_at key d = option_and_then as_str (get key d)

abbrev pub session_in : Data → Option (Option (List ℕ))
session_in null = Some None
session_in (string name) = Some (Some name)
session_in _ = None

abbrev pub session_at : Data → Option (Option (List ℕ))
session_at d = option_and_then session_in (get (codes "session") d)

abbrev pub tick_at : Data → Option ℕ
tick_at d = option_and_then as_u64 (option_and_then as_number (get (codes "tick") d))

abbrev pub line_with : Option (List ℕ) → Option (List ℕ) → Option (List ℕ) → Option (Option (List ℕ)) → Option ℕ → Option LineText
line_with (Some act) (Some part) (Some reply) (Some session) (Some tick) = Some (record { act = act; part = part; reply = reply; session = session; tick = tick })
line_with _ _ _ _ _ = None

abbrev pub fields_of : Data → Option LineText
fields_of d = line_with (text_at (codes "act") d) (text_at (codes "part") d) (text_at (codes "reply") d) (session_at d) (tick_at d)
