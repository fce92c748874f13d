-- Whether what is written of a script may be read again.
use Rattle.std.specs.Prelude.{ℕ, Bool, ◌&&◌, List, is_ok, length, nat_le}
use Rattle.hib_script.specs.Script.{script_of}
use Rattle.hib_call.specs.Limits.{max_script}

-- a text is a script's: it has no more bytes than a script may have, and the reader takes each of its lines
unfoldable pub is_script : List ℕ → Bool
is_script text = nat_le (length text) max_script && is_ok (script_of text)
