-- Which event a line is, and which lines are none.
use Rattle.std.specs.Prelude.{◌≡◌, ◌<◌, ◌+◌, ◌⊎◌, ℕ, zero, suc, List, [], ◌∷◌, Some, None, length, IsUtf8}
use Rattle.std.specs.List.{AllZip}
use Rattle.serde_json.specs.Data.{Data}
use Rattle.serde_json.specs.Read.{read}
use Rattle.hib_lex.specs.Lines.{lines_of}
use Rattle.hib_trace_lines.specs.Events.{EventText}
use Rattle.hib_trace_lines.specs.Faults.{fault_of}
use Rattle.hib_trace_lines.specs.Members.{event_of}
use Rattle.hib_trace_lines.specs.declared.faults.Fault.{Fault}
use Rattle.hib_trace_lines.specs.declared.faults.TraceError.{TraceError}

-- a line is text that serde_json reads as an object in which nothing is wrong, and which says this event
pub record IsLine (line : List ℕ) (e : EventText) : Type 0 where
  pub text : IsUtf8 line
  pub object : Data
  pub read : read line ≡ Some object
  pub right : fault_of object ≡ None
  pub event : event_of object ≡ Some e

-- a line is no JSON text, or the first thing that is wrong with it is this
pub record HasFault (line : List ℕ) (f : Fault) : Type 0 where
  pub text : IsUtf8 line
  pub object : Data
  pub read : read line ≡ Some object
  pub wrong : fault_of object ≡ Some f

abbrev pub IsBad : List ℕ → Fault → Type 0
IsBad line f = HasFault line f ⊎ ((f ≡ Fault.NotJson) × (IsUtf8 line → read line ≡ None))

-- each line is the event at its place
abbrev pub AreLines : List (List ℕ) → List EventText → Type 0
AreLines ls es = AllZip IsLine ls es

-- n lines are events, and the next one is bad in this way
abbrev pub IsFirstBad : List (List ℕ) → ℕ → Fault → Type 0
IsFirstBad [] n f = ⊥
IsFirstBad (l ∷ ls) zero f = IsBad l f
IsFirstBad (l ∷ ls) (suc n) f = ((e : EventText) × IsLine l e) × IsFirstBad ls n f

-- how many bytes a text may have: 64 MiB
abbrev pub most_bytes : ℕ
most_bytes = 67108864

-- the first bad line of a text is refused, or the text is too long; want of memory says nothing
abbrev pub IsRefused : List ℕ → TraceError → Type 0
IsRefused text TraceError.NoMemory = Unit {0}
IsRefused text TraceError.TooLong = most_bytes < length text
IsRefused text (TraceError.Refused r) = (n : ℕ) × (IsFirstBad (lines_of text) n r.fault × (r.line ≡ n + 1))

-- this line is refused in this way, or memory is wanting
abbrev pub IsRefusedAs : ℕ → Fault → TraceError → Type 0
IsRefusedAs n f TraceError.NoMemory = Unit {0}
IsRefusedAs n f TraceError.TooLong = ⊥
IsRefusedAs n f (TraceError.Refused r) = r ≡ record { line = n + 1; fault = f }
