-- Which entry's JSON line some bytes are, and which journal some lines are.
use Rattle.std.specs.Prelude.{◌≡◌, ℕ, zero, suc, ◌+◌, min, List, [], ◌∷◌, Some, IsUtf8}
use Rattle.std.specs.List.{AllZip}
use Rattle.serde_json.specs.Read.{read}
use Rattle.hib_base.specs.declared.refusals.Kind.{Kind}
use Rattle.hib_base.specs.declared.refusals.Refused.{Refused}
use Rattle.hib_journal.specs.Types.{Entry, Script}
pub use Rattle.hib_entry_texts.specs.WellFormed.{is_actor, is_known, IsEntry, AreEntries}
use Rattle.hib_json_lines.specs.Line.{texts, object_of}
use Rattle.hib_journal_json.specs.declared.faults.JournalFault.{JournalFault}

-- ---- lines

-- the line is text that serde_json reads as the object of a well-formed entry
pub record IsLine (script : Script) (line : List ℕ) (e : Entry) : Type 0 where
  pub text : IsUtf8 line
  pub entry : IsEntry script e
  pub object : read line ≡ Some (object_of (texts script e))

-- no entry's line
abbrev pub IsBad : Script → List ℕ → Type 0
IsBad script line = (e : Entry) → IsLine script line e → ⊥

-- each line is the entry's at its place
abbrev pub AreLines : Script → List (List ℕ) → List Entry → Type 0
AreLines script ls es = AllZip (IsLine script) ls es

-- n lines are entries', and the next one is none's
abbrev pub IsFirstBad : Script → List (List ℕ) → ℕ → Type 0
IsFirstBad script [] n = ⊥
IsFirstBad script (l ∷ ls) zero = IsBad script l
IsFirstBad script (l ∷ ls) (suc n) = ((e : Entry) × IsLine script l e) × IsFirstBad script ls n

-- ---- refusals

-- of the line after n others, if the first has a given number; a number has 32 bits
abbrev pub refused_at : ℕ → ℕ → Refused
refused_at first n = record { line = min (first + n) 4294967295; kind = Kind.Journal }

-- want of memory says nothing
abbrev pub IsRefusedAs : Refused → JournalFault → Type 0
IsRefusedAs r JournalFault.NoMemory = Unit {0}
IsRefusedAs r (JournalFault.Refused x) = x ≡ r

-- the first bad line is refused
abbrev pub IsRefused : Script → List (List ℕ) → ℕ → JournalFault → Type 0
IsRefused script lines first JournalFault.NoMemory = Unit {0}
IsRefused script lines first (JournalFault.Refused r) = (n : ℕ) × (IsFirstBad script lines n × (r ≡ refused_at first n))
