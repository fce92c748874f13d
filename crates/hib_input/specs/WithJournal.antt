-- The input of an audit: the lines of a script, the line `journal`, and the JSON lines of a journal.
use Rattle.std.specs.Prelude.{◌≡◌, ◌⊎◌, ℕ, ◌+◌, List, [], length, codes, Option, Some, None, Ok, Err}
use Rattle.hib_base.specs.declared.refusals.Kind.{Kind}
use Rattle.hib_base.specs.declared.refusals.Refused.{Refused}
use Rattle.hib_journal.specs.Types.{Script, Entry}
use Rattle.hib_lex.specs.Lines.{lines_of}
use Rattle.hib_script.specs.Outline.{Outline, outline_of}
use Rattle.hib_journal_json.specs.Entries.{AreLines, IsRefused}
use Rattle.hib_journal_json.specs.declared.faults.JournalFault.{JournalFault}
use Rattle.hib_input.specs.Cut.{TextLines, cut, script_of_lines, unmarked}
use Rattle.hib_script.specs.declared.errors.ScriptError.{ScriptError}

-- where the script ends
abbrev pub cut_off : List ℕ → Option (TextLines × TextLines)
cut_off text = cut (codes "journal") (lines_of text)

-- the script, and the entries whose JSON lines come after it
abbrev pub IsCutInto : Option (TextLines × TextLines) → Script → List Entry → Type 0
IsCutInto None script es = ⊥
IsCutInto (Some c) script es = (script_of_lines c.0 ≡ Ok (outline_of script)) × AreLines script c.1 es

abbrev pub IsInput : List ℕ → Script → List Entry → Type 0
IsInput text script es = IsCutInto (cut_off text) script es

-- the first bad line
abbrev pub IsCutBad : TextLines → Option (TextLines × TextLines) → Refused → Type 0
IsCutBad ls None r = r ≡ unmarked Kind.Journal (length ls) (script_of_lines ls)
IsCutBad ls (Some c) r =
    (script_of_lines c.0 ≡ Err r)
    ⊎ ((script : Script) × ((script_of_lines c.0 ≡ Ok (outline_of script)) × IsRefused script c.1 (length c.0 + 2) (JournalFault.Refused r)))

abbrev pub IsBadInput : List ℕ → Refused → Type 0
IsBadInput text r = IsCutBad (lines_of text) (cut_off text) r

abbrev pub IsRefusedBehind : Script → TextLines → ℕ → ScriptError → Type 0
IsRefusedBehind script behind first ScriptError.NoMemory = Unit {0}
IsRefusedBehind script behind first (ScriptError.Refused r) = IsRefused script behind first (JournalFault.Refused r)

abbrev pub IsBadCut : TextLines → TextLines → ScriptError → Type 0
IsBadCut before behind ScriptError.NoMemory = Unit {0}
IsBadCut before behind (ScriptError.Refused r) = IsCutBad [] (Some (before, behind)) r

-- want of memory says nothing
abbrev pub IsWhere : List ℕ → ScriptError → Type 0
IsWhere text ScriptError.NoMemory = Unit {0}
IsWhere text (ScriptError.Refused r) = IsBadInput text r

-- the lines after the script are entries', whatever script it is that says this
pub record IsWholeInput (text : List ℕ) : Type 0 where
  pub before : TextLines
  pub behind : TextLines
  pub cut : cut_off text ≡ Some (before, behind)
  pub said : Outline
  pub is : script_of_lines before ≡ Ok said
  pub lines : (script : Script) → outline_of script ≡ said → (es : List Entry) × AreLines script behind es
