-- What an audit says of a journal: that it is legal, or which entry is the first that is not, and by which of its points.
use Rattle.std.specs.Prelude.{◌≡◌, ℕ, ◌+◌, ◌∷◌, ◌++◌, length, Some}
use Rattle.hib_base.specs.Tables.{Tables}
use Rattle.hib_journal.specs.Types.{Script, Entry}
use Rattle.hib_journal.specs.Sessions.{Journal}
use Rattle.hib_journal.specs.Legal.{IsLegal}
use Rattle.hib_law.specs.Hits.{AreListsGiven}
use Rattle.hib_law.specs.Law.{Coheres}
use Rattle.hib_audit.specs.declared.verdict.Audit.{Audit}
use Rattle.hib_audit.specs.declared.points.AuditKind.{AuditKind}
use Rattle.hib_audit.specs.Breaks.{Breaks}

-- of a journal's entries, numbered from 1, those before entry n are legal, and over them it breaks this point
pub record BreaksAt (script : Script) (start : Tables) (whole : Journal) (n : ℕ) (kind : AuditKind) : Type 0 where
  pub later : Journal
  pub entry : Entry
  pub before : Journal
  pub split : whole ≡ later ++ entry ∷ before
  pub place : n ≡ length before + 1
  pub legal : IsLegal script (Some start) before
  pub broken : Breaks script start before entry kind

-- if the audit names an entry, it is the first that is not legal
abbrev pub IsFound : Script → Tables → Journal → Audit → Type 0
IsFound script start whole Audit.Legal = Unit {0}
IsFound script start whole (Audit.Illegal n kind) = BreaksAt script start whole n kind

-- what holds of the journal if the audit says that it is legal
abbrev pub IsLawful : Script → Tables → Journal → Audit → Type 0
IsLawful script start whole Audit.Legal = Coheres script start whole × AreListsGiven script start whole
IsLawful script start whole (Audit.Illegal n kind) = Unit {0}

-- all that an audit says holds
abbrev pub IsVerdict : Script → Tables → Journal → Audit → Type 0
IsVerdict script start whole Audit.Legal = IsLegal script (Some start) whole
IsVerdict script start whole (Audit.Illegal n kind) = BreaksAt script start whole n kind
