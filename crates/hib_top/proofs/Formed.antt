-- The entries of a run are few, with early ticks; so they are well formed if the rows at the start fit.
use Rattle.std.proofs.Common.{◌≡◌, ◌≤◌, ◌^◌, true, length, reverse, Some, None, Option, IfSome, arith}
use Rattle.hib_base.specs.Tables.{Tables}
use Rattle.hib_base.specs.Valid.{is_valid}
use Rattle.hib_journal.specs.Types.{Script}
use Rattle.hib_journal.specs.Legal.{IsLegal}
use Rattle.hib_journal.specs.Runs.{name_identifiers}
use Rattle.hib_journal.specs.Sessions.{Journal}
use Rattle.hib_journal_json.specs.Entries.{AreEntries}
use Rattle.hib_formed.specs.Early.{AreEarly}
use Rattle.hib_formed.specs.Fitting.{AreFit}

-- ---- laws that are called

abbrev pub Formed : Type 0
Formed =
    (script : Script) (start : Tables) (h : Journal) → is_valid script ≡ true → AreFit script start → length h ≤ 2 ^ 61 → AreEarly h →
    name_identifiers h ≡ true → IsLegal script (Some start) h → AreEntries script (reverse h)

-- ---- a run is short

pub early_enough : (h : Journal) → length h ≤ 150000 → length h ≤ 2 ^ 61
early_enough h few = omega (arith, few)

-- ---- its entries

pub start_formed : Formed → (script : Script) (start : Option Tables) (h : Journal) → is_valid script ≡ true → length h ≤ 2 ^ 61 → AreEarly h → name_identifiers h ≡ true → IsLegal script start h →
    IfSome start (λ told. AreFit script told → AreEntries script (reverse h))
start_formed f script None h v few early named l = tt
start_formed f script (Some t) h v few early named l = λ fit. f script t h v fit few early named l
