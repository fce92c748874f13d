-- What is kept of tables and of queries, and what it stands for.
use Rattle.std.specs.Prelude.{◌≡◌, ℕ, nat_eq, List, Some, None, Option}
use Rattle.std.specs.Map.{lookup}
use Rattle.hib_journal.specs.Types.{Script}
use Rattle.hib_journal.specs.Sessions.{Journal}
use Rattle.hib_journal.specs.Stamps.{stamp}
use Rattle.hib_follow.specs.Newest.{last_stamp, last_keep}
use Rattle.hib_follow.specs.declared.marks.Stamped.{Stamped}

abbrev pub Stamps : Type 0
Stamps = List (ℕ × Stamped)

abbrev pub value_of : Option Stamped → Option ℕ
value_of None = None
value_of (Some s) = Some s.value

abbrev pub since_of : Option Stamped → Option ℕ
since_of None = None
since_of (Some s) = Some s.since

abbrev pub value_at : Stamps → ℕ → Option ℕ
value_at m t = value_of (lookup (nat_eq t) m)

abbrev pub stamped_since : Stamps → ℕ → Option ℕ
stamped_since m t = since_of (lookup (nat_eq t) m)

-- it stands for a journal
pub record AreStamps (script : Script) (h : Journal) (m : Stamps) : Type 0 where
  pub values : (t : ℕ) → value_at m t ≡ stamp script.timeout t h
  pub since : (t : ℕ) → stamped_since m t ≡ last_stamp t h

abbrev pub AreKeeps : Journal → List (ℕ × ℕ) → Type 0
AreKeeps h m = (q : ℕ) → lookup (nat_eq q) m ≡ last_keep q h
