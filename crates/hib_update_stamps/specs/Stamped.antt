-- The stamps of tables, one place for each table.
use Rattle.std.specs.Prelude.{ℕ, List, [], ◌∷◌, replicate, slice_get, slice_set, Some, None, Option}
use Rattle.hib_base.specs.declared.replies.Checked.{Checked}
use Rattle.hib_journal.specs.Stamps.{check_one}

abbrev pub Stamped : Type 0
Stamped = List (Option ℕ)

-- so many tables, none with a stamp
abbrev pub unstamped : ℕ → Stamped
unstamped tables = replicate tables None

-- each of these tables has this stamp now
abbrev pub stamped : List ℕ → ℕ → Stamped → Stamped
stamped [] time s = s
stamped (t ∷ ts) time s = stamped ts time (slice_set s t (Some time))

abbrev pub or_none : Option (Option ℕ) → Option ℕ
or_none None = None
or_none (Some stamp) = stamp

-- Fresh if each of these tables has no stamp or one before the time; else the first that has not
abbrev pub checked : ℕ → List ℕ → Stamped → Checked
checked time [] s = Checked.Fresh
checked time (t ∷ ts) s = check_one time t (or_none (slice_get s t)) (checked time ts s)
