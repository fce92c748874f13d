-- A script with all runs and kills of a journal repeats it.
use Rattle.std.proofs.Common.{◌≡◌, ℕ, true, [], Some, None, List, sym, subst}
use Rattle.std.specs.Prelude.{position}
use Rattle.hib_base.specs.Tables.{Tables}
use Rattle.hib_journal.specs.Types.{Script, Entry}
use Rattle.hib_journal.specs.Legal.{IsLegal}
use Rattle.hib_journal.specs.Played.{is_played}
use Rattle.hib_journal.specs.Runs.{IsNumbered, fault_count}
use Rattle.hib_journal.specs.Sessions.{Journal}
use Rattle.hib_order_law.specs.Orders.{IsRun, onto, steps_in}
use Rattle.hib_order_schedule.specs.Schedules.{runs_of, with_schedule}
use Rattle.hib_toolbox.specs.declared.repeat.Repeatable.{Repeatable}
use Rattle.hib_toolbox.specs.Repeating.{IsRepeated, IsScheduled, Repeats, is_foreign}

abbrev pub WholeLaw : Type 0
WholeLaw = (script : Script) (start : Tables) (most_kills : ℕ) (es : List Entry) → IsRun script start most_kills es →
    is_played (with_schedule script (runs_of (steps_in es))) (onto es []) ≡ true

abbrev pub WholeAgainLaw : Type 0
WholeAgainLaw = (script : Script) (start : Tables) (most_kills : ℕ) (es : List Entry) (h : Journal) → IsRun script start most_kills es →
    IsLegal (with_schedule script (runs_of (steps_in es))) (Some start) h → IsNumbered h → fault_count h ≡ 0 →
    is_played (with_schedule script (runs_of (steps_in es))) h ≡ true → h ≡ onto es []

repeats : WholeLaw → WholeAgainLaw → (script : Script) (es : List Entry) → Repeats script es (with_schedule script (runs_of (steps_in es)))
repeats plays again script es = record {
  played = λ start kills run. plays script start kills es run;
  again = λ start kills h run l n f q. again script start kills es h run l n f q;
}

pub is_repeated : WholeLaw → WholeAgainLaw → (script : Script) (es : List Entry) (r : Repeatable) (by : Script) → position is_foreign es ≡ None →
    IsScheduled script (runs_of (steps_in es)) r by → IsRepeated script es r by
is_repeated plays again script es (Repeatable.Foreign n) by none s = absurd s
is_repeated plays again script es Repeatable.Long by none s = (none, s.0, s.1)
is_repeated plays again script es Repeatable.Whole by none s =
    (none, s.0, s.1, subst (λ (c : Script). Repeats script es c) (sym s.1) (repeats plays again script es))
