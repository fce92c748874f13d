-- The tables of a keeper over a table of SQL.
use Rattle.std.specs.Prelude.{◌≡◌, ℕ, Bool, false, if◌then◌else◌, [], Option, Some, None, Result, OnOk, IfErr}
use Rattle.std.specs.Option.{option_map}
use Rattle.hib_base.specs.Tables.{Tables}
use Rattle.hib_outside.specs.Causes.{one_more}
use Rattle.hib_outside.specs.declared.keeper.KeepFault.{KeepFault}
use Rattle.hib_outside.specs.declared.keeper.KeepFault.TheVariants.{Failed, NoMemory}
use Rattle.hib_sqlite_rows.specs.Told.{Told}

-- what the table tells, if it was opened; else no rows, if such a table tells its rows
abbrev pub told_in : {T : Type 0} → Bool → (T → Option Told) → Option T → Option Told
told_in tells told (Some table) = told table
told_in tells told None = if tells then Some (record { now = []; before = []; in_transaction = false }) else None

abbrev pub tables_in : {T : Type 0} → Bool → (T → Option Told) → Option T → Option Tables
tables_in tells told table = option_map {T = Told} (λ t. t.now) (told_in tells told table)

-- each failure is counted, and nothing else
pub record Counts {T : Type 0} (before now : ℕ) (result : Result T KeepFault) : Type 0 where
  pub failed : IfErr result (λ e. e ≡ Failed → now ≡ one_more before)
  pub memory : IfErr result (λ e. e ≡ NoMemory → now ≡ before)
  pub done : OnOk result (now ≡ before)
