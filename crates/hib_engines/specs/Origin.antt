-- What a run begins with.
use Rattle.std.specs.Prelude.{ℕ, Option}
use Rattle.std.specs.Option.{option_map}
use Rattle.hib_base.specs.Start.{start}
use Rattle.hib_base.specs.Tables.{Tables}
use Rattle.hib_journal.specs.Types.{Script}

-- the committed rows at the start, if the keeper tells them, and its counts
pub record Origin : Type 0 where
  pub tables : Option Tables
  pub faults : ℕ
  pub asked : ℕ

-- the committed rows at the start, if the keeper tells what it kept: this is widened to the script's mapping, and the script's
-- rows are beside it
abbrev pub told_start : Script → Option Tables → Option Tables
told_start script kept = option_map (λ t. start script.mapping t script.rows) kept

-- what a run over a keeper begins with, by what the keeper tells
abbrev pub origin_over : Script → Option Tables → ℕ → ℕ → Origin
origin_over script kept faults asked = record { tables = told_start script kept; faults = faults; asked = asked }
