-- Rows that fit a script.
use Rattle.std.specs.Prelude.{◌≡◌, true}
use Rattle.hib_base.specs.Fits.{fits}
use Rattle.hib_base.specs.Tables.{Tables, in_order}
use Rattle.hib_journal.specs.Types.{Script}

-- rows that fit the mapping, each key once
pub record AreFit (script : Script) (t : Tables) : Type 0 where
  pub fit : fits script.mapping t ≡ true
  pub ordered : in_order t ≡ true
