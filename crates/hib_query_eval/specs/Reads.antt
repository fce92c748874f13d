-- The rows of the tables that a query reads.
use Rattle.std.specs.List.{filter}
use Rattle.hib_journal.specs.Types.{Query}
use Rattle.hib_base.specs.Tables.{Tables}
use Rattle.hib_journal.specs.Query.{reads}

abbrev pub read_by : Query → Tables → Tables
read_by q t = filter (λ e. reads q e.0.entity) t
