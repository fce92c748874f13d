-- The results of a script's queries, over a list.
use Rattle.std.specs.Prelude.{◌≡◌, length}
use Rattle.hib_journal.specs.Types.{Script}
use Rattle.hib_journal.specs.Sessions.{Journal}
use Rattle.hib_query_cache.specs.Ranked.{Ranked}
use Rattle.hib_query_cache.specs.Standing.{IsResults}

pub record AreResults (script : Script) (l : Journal) (x : Ranked) : Type 0 where
  pub stands : IsResults (length script.queries) x l
  pub capacity : x.capacity ≡ script.results
