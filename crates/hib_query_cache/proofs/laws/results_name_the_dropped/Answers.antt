use Rattle.hib_query_cache.proofs.Ranks.{names_dropped}
use Rattle.hib_query_cache.proofs.laws.results_name_the_dropped.Goals as goal

pub returns : goal.returns
returns c queries r h stands q = names_dropped queries r h stands q
