use Rattle.hib_query_cache.proofs.Ranks.{answers}
use Rattle.hib_query_cache.proofs.laws.results_answer.Goals as goal

pub returns : goal.returns
returns c queries r h stands q = answers queries r h stands q
