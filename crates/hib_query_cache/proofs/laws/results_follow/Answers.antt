use Rattle.hib_query_cache.proofs.Ranks.{followed}
use Rattle.hib_query_cache.proofs.laws.results_follow.Goals as goal

pub returns : goal.returns
returns c queries r h e stands answered = followed queries r h e stands answered
