use Rattle.std.proofs.Common.{eqb}
use Rattle.std.proofs.lemmas.List.Filters.{dedup_is}
use Rattle.hib_query_eval.proofs.Found.{rise, id_left}
use Rattle.hib_query_eval.proofs.searches.rising.Goals as goal

pub returns-clause-rising : goal.returns-clause-rising
returns-clause-rising c = rise c.sort_unstable.new.self.items c.dedup.new.self.items c.sort_unstable.ensures.sorted (dedup_is eqb _ _ c.dedup.ensures.filtered)

pub returns-clause-kept : goal.returns-clause-kept
returns-clause-kept c = λ i h.
    id_left i c.args.ids.items c.sort_unstable.new.self.items c.dedup.new.self.items c.sort_unstable.ensures.permutation (dedup_is eqb _ _ c.dedup.ensures.filtered) h
