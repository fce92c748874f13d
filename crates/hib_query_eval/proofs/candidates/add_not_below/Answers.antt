use Rattle.std.proofs.lemmas.Result.{on_ok_weaker}
use Rattle.hib_query_eval.specs.declared.places.Value.{Value}
use Rattle.hib_query_eval.proofs.Spans.{one_finds, ge_between}
use Rattle.hib_query_eval.proofs.candidates.add_not_below.Goals as goal

pub returns-clause-found : goal.returns-clause-found
returns-clause-found c = on_ok_weaker c.add_between-2.result
    (λ m i d l h p. one_finds i d c.args.places.now.keys c.in_ok-from.from Value.Greatest Value.Least c.below_kind-last.result
    c.args.ids.now.items _ _ c.in_ok-add_between.ensures m h l
    (ge_between c.args.cell.now d c.in_ok-from.from c.in_ok-from.ensures c.below_kind-last.result c.below_kind-last.ensures p i))
    c.add_between-2.ensures
