use Rattle.std.proofs.lemmas.Result.{on_ok_weaker}
use Rattle.hib_query_eval.specs.declared.places.Value.{Value}
use Rattle.hib_query_eval.proofs.Spans.{one_finds, le_between}
use Rattle.hib_query_eval.proofs.candidates.add_not_above.Goals as goal

pub returns-clause-found : goal.returns-clause-found
returns-clause-found c = on_ok_weaker c.add_between-2.result
    (λ m i d l h p. one_finds i d c.args.places.now.keys Value.Least c.in_ok-to.to c.above_kind-next.result Value.Greatest
    c.args.ids.now.items _ _ c.in_ok-add_between.ensures m h l
    (le_between c.args.cell.now d c.in_ok-to.to c.in_ok-to.ensures c.above_kind-next.result c.above_kind-next.ensures p i))
    c.add_between-2.ensures
