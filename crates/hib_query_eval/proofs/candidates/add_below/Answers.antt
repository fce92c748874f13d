use Rattle.std.proofs.lemmas.Result.{on_ok_weaker}
use Rattle.hib_query_eval.specs.declared.places.Value.{Value}
use Rattle.hib_query_eval.proofs.Spans.{gained, found_between, lt_between}
use Rattle.hib_query_eval.proofs.candidates.add_below.Goals as goal

pub returns-clause-found : goal.returns-clause-found
returns-clause-found c = on_ok_weaker c.add_between.result
    (λ m i d l h p. gained i c.args.ids.now.items _ _ m
    (found_between i d Value.Least c.in_ok-to.to c.args.places.now.keys h l
    (lt_between c.args.cell.now d c.in_ok-to.to c.in_ok-to.ensures p i)))
    c.add_between.ensures
