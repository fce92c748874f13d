use Rattle.std.proofs.lemmas.Result.{on_ok_weaker}
use Rattle.hib_query_eval.specs.declared.places.Value.{Value}
use Rattle.hib_query_eval.proofs.Spans.{gained, found_between, gt_between}
use Rattle.hib_query_eval.proofs.candidates.add_above.Goals as goal

pub returns-clause-found : goal.returns-clause-found
returns-clause-found c = on_ok_weaker c.add_between.result
    (λ m i d l h p. gained i c.args.ids.now.items _ _ m
    (found_between i d c.in_ok-from.from Value.Greatest c.args.places.now.keys h l
    (gt_between c.args.cell.now d c.in_ok-from.from c.in_ok-from.ensures p i)))
    c.add_between.ensures
