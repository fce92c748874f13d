use Rattle.std.proofs.lemmas.Result.{on_ok_weaker}
use Rattle.hib_query_eval.specs.Spans.{value_cmp}
use Rattle.hib_query_eval.proofs.Compared.{value_ties}
use Rattle.hib_query_eval.proofs.Spans.{gained, found_between, eq_between, eq_not_gt}
use Rattle.hib_query_eval.proofs.candidates.add_same.Goals as goal

pub add_between-requires : goal.add_between-requires
add_between-requires c = eq_not_gt (value_cmp c.in_ok-from.from c.in_ok-to.to) (value_ties c.args.cell.now c.in_ok-from.from c.in_ok-to.to c.in_ok-from.ensures c.in_ok-to.ensures)

pub returns-clause-found : goal.returns-clause-found
returns-clause-found c = on_ok_weaker c.add_between.result
    (λ m i d l h p. gained i c.args.ids.now.items _ _ m
    (found_between i d c.in_ok-from.from c.in_ok-to.to c.args.places.now.keys h l
    (eq_between c.args.cell.now d c.in_ok-from.from c.in_ok-from.ensures c.in_ok-to.to c.in_ok-to.ensures p i)))
    c.add_between.ensures
