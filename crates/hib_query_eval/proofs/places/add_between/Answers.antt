use Rattle.std.proofs.Common.{◌++◌, map, ap, ◌∙◌}
use Rattle.hib_query_eval.proofs.places.add_between.Goals as goal

pub loop-place-init : goal.loop-place-init
loop-place-init c = ap (λ xs. c.args.ids.now.items ++ map (λ p. p.id) xs) (c.into_iter-place-iterator.ensures.into_iter_gives ∙ c.between-place-items.ensures)
