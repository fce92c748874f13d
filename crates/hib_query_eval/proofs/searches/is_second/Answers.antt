use Rattle.std.proofs.Common.{arith}
use Rattle.hib_query_eval.proofs.Overlays.{second_alone}
use Rattle.hib_query_eval.proofs.searches.is_second.Goals as goal

pub returns-then-at-rows-clause-first : goal.returns-then-at-rows-clause-first
returns-then-at-rows-clause-first c = second_alone c.args.rows.now c.args.left.now c.args.at c.args.behind (omega (arith, c.if-at-rows.true)) (omega (arith, c.if-behind-left.false))
