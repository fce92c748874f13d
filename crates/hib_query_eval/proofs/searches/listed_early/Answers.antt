use Rattle.std.proofs.Common.{map, refl, arith}
use Rattle.std.proofs.lemmas.List.{length-map}
use Rattle.hib_query_eval.specs.Enough.{is_listed}
use Rattle.hib_query_eval.proofs.Enough.{listed_first}
use Rattle.hib_query_eval.proofs.searches.listed_early.Goals as goal

pub returns : goal.returns
returns c =
    listed_first (is_listed c.args.query.now c.args.view.now) c.args.own.now _ (map (λ r. r.now) c.in_ok-met.met.items) c.args.enough c.min.result
    refl c.in_ok-met.ensures (omega (arith, length-map c.in_ok-met.met.items (λ r. r.now), c.len.ensures))
