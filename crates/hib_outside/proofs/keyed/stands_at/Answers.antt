use Rattle.std.proofs.Common.{sym, ◌∙◌, arith}
use Rattle.hib_outside.proofs.Searches.{place_found}
use Rattle.hib_outside.proofs.keyed.stands_at.Goals as goal

pub returns-then-at-rows-clause-place : goal.returns-then-at-rows-clause-place
returns-then-at-rows-clause-place c = λ e. place_found c.args.rows.now c.args.key.now c.args.at _ c.requires (omega (arith, c.if-at-rows.true)) (sym c.is_same.ensures ∙ e)
