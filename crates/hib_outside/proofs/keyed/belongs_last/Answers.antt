use Rattle.std.proofs.Common.{◌≡◌, ◌+◌, ◌-◌, length, sym, ◌∙◌, arith}
use Rattle.hib_outside.proofs.Searches.{place_last}
use Rattle.hib_outside.proofs.keyed.belongs_last.Goals as goal

pub returns-then-count-gt0 : goal.returns-then-count-gt0
returns-then-count-gt0 c = λ e.
    let count : (length c.args.rows.now - 1) + 1 ≡ length c.args.rows.now = omega (arith, c.if-count-gt0.true) in
    place_last c.args.rows.now c.args.key.now (length c.args.rows.now - 1) _ c.requires count (sym c.comes_before.ensures ∙ e)
