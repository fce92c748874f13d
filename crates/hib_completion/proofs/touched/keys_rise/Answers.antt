use Rattle.std.proofs.Common.{◌≡◌, ℕ, true, drop, subst, sym, arith}
use Rattle.hib_completion.specs.Touched.{rise}
use Rattle.hib_completion.proofs.Rising.{last_rises, one_earlier}
use Rattle.hib_completion.proofs.touched.keys_rise.Goals as goal

pub loop-from-init : goal.loop-from-init
loop-from-init c = record {
  within = omega (arith, c.saturating_sub-from.ensures);
  rising = subst (λ (n : ℕ). rise (drop n c.args.changes.now) ≡ true) (sym c.saturating_sub-from.ensures) (last_rises c.args.changes.now);
}
