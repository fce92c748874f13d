use Rattle.std.proofs.Common.{◌≡◌, ◌∙◌, ◌≤◌, ◌-◌, arith, subst, take, drop, length, length-drop, ℕ, List}
use Rattle.std.proofs.lemmas.Grind.{common_steps}
use Rattle.std.specs.Io.KnownBytes.{Appends}
use Rattle.hib_outside.proofs.Pieces.{appends_more}
use Rattle.hib_outside.proofs.writing.write_all.Goals as goal

pub loop-at-preserved : goal.loop-at-preserved
loop-at-preserved g c =
    let rest = drop c.loop-at.at c.args.bytes.now in
    let whole : take (length c.args.bytes.now - c.loop-at.at) rest ≡ rest = grind (arith, common_steps) in
    let bound : c.in_ok-at.field-0 ≤ length rest = subst (λ (xs : List ℕ). c.in_ok-at.field-0 ≤ length xs) whole c.in_ok-at.ensures.bound in
    record {
      within = omega (arith, bound, length-drop {A = ℕ}, c.loop-at.invariant.within);
      front = appends_more _ (g.W.Sink.taken c.loop-at.sink) _ c.args.bytes.now c.loop-at.at c.in_ok-at.field-0 c.loop-at.invariant.front
          (subst (λ (xs : List ℕ). Appends (g.W.Sink.taken c.loop-at.sink) (g.W.Sink.taken c.write.new.self) (take c.in_ok-at.field-0 xs)) whole c.in_ok-at.ensures.bytes);
      calm = c.in_ok-at.ensures.cause.kept ∙ c.loop-at.invariant.calm;
    }
