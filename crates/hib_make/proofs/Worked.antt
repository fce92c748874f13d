-- The first draw of seed 0.
use Rattle.std.proofs.Common.{◌≡◌, refl}
use Rattle.hib_make.specs.Draws.{after_draw, drawn, seeded}

first_state : after_draw (seeded 0) ≡ 1082269761
unfolding after_draw
first_state = refl

first_answer : drawn 10 (seeded 0) ≡ 1
unfolding after_draw
first_answer = refl
