-- Numbers that are drawn one after another from a state of 64 bits, and what is made by draws.
use Rattle.std.specs.Prelude.{ℕ, zero, suc, ◌+◌, ◌*◌, ◌/◌, ◌%◌, ◌^◌, bit_xor, List, [], ◌++◌}

-- ---- the state
-- changed by itself, shifted to the left by some bits; what goes above 64 bits is dropped
abbrev pub with_left : ℕ → ℕ → ℕ
with_left bits x = bit_xor x (x * 2 ^ bits % 2 ^ 64)

-- changed by itself, shifted to the right
abbrev pub with_right : ℕ → ℕ → ℕ
with_right bits x = bit_xor x (x / 2 ^ bits)

unfoldable pub after_draw : ℕ → ℕ
after_draw x = with_left 17 (with_right 7 (with_left 13 x))

-- what a draw of one of n numbers answers, at the state before it
abbrev pub drawn : ℕ → ℕ → ℕ
drawn n x = after_draw x % n

abbrev pub seeded : ℕ → ℕ
seeded seed = seed + 1

-- ---- what is made
-- what draws make, and the state that they leave
pub record Drawn (A : Type 0) : Type 0 where
  pub made : List A
  pub state : ℕ

-- what follows from a draw, by its answer and the state that it leaves
abbrev pub draw : {A : Type 0} → ℕ → ℕ → (ℕ → ℕ → Drawn A) → Drawn A
draw n x f = f (drawn n x) (after_draw x)

-- without a draw
abbrev pub at_once : {A : Type 0} → List A → ℕ → Drawn A
at_once xs x = record { made = xs; state = x }

-- one more is made after others
abbrev pub more : {A : Type 0} → Drawn A → Drawn A → Drawn A
more d e = record { made = d.made ++ e.made; state = e.state }

abbrev pub then : {A : Type 0} → Drawn A → (ℕ → Drawn A) → Drawn A
then d f = more d (f d.state)

-- the first, the second, up to the n-th, each from the state that the one before it left
unfoldable pub many : {A : Type 0} → (ℕ → ℕ → Drawn A) → ℕ → ℕ → Drawn A
many f zero x = at_once [] x
many f (suc n) x = then (many f n x) (f (suc n))
