-- What is known of the rest of an order.
use Rattle.std.specs.Prelude.{◌≡◌, ℕ, ◌+◌, ◌≤◌, ◌==◌, true, if◌then◌else◌, not, List, [], ◌∷◌, map, slice_get, Option}
use Rattle.std.specs.List.{list_all}
use Rattle.hib_order_law.specs.Orders.{comes, is_kill_step, switches, whose}
use Rattle.hib_order_law.specs.declared.step.Step.{Step}

-- how many steps are of a session
abbrev pub count_of : ℕ → List Step → ℕ
count_of s [] = 0
count_of s (t ∷ ts) = (if whose t == s then 1 else 0) + count_of s ts

-- steps of sessions that stand there once each, and none is a kill
pub record AreOwn (steps : List Step) : Type 0 where
  pub once : (s : ℕ) → count_of s steps ≤ 1
  pub own : list_all (λ t. not (is_kill_step t)) steps ≡ true

-- or each is a kill
pub record AreKills (steps : List Step) : Type 0 where
  pub once : (s : ℕ) → count_of s steps ≤ 1
  pub kill : list_all is_kill_step steps ≡ true

-- a step of each session that comes in some steps; the session of the first of them; and how many of them leave a session that comes
-- again later
pub record IsTail (steps these : List Step) (first : Option ℕ) (left : ℕ) : Type 0 where
  pub all : (s : ℕ) → comes s these ≡ comes s steps
  pub each : AreOwn these
  pub head : first ≡ slice_get (map whose steps) 0
  pub count : left ≡ switches steps
