-- How far a count rose.
use Rattle.std.specs.Prelude.{ℕ, ◌+◌, ◌-◌, ◌^◌, ◌≤◌, min}

-- a count has risen by n at least, or stands at the last value of a u64
abbrev pub RoseBy : ℕ → ℕ → ℕ → Type 0
RoseBy before n now = min (before + n) (2 ^ 64 - 1) ≤ now

-- a count has risen by n at most, and has not fallen
pub record RoseWithin (before n now : ℕ) : Type 0 where
  pub later : before ≤ now
  pub few : now ≤ before + n
