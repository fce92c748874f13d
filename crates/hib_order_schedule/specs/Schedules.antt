-- The schedule that plays an order of sessions: its runs and kills, without those that need no order.
use Rattle.std.specs.Prelude.{ℕ, ◌+◌, Bool, true, false, if◌then◌else◌, ◌&&◌, ◌==◌, nat_le, List, [], ◌∷◌, ◌++◌, length, replicate}
use Rattle.std.specs.List.{list_all}
use Rattle.hib_base.specs.Valid.{is_order_in, max_orders}
use Rattle.hib_journal.specs.Types.{Order, Script}
use Rattle.hib_order_law.specs.Orders.{whose}
use Rattle.hib_order_law.specs.declared.step.Step.{Step}

-- one more step of s before some runs: it lengthens the first of them if that is of s
abbrev pub joined : ℕ → List Order → List Order
joined s (Order.Run t n ∷ os) = if t == s then Order.Run t (n + 1) ∷ os else Order.Run s 1 ∷ Order.Run t n ∷ os
joined s os = Order.Run s 1 ∷ os

-- the runs and kills of an order: what one session does in a row is one run
abbrev pub runs_of : List Step → List Order
runs_of [] = []
runs_of (Step.Own s ∷ ts) = joined s (runs_of ts)
runs_of (Step.Kill s ∷ ts) = Order.Kill s ∷ runs_of ts

-- none is a kill, and each step is of the session of the step before it, or of one with a greater number
abbrev pub rises : List Step → Bool
rises [] = true
rises (Step.Kill s ∷ ts) = false
rises (Step.Own s ∷ []) = true
rises (Step.Own s ∷ t ∷ ts) = nat_le s (whose t) && rises (t ∷ ts)

-- the steps before the longest tail that rises
abbrev pub before_tail : List Step → List Step
before_tail [] = []
before_tail (t ∷ ts) = if rises (t ∷ ts) then [] else t ∷ before_tail ts

-- the runs and kills that a schedule has to say: a tail that rises brings each session to its end in order of number, which needs
-- no orders
abbrev pub shown : List Step → List Order
shown order = runs_of (before_tail order)

-- the steps of runs and kills
abbrev pub steps_of : List Order → List Step
steps_of [] = []
steps_of (Order.Run s n ∷ os) = replicate n (Step.Own s) ++ steps_of os
steps_of (Order.Kill s ∷ os) = Step.Kill s ∷ steps_of os
steps_of (o ∷ os) = steps_of os

abbrev pub is_run_or_kill : Order → Bool
is_run_or_kill (Order.Run s n) = true
is_run_or_kill (Order.Kill s) = true
is_run_or_kill o = false

-- the script with another schedule
abbrev pub with_schedule : Script → List Order → Script
with_schedule script os = record script { schedule = os }

-- runs and kills that a script of n sessions may have as its schedule
abbrev pub may_be_schedule : ℕ → List Order → Bool
may_be_schedule n os = nat_le (length os) max_orders && list_all (λ o. is_run_or_kill o && is_order_in n o) os

-- ---- for the code

-- so many of the first steps are own steps of s
abbrev pub in_row : ℕ → List Step → ℕ
in_row s [] = 0
in_row s (Step.Own t ∷ ts) = if t == s then in_row s ts + 1 else 0
in_row s (Step.Kill t ∷ ts) = 0
