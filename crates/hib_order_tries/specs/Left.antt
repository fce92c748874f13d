-- The other orders that leave one at a place.
use Rattle.std.specs.Prelude.{◌≡◌, ◌==◌, ◌+◌, ◌++◌, ◌∷◌, ◌<◌, ◌≤◌, ◌⊎◌, ◌&&◌, ◌||◌, ℕ, Bool, false, true, if◌then◌else◌, List, [], drop, length, map, slice_get, slice_index_or, take, Option, Some, None}
use Rattle.std.specs.List.{Contains, list_any}
use Rattle.std.specs.Option.{option_map_or}
use Rattle.hib_order_law.specs.Orders.{comes, cost, kills, same_step, switches, whose}
use Rattle.hib_order_law.specs.Search.{begun_by}
use Rattle.hib_order_law.specs.declared.step.Step.{Step}
use Rattle.hib_order_law.specs.declared.step.Turn.{Turn}
use Rattle.hib_order_tries.specs.Found.{IsBelow}
use Rattle.hib_order_tries.specs.Tail.{AreKills}

-- a kill closes its session
abbrev pub turn_of : Step → Turn → Turn
turn_of (Step.Own n) turn = turn
turn_of (Step.Kill n) turn = Turn.Closes

-- whether a session is open after a step of it or of another, if it was or was not before
abbrev pub open_by : Bool → Turn → Bool → Bool
open_by by_it Turn.Opens o = by_it || o
open_by by_it Turn.Closes o = if by_it then false else o
open_by by_it Turn.GoesOn o = o

abbrev pub open_with : ℕ → Step → Turn → Bool → Bool
open_with s t turn o = open_by (whose t == s) (turn_of t turn) o

-- so after some steps, the oldest first
abbrev pub opens : ℕ → List Step → List Turn → Bool → Bool
opens s [] turns o = o
opens s (t ∷ ts) [] o = o
opens s (t ∷ ts) (u ∷ us) o = opens s ts us (open_with s t u o)

-- a step may come at a place of an order that kills none from there on: of a session that comes later, or, if a kill may come, the kill of
-- one that is open
abbrev pub may_come : Bool → List Step → List Turn → ℕ → Step → Bool
may_come may_kill order turns at (Step.Own s) = comes s (drop at order)
may_come may_kill order turns at (Step.Kill s) = may_kill && opens s (take at order) (take at turns) false

-- the steps before a place, and then another step
abbrev pub first_of : List Step → ℕ → Step → List Step
first_of order at t = take at order ++ t ∷ []

-- it is the step at a place
abbrev pub is_at : List Step → ℕ → Step → Bool
is_at order at t = option_map_or (λ s. same_step s t) (slice_get order at) false

-- how another order may begin, which leaves an order at a place from this one on
pub record IsBeside (may_kill : Bool) (from : ℕ) (order : List Step) (turns : List Turn) (other : List Step) : Type 0 where
  pub at : ℕ
  pub step : Step
  pub later : from ≤ at
  pub inside : at ≤ length order
  pub is : other ≡ first_of order at step
  pub apart : is_at order at step ≡ false
  pub due : may_come may_kill order turns at step ≡ true

-- those that may begin so: each that costs no more than a level is there, no order begins with two of them, and whether there are others,
-- which cost more
pub record AreBeside (may_kill : Bool) (level from : ℕ) (order : List Step) (turns : List Turn) (there : List (List Step)) (beyond : Bool) : Type 0 where
  pub each : (other : List Step) → Contains there other → IsBeside may_kill from order turns other × (cost order other ≤ level)
  pub once : (both : List Step) → begun_by both there ≤ 1
  pub all : (other : List Step) → IsBeside may_kill from order turns other → Contains there other ⊎ ((level < cost order other) × (beyond ≡ true))
  pub more : beyond ≡ true → (other : List Step) × IsBeside may_kill from order turns other × (level < cost order other)

-- it leaves an order at a place with one of these steps
abbrev pub has_step : Step → List Step → Bool
has_step t these = list_any (λ s. same_step s t) these

abbrev pub IsLeft : List Step → ℕ → List Step → List Step → Type 0
IsLeft order at these other = (t : Step) × (other ≡ first_of order at t) × (is_at order at t ≡ false) × (has_step t these ≡ true)

-- what leaves an order at a place with one of these steps: each that costs no more than a level is there, each once, and whether there are
-- others, which cost more
pub record AreLeftBy (level at : ℕ) (order these : List Step) (there : List (List Step)) (beyond : Bool) : Type 0 where
  pub each : (other : List Step) → Contains there other → IsLeft order at these other × (cost order other ≤ level)
  pub once : (both : List Step) → begun_by both there ≤ begun_by both (map (first_of order at) these)
  pub all : (other : List Step) → IsLeft order at these other → Contains there other ⊎ ((level < cost order other) × (beyond ≡ true))
  pub more : beyond ≡ true → (other : List Step) × IsLeft order at these other × (level < cost order other)

-- they were added to others
abbrev pub AreLeft : ℕ → ℕ → List Step → List Step → List (List Step) → Bool → List (List Step) → Bool → Type 0
AreLeft level at order these there beyond new_there new_beyond =
    (more : List (List Step)) × (cut : Bool) × AreLeftBy level at order these more cut × (new_there ≡ there ++ more) × (new_beyond ≡ (beyond || cut))

-- first steps are added if they cost no more than a level, and else it is told that there are such
abbrev pub IsAdded : ℕ → ℕ → List Step → List (List Step) → Bool → List (List Step) → Bool → Type 0
IsAdded level cost begun there beyond new_there new_beyond =
    ((cost ≤ level) × (new_there ≡ there ++ begun ∷ []) × (new_beyond ≡ beyond)) ⊎ ((level < cost) × (new_there ≡ there) × (new_beyond ≡ true))

-- what one more step costs, if this session is left there
abbrev pub cost_left : Option ℕ → Step → ℕ
cost_left None t = 0
cost_left (Some s) t = if whose t == s then 0 else 1

-- what the steps before a place cost, and which session a step there leaves, if it is another's
abbrev pub IsBefore : List Step → ℕ → ℕ → Option ℕ → Type 0
IsBefore order at spent left = (t : Step) → cost order (first_of order at t) ≡ spent + cost_left left t

-- the kills of the sessions that are open
pub record AreOpen (may_kill : Bool) (order : List Step) (turns : List Turn) (at : ℕ) (these : List Step) : Type 0 where
  pub all : (s : ℕ) → comes s these ≡ (may_kill && opens s (take at order) (take at turns) false)
  pub each : AreKills these

-- so at each place
abbrev pub AreOpenings : Bool → List Step → List Turn → List (List Step) → Type 0
AreOpenings may_kill order turns openings = (at : ℕ) → at ≤ length order → AreOpen may_kill order turns at (slice_index_or openings at [])

-- first steps of other orders were added to those that wait, with kills if so many may come; and if the order itself makes too many switches
-- or one of the others, it is told that there are such
pub record IsTurned (most_kills level from : ℕ) (order : List Step) (turns : List Turn) (waiting : List (List Step)) (beyond : Bool) (new_waiting : List (List Step)) (new_beyond : Bool) : Type 0 where
  pub may_kill : Bool
  pub kill : IsBelow (kills order) most_kills may_kill
  pub more : List (List Step)
  pub cut : Bool
  pub beside : AreBeside may_kill level from order turns more cut
  pub waits : new_waiting ≡ waiting ++ more
  pub cause : new_beyond ≡ true → (beyond ≡ true) ⊎ (cut ≡ true) ⊎ (level < switches order)
  pub kept : beyond ≡ true → new_beyond ≡ true
  pub told : cut ≡ true → new_beyond ≡ true
  pub high : level < switches order → new_beyond ≡ true
