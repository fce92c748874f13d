-- A search of runs: which of them were tried, each once, and with which first steps the others begin.
use Rattle.std.specs.Prelude.{◌≡◌, ◌+◌, ◌<◌, ◌≤◌, ◌⊎◌, ℕ, Bool, true, false, if◌then◌else◌, ◌&&◌, List, [], ◌∷◌}
use Rattle.std.specs.List.{Contains}
use Rattle.hib_base.specs.Tables.{Tables}
use Rattle.hib_journal.specs.Types.{Script, Entry}
use Rattle.hib_order_law.specs.Orders.{steps_in, begins, can_begin, IsOther, IsRun, IsWithin, cost, kills, same_step, switches}
use Rattle.hib_order_law.specs.declared.step.Step.{Step}

abbrev pub same_order : List Step → List Step → Bool
same_order [] [] = true
same_order [] (t ∷ ts) = false
same_order (s ∷ ss) [] = false
same_order (s ∷ ss) (t ∷ ts) = same_step s t && same_order ss ts

-- how many of these runs have an order
abbrev pub times : List Step → List (List Entry) → ℕ
times order [] = 0
times order (es ∷ runs) = (if same_order (steps_in es) order then 1 else 0) + times order runs

-- the runs that were tried: each has so many switches at most, no order is that of two of them, and no run with fewer switches than
-- `done` is left out
pub record AreTried (script : Script) (start : Tables) (most_kills most done : ℕ) (runs : List (List Entry)) : Type 0 where
  pub within : (es : List Entry) → Contains runs es → IsWithin script start most_kills most es
  pub once : (order : List Step) → times order runs ≤ 1
  pub none_left : (es : List Entry) → IsRun script start most_kills es → switches (steps_in es) < done → Contains runs es

-- with how many of these first steps an order begins
abbrev pub begun_by : List Step → List (List Step) → ℕ
begun_by order [] = 0
begun_by order (begun ∷ waiting) = (if begins begun order then 1 else 0) + begun_by order waiting

-- the runs, and one more if it has so few switches
abbrev pub with_run : Bool → List Entry → List (List Entry) → List (List Entry)
with_run few es runs = if few then es ∷ runs else runs

-- whether something holds
abbrev pub IsTest : Type 0 → Bool → Type 0
IsTest P is = (is ≡ true → P) × (is ≡ false → P → ⊥)

-- amid a walk over all runs with so many switches at most: each of them was seen, or its order begins with first steps that wait; a run
-- that is neither makes more switches, and that there is such a one is known; no order is met twice; and what waits can
-- begin, and kills so often at most
pub record IsWalk (script : Script) (start : Tables) (most_kills level : ℕ) (seen : List (List Entry)) (waiting : List (List Step)) (beyond : Bool) : Type 0 where
  pub within : (es : List Entry) → Contains seen es → IsWithin script start most_kills level es
  pub once : (order : List Step) → times order seen + begun_by order waiting ≤ 1
  pub all : (es : List Entry) → IsRun script start most_kills es →
      (1 ≤ times (steps_in es) seen + begun_by (steps_in es) waiting) ⊎ ((level < switches (steps_in es)) × (beyond ≡ true))
  pub due : (begun : List Step) → Contains waiting begun → (can_begin script start [] begun ≡ true) × (kills begun ≤ most_kills)

-- amid a search by one more switch at a time: a walk for each number of switches, in which those runs are tried that make just as many; so
-- each run with fewer was tried, each once, and of those with as many those that were seen
pub record IsSearch (script : Script) (start : Tables) (most_kills most level : ℕ) (runs seen : List (List Entry)) (waiting : List (List Step)) (beyond : Bool) : Type 0 where
  pub low : level ≤ most
  pub walk : IsWalk script start most_kills level seen waiting beyond
  pub within : (es : List Entry) → Contains runs es → IsWithin script start most_kills level es
  pub once : (order : List Step) → times order runs ≤ 1
  pub fewer : (es : List Entry) → IsRun script start most_kills es → switches (steps_in es) < level → Contains runs es
  pub here : (order : List Step) → switches order ≡ level → times order runs ≡ times order seen

-- first steps of other orders than that of a run, which share so many steps at least with it and kill so often at most: each that costs no
-- more than `level` is there, no order begins with two of them, and whether there are others, which cost more
pub record AreOthers (script : Script) (most_kills level from : ℕ) (es : List Entry) (there : List (List Step)) (beyond : Bool) : Type 0 where
  pub each : (other : List Step) → Contains there other → IsOther script [] from es other × (kills other ≤ most_kills) × (cost (steps_in es) other ≤ level)
  pub once : (both : List Step) → begun_by both there ≤ 1
  pub all : (other : List Step) → IsOther script [] from es other → kills other ≤ most_kills →
      Contains there other ⊎ ((level < cost (steps_in es) other) × (beyond ≡ true))
  pub more : beyond ≡ true → (other : List Step) × IsOther script [] from es other × (kills other ≤ most_kills) × (level < cost (steps_in es) other)
