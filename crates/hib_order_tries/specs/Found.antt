-- What the runs that were tried have come to.
use Rattle.std.specs.Prelude.{◌≡◌, ◌+◌, ◌<◌, ◌≤◌, ◌==◌, ℕ, Bool, true, false, if◌then◌else◌, List, [], ◌∷◌, length, count_by, sum_by, slice_index_or, IfSome, IfNone}
use Rattle.std.specs.List.{Contains}
use Rattle.hib_base.specs.Tables.{Tables}
use Rattle.hib_journal.specs.Types.{Script, Entry, Outcome}
use Rattle.hib_order_law.specs.Orders.{IsRun, IsWithin, begins, is_unkilled, kills, steps_in, switches, turns_in}
use Rattle.hib_order_law.specs.Search.{AreTried, times}
use Rattle.hib_order_law.specs.declared.step.Step.{Step}
use Rattle.hib_order_law.specs.declared.step.Turn.{Turn}
use Rattle.hib_order_law.specs.declared.verdicts.Verdicts.{Verdicts}
use Rattle.hib_order_tries.specs.declared.endings.Ending.{Ending}
use Rattle.hib_order_tries.specs.declared.found.Found.{Found}
use Rattle.hib_order_tries.specs.declared.found.Findings.{Findings}

-- a run was played that begins so and kills no session after that; its order, what each step does to its session, what is judged of it, and
-- how each session has ended
abbrev pub IsPlayed : Script → Tables → (List Entry → Verdicts) → (List Entry → List Outcome) → List Step → List Step → List Turn → Verdicts → List Outcome → Type 0
IsPlayed script start judged ended begun order turns verdicts ending =
    (es : List Entry) × IsRun script start (kills begun) es × (begins begun (steps_in es) ≡ true) × (is_unkilled (length begun) (steps_in es) ≡ true)
    × (order ≡ steps_in es) × (turns ≡ turns_in es) × (verdicts ≡ judged es) × (ending ≡ ended es)

-- an order is that of a run that was tried and has something, and none of those that have it makes fewer switches
abbrev pub IsFirst : (List Entry → Bool) → List (List Entry) → List Step → ℕ → Type 0
IsFirst has runs order least =
    (es : List Entry) × Contains runs es × (has es ≡ true) × (order ≡ steps_in es) × (least ≡ switches order)
    × ((ds : List Entry) → Contains runs ds → has ds ≡ true → least ≤ switches (steps_in ds))

-- how many of the runs that were tried have something, and the first of them; none exactly if none has it
pub record IsFound (has : List Entry → Bool) (runs : List (List Entry)) (found : Found) : Type 0 where
  pub count : found.count ≡ count_by has runs
  pub first : IfSome found.first (λ f. IsFirst has runs f.order.items f.switches)
  pub none : IfNone found.first ((es : List Entry) → Contains runs es → has es ≡ false)

-- how many of the runs that were tried make no switch, one, two and so on; none makes as many as there are numbers
abbrev pub AreLevels : List (List Entry) → List ℕ → Type 0
AreLevels runs levels = (k : ℕ) → slice_index_or levels k 0 ≡ count_by (λ es. switches (steps_in es) == k) runs

-- the runs whose outcomes pass a test, by the endings that are told: the sum of their counts
abbrev pub ended_so : (List Outcome → Bool) → List Ending → ℕ
ended_so test endings = sum_by (λ e. if test e.outcomes.items then e.count else 0) endings

-- no two endings have the same outcomes
abbrev pub AreApart : List Ending → Type 0
AreApart [] = Unit {0}
AreApart (e ∷ es) = ((d : Ending) → Contains es d → d.outcomes.items ≡ e.outcomes.items → ⊥) × AreApart es

-- how the runs that were tried have ended: whatever is asked of the outcomes, as many runs pass it as are told to; and no two endings
-- have the same outcomes
pub record AreEndings (ended : List Entry → List Outcome) (runs : List (List Entry)) (endings : List Ending) : Type 0 where
  pub count : (test : List Outcome → Bool) → ended_so test endings ≡ count_by (λ es. test (ended es)) runs
  pub once : AreApart endings

-- so of each judgement, of the switches and of the endings; and how many were tried
pub record AreFindings (judged : List Entry → Verdicts) (ended : List Entry → List Outcome) (runs : List (List Entry)) (findings : Findings) : Type 0 where
  pub tried : findings.tried ≡ length runs
  pub levels : AreLevels runs findings.levels.items
  pub endings : AreEndings ended runs findings.endings
  pub stale_hit : IsFound (λ es. (judged es).stale_hit) runs findings.stale_hit
  pub old_list : IsFound (λ es. (judged es).old_list) runs findings.old_list
  pub lost_update : IsFound (λ es. (judged es).lost_update) runs findings.lost_update
  pub refused_commit : IsFound (λ es. (judged es).refused_commit) runs findings.refused_commit
  pub unsound_key : IsFound (λ es. (judged es).unsound_key) runs findings.unsound_key

-- the runs with the fewest switches come first: none of those that were tried makes more than `level`, and if not all within the bounds were
-- tried, then one within them that makes just as many was left out
pub record AreFewest (script : Script) (start : Tables) (most_kills most : ℕ) (whole : Bool) (level : ℕ) (runs : List (List Entry)) : Type 0 where
  pub few : (es : List Entry) → Contains runs es → switches (steps_in es) ≤ level
  pub cut : whole ≡ false →
      (es : List Entry) × IsWithin script start most_kills most es × (switches (steps_in es) ≡ level) × (times (steps_in es) runs ≡ 0)

-- what a search tells: of some runs within the bounds, each once, what they have come to. All within the bounds are among them if it says so,
-- and else all with fewer switches than a number, and none with more
abbrev pub IsTold : Script → Tables → (List Entry → Verdicts) → (List Entry → List Outcome) → ℕ → ℕ → Bool → ℕ → Findings → Type 0
IsTold script start judged ended most_kills most whole level findings =
    (runs : List (List Entry)) × AreTried script start most_kills most (if whole then most + 1 else level) runs × AreFindings judged ended runs findings
    × AreFewest script start most_kills most whole level runs

-- nothing was counted more often than orders were tried
pub record AreCounted (findings : Findings) : Type 0 where
  pub levels : (k : ℕ) → slice_index_or findings.levels.items k 0 ≤ findings.tried
  pub endings : ended_so (λ _. true) findings.endings ≤ findings.tried
  pub stale_hit : findings.stale_hit.count ≤ findings.tried
  pub old_list : findings.old_list.count ≤ findings.tried
  pub lost_update : findings.lost_update.count ≤ findings.tried
  pub refused_commit : findings.refused_commit.count ≤ findings.tried
  pub unsound_key : findings.unsound_key.count ≤ findings.tried

-- whether a number is below another
abbrev pub IsBelow : ℕ → ℕ → Bool → Type 0
IsBelow n m is = (is ≡ true → n < m) × (is ≡ false → m ≤ n)
