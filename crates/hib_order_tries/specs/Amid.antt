-- Amid a search.
use Rattle.std.specs.Prelude.{◌≡◌, ◌∷◌, ◌+◌, ◌≤◌, ℕ, Bool, List}
use Rattle.hib_base.specs.Tables.{Tables}
use Rattle.hib_journal.specs.Types.{Script, Entry, Outcome}
use Rattle.hib_order_law.specs.Orders.{steps_in}
use Rattle.hib_order_law.specs.Search.{IsSearch}
use Rattle.hib_order_law.specs.declared.step.Step.{Step}
use Rattle.hib_order_law.specs.declared.verdicts.Verdicts.{Verdicts}
use Rattle.hib_order_tries.specs.Found.{AreFindings, IsFound}
use Rattle.hib_order_tries.specs.declared.found.Findings.{Findings}
use Rattle.hib_order_tries.specs.declared.found.Found.{Found}

-- some runs were tried, those that a search at a level of which this waits has tried, and the findings are what they have come to
abbrev pub IsAmid : Script → Tables → (List Entry → Verdicts) → (List Entry → List Outcome) → ℕ → ℕ → List (List Step) → Bool → Findings → Type 0
IsAmid script start judged ended most_kills level waiting beyond findings =
    (runs : List (List Entry)) × (seen : List (List Entry)) × IsSearch script start most_kills level level runs seen waiting beyond × AreFindings judged ended runs findings

-- what was found of a judgement, with one more run of which it is judged so
abbrev pub IsJudged : Bool → List Step → Found → Found → Type 0
IsJudged is order old new =
    (new.count ≤ old.count + 1)
    × ((has : List Entry → Bool) (runs : List (List Entry)) (es : List Entry) → IsFound has runs old → is ≡ has es → order ≡ steps_in es → IsFound has (es ∷ runs) new)

-- so of each judgement, and all else is as before
pub record AreJudged (verdicts : Verdicts) (order : List Step) (old new : Findings) : Type 0 where
  pub stale_hit : IsJudged verdicts.stale_hit order old.stale_hit new.stale_hit
  pub old_list : IsJudged verdicts.old_list order old.old_list new.old_list
  pub lost_update : IsJudged verdicts.lost_update order old.lost_update new.lost_update
  pub refused_commit : IsJudged verdicts.refused_commit order old.refused_commit new.refused_commit
  pub unsound_key : IsJudged verdicts.unsound_key order old.unsound_key new.unsound_key
  pub tried : new.tried ≡ old.tried
  pub levels : new.levels ≡ old.levels
  pub endings : new.endings ≡ old.endings
