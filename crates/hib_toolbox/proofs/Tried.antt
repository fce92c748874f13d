-- What is told of the orders of a script is so.
use Rattle.std.proofs.Common.{◌≡◌, ◌≤◌, ◌+◌, ℕ, Bool, true, false, cond, List, [], Option, Some, None, sym, subst}
use Rattle.std.specs.Prelude.{IfNone, IfSome}
use Rattle.hib_base.specs.Tables.{Tables}
use Rattle.hib_journal.specs.Types.{Script, Entry}
use Rattle.hib_journal.specs.Sessions.{Journal}
use Rattle.hib_journal.specs.Legal.{IsLegal}
use Rattle.hib_journal.specs.Played.{is_played}
use Rattle.hib_journal.specs.Runs.{IsNumbered, fault_count}
use Rattle.hib_order_law.specs.Orders.{IsRun, IsWithin, onto, steps_in}
use Rattle.hib_order_law.specs.Search.{AreTried}
use Rattle.hib_order_law.specs.declared.step.Step.{Step}
use Rattle.hib_order_schedule.specs.Schedules.{shown, with_schedule}
use Rattle.hib_order_stage.specs.Staged.{ended_in, judged_from_start, rows_at_start}
use Rattle.hib_order_text.specs.Texts.{found_of}
use Rattle.hib_order_text.specs.declared.findings.Finding.{Finding}
use Rattle.hib_order_tries.specs.Found.{AreFindings, IsFound, IsTold}
use Rattle.hib_order_tries.specs.declared.found.First.{First}
use Rattle.hib_order_tries.specs.declared.found.Found.{Found}
use Rattle.hib_order_tries.specs.declared.found.Findings.{Findings}
use Rattle.hib_toolbox.specs.Exploring.{IsShown, has_in}

-- what is found of each kind is so
found_is : (script : Script) (runs : List (List Entry)) (findings : Findings) (finding : Finding) →
    AreFindings (judged_from_start script) (ended_in script) runs findings → IsFound (has_in script finding) runs (found_of findings finding)
found_is script runs findings Finding.StaleHit f = f.stale_hit
found_is script runs findings Finding.OldList f = f.old_list
found_is script runs findings Finding.LostUpdate f = f.lost_update
found_is script runs findings Finding.UnsoundKey f = f.unsound_key
found_is script runs findings Finding.RefusedCommit f = f.refused_commit

-- the law of what is told
abbrev pub NoneLaw : Type 0
NoneLaw = (script : Script) (start : Tables) (has : List Entry → Bool) (most_kills most : ℕ) (runs : List (List Entry)) (found : Found) →
    AreTried script start most_kills most (most + 1) runs → IsFound has runs found → IfNone found.first ((es : List Entry) → IsWithin script start most_kills most es → has es ≡ false)

abbrev pub FirstLaw : Type 0
FirstLaw = (script : Script) (start : Tables) (has : List Entry → Bool) (most_kills most done : ℕ) (runs : List (List Entry)) (found : Found) →
    AreTried script start most_kills most done runs → IsFound has runs found →
    IfSome found.first (λ f. (es : List Entry) × IsRun script start most_kills es × (f.order.items ≡ steps_in es) × (has es ≡ true))

if_none : {A : Type 0} {P : Type 0} (o : Option A) → o ≡ None → IfNone o P → P
if_none {P = P} o e p = subst (λ z. IfNone z P) e p

pub none_told : (law : NoneLaw) (script : Script) (most_kills most : ℕ) (whole : Bool) (level : ℕ) (findings : Findings) →
    IsTold script (rows_at_start script) (judged_from_start script) (ended_in script) most_kills most whole level findings →
    (finding : Finding) → whole ≡ true → (found_of findings finding).first ≡ None →
    (es : List Entry) → IsWithin script (rows_at_start script) most_kills most es → has_in script finding es ≡ false
none_told law script most_kills most whole level findings told finding all none =
    let tried : AreTried script (rows_at_start script) most_kills most (most + 1) told.0 =
    subst (λ (b : Bool). AreTried script (rows_at_start script) most_kills most (cond b (most + 1) level) told.0) all told.1 in
    if_none (found_of findings finding).first none
    (law script (rows_at_start script) (has_in script finding) most_kills most told.0 (found_of findings finding) tried (found_is script told.0 findings finding told.2))

abbrev pub PlaysLaw : Type 0
PlaysLaw = (script : Script) (start : Tables) (most_kills : ℕ) (es : List Entry) → IsRun script start most_kills es → is_played (with_schedule script (shown (steps_in es))) (onto es []) ≡ true

abbrev pub AgainLaw : Type 0
AgainLaw = (script : Script) (start : Tables) (most_kills : ℕ) (es : List Entry) (h : Journal) → IsRun script start most_kills es →
    IsLegal (with_schedule script (shown (steps_in es))) (Some start) h → IsNumbered h → fault_count h ≡ 0 →
    is_played (with_schedule script (shown (steps_in es))) h ≡ true → h ≡ onto es []

shown_by : PlaysLaw → AgainLaw → (script : Script) (most_kills : ℕ) (finding : Finding) (f : First) (es : List Entry) → IsRun script (rows_at_start script) most_kills es →
    f.order.items ≡ steps_in es → has_in script finding es ≡ true → IsShown script most_kills finding f
shown_by plays again script most_kills finding f es run order has = record {
  es = es;
  run = run;
  order = order;
  has = has;
  played = subst (λ (o : List Step). is_played (with_schedule script (shown o)) (onto es []) ≡ true) (sym order) (plays script (rows_at_start script) most_kills es run);
  again = subst (λ (o : List Step). (h : Journal) → IsLegal (with_schedule script (shown o)) (Some (rows_at_start script)) h → IsNumbered h →
      fault_count h ≡ 0 → is_played (with_schedule script (shown o)) h ≡ true → h ≡ onto es []) (sym order)
      (λ h. again script (rows_at_start script) most_kills es h run);
}

pub first_told : (law : FirstLaw) → PlaysLaw → AgainLaw → (script : Script) (most_kills most : ℕ) (whole : Bool) (level : ℕ) (findings : Findings) →
    IsTold script (rows_at_start script) (judged_from_start script) (ended_in script) most_kills most whole level findings →
    (finding : Finding) → IfSome (found_of findings finding).first (IsShown script most_kills finding)
first_told law plays again script most_kills most whole level findings told finding =
    go (found_of findings finding).first
    (law script (rows_at_start script) (has_in script finding) most_kills most (cond whole (most + 1) level) told.0 (found_of findings finding) told.1 (found_is script told.0 findings finding told.2))
  where
    go : (o : Option First) → IfSome o (λ f. (es : List Entry) × IsRun script (rows_at_start script) most_kills es × (f.order.items ≡ steps_in es) × (has_in script finding es ≡ true)) →
        IfSome o (IsShown script most_kills finding)
    go None p = p
    go (Some f) p = shown_by plays again script most_kills finding f p.0 p.1 p.2 p.3
