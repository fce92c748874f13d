-- What is said of lines by writes that are filed, for the clauses inside the crate.
use Rattle.std.specs.Prelude.{◌≡◌, ◌<◌, ℕ, List, Option, Some, None, Vec, length}
use Rattle.std.specs.List.{slice_index_or}
use Rattle.std.specs.declared.alloc.Global.{Global}
use Rattle.hib_traces.specs.Places.{AreInOrder, ArePlaces}
use Rattle.hib_traces.specs.Stands.{Stands}
use Rattle.hib_traces.specs.declared.order.Order.{Order}
use Rattle.hib_traces.specs.declared.places.Place.{Place}
use Rattle.hib_trace_lines.specs.declared.events.Operation.{Operation}
use Rattle.hib_trace_findings.specs.Judged.{lives_of}
use Rattle.hib_trace_findings.specs.declared.kinds.Judgement.{Judgement}
use Rattle.hib_trace_calls.specs.Ends.{looked}
use Rattle.hib_trace_calls.specs.Writes.{row_write_if}
use Rattle.hib_trace_calls.specs.declared.calls.Call.{Call}
use Rattle.hib_trace_calls.specs.declared.calls.Fate.{Fate}
use Rattle.hib_trace_calls.specs.declared.calls.Write.{Write}
use Rattle.hib_trace_filed.specs.Keys.{commit_of, earlier}
use Rattle.hib_trace_law.specs.declared.commits.Commit.{Commit}
use Rattle.hib_trace_lists.specs.Lists.{IsListJudged}
use Rattle.hib_trace_lists.specs.Loads.{AreAllInOrder, TellLoads}
use Rattle.hib_trace_lists.specs.declared.lists.Lists.{Lists}
use Rattle.hib_trace_filed.specs.Own.{has_own}
use Rattle.hib_trace_filed.specs.declared.filed.Filed.{Filed}
use Rattle.hib_trace_filed.specs.declared.limits.Limits.{Limits}
use Rattle.hib_trace_judge.specs.Hits.{IsHitFound, answer_of}
use Rattle.hib_trace_judge.specs.Updates.{IsUpdateJudged}

pub record AreReady (n : ℕ) (f : Filed) : Type 0 where
  pub commits : length f.commits.items ≡ n
  pub lives : length f.lives.items ≡ n
  pub undone : length f.undone.items ≡ n
  pub commits_stand : (k : ℕ) (d : Order) → k < n → Stands (slice_index_or f.commits.items k d)
  pub lives_stand : (k : ℕ) (d : Vec Place Global) → k < n → AreInOrder (slice_index_or f.lives.items k d).items
  pub undone_stand : (k : ℕ) (d : Order) → k < n → Stands (slice_index_or f.undone.items k d)

abbrev pub IsHitFoundIn : ℕ → Filed → ℕ → Limits → Call → Judgement → Type 0
IsHitFoundIn none f k m c j = (d e : Order) (v : Vec Place Global) →
    ArePlaces (slice_index_or f.commits.items k d).commits.items (lives_of none (slice_index_or f.commits.items k d).commits.items)
    (slice_index_or f.lives.items k v).items →
    IsHitFound none (slice_index_or f.commits.items k d).commits.items (slice_index_or f.undone.items k e).commits.items
    (has_own f.owns c.transaction k c.row) (answer_of m c) j

abbrev pub IsKeyFound : Option ℕ → ℕ → Filed → Limits → Call → Option Judgement → Type 0
IsKeyFound None none f m c None = Unit {0}
IsKeyFound None none f m c (Some j) = ⊥
IsKeyFound (Some k) none f m c None = ⊥
IsKeyFound (Some k) none f m c (Some j) = IsHitFoundIn none f k m c j

abbrev pub IsWriteFound : Option Write → Filed → Limits → Option ℕ → Option Judgement → Type 0
IsWriteFound None f m base j = j ≡ None
IsWriteFound (Some w) f m base j = (d : Order) → IsUpdateJudged (slice_index_or f.commits.items w.key d).commits.items (commit_of m w) base j

abbrev pub IsWriteFoundIn : Filed → List (Option Fate) → Limits → Call → Option Judgement → Type 0
IsWriteFoundIn f fates m c j = IsWriteFound (row_write_if (looked fates c.transaction) c c.key c.table) f m c.base j

pub record AreListsReady (n : ℕ) (l : Lists) : Type 0 where
  pub count : length l.loads.items ≡ n
  pub order : AreAllInOrder l.loads.items

abbrev pub IsListFound : Option ℕ → Lists → Limits → Call → Option Judgement → Type 0
IsListFound None l m c None = Unit {0}
IsListFound None l m c (Some j) = ⊥
IsListFound (Some k) l m c None = ⊥
IsListFound (Some k) l m c (Some j) = (clock : ℕ) (of : ℕ → List Commit) (cs : List Call) → TellLoads clock of cs l.loads.items →
    IsListJudged clock of cs k c.row (earlier c.begin m.allow) c.end j

abbrev pub IsOperationFound : Operation → ℕ → Filed → Lists → List (Option Fate) → Limits → Call → Option Judgement → Type 0
IsOperationFound Operation.Hit none f l fates m c j = IsKeyFound c.key none f m c j
IsOperationFound Operation.ListHit none f l fates m c j = IsListFound c.key l m c j
IsOperationFound Operation.Write none f l fates m c j = IsWriteFoundIn f fates m c j
IsOperationFound _ none f l fates m c j = j ≡ None
