use Rattle.std.proofs.Common.{◌≡◌, ℕ, ◌<◌, ◌^◌, true, take}
use Rattle.std.specs.List.{list_any}
use Rattle.hib_journal.specs.Types.{Cell}
use Rattle.hib_journal.specs.Query.{same_cell}
use Rattle.hib_query_eval.specs.Places.{has_place, has_id}
use Rattle.hib_query_eval.proofs.candidates.among.Given as goal

-- the rows with one of the cells so far are there
abbrev pub invariant-loop-cell : goal.invariant-loop-cell
invariant-loop-cell l =
    (i : ℕ) (d : Cell) → i < 2 ^ 64 → has_place l.places.keys i d ≡ true → list_any (λ c. same_cell d c) (take l.cell-index l.cells) ≡ true
    → has_id i l.ids.items ≡ true
