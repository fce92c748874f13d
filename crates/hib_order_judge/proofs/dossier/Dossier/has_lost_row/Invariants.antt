use Rattle.std.specs.List.{list_any}
use Rattle.std.proofs.Common.{◌≡◌, false, take}
use Rattle.hib_base.specs.Tables.{key_of}
use Rattle.hib_order_judge.specs.Dossiers.{changes_at, is_lost_row}
use Rattle.hib_order_judge.specs.Footings.{rest_at}
use Rattle.hib_order_judge.proofs.dossier.Dossier.has_lost_row.Given as goal

abbrev pub invariant-loop-change : goal.invariant-loop-change
invariant-loop-change l =
    list_any (λ c. is_lost_row l.rows (key_of c) (rest_at l.entries l.self.rests.entries (key_of c))) (changes_at (take l.change-index l.change-items)) ≡ false
