use Rattle.std.specs.Prelude.{true}
use Rattle.hib_journal.specs.Query.{holds}
use Rattle.std.specs.Option.{option_map_or}
use Rattle.std.proofs.Common.{◌≡◌, map, take}
use Rattle.hib_query_eval.specs.Places.{has_id}
use Rattle.hib_query_eval.proofs.Found.{kept}
use Rattle.hib_query_eval.proofs.searches.found.Given as goal

-- the rows of the identifiers so far
abbrev pub invariant-loop-id : goal.invariant-loop-id
invariant-loop-id l =
    map (λ r. r.now) l.met.items ≡ kept l.query.entity (λ a. option_map_or (holds l.view a.1) l.query.condition true) (λ m. has_id m (take l.id-index l.ids)) l.view
