-- What results come to when a borrow of them has ended.
use Rattle.std.specs.Prelude.{◌≡◌, ⊤}
use Rattle.std.specs.Borrow.{Fml, MutBor, follows_so}
use mathlib.Core.Option.{none}
use Rattle.hib_query_cache.specs.Ranked.{Ranked}
use Rattle.hib_query_cache.specs.contracts.results.Results.{the_row}

-- the results are these once the borrow has ended
abbrev pub EndsAs : MutBor Ranked → Ranked → Fml
EndsAs r after = follows_so the_row the_row r.ghost_name none (λ _ _. ⊤) (λ n. n ≡ after)
