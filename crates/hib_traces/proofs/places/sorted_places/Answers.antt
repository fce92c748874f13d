use Rattle.std.proofs.Common.{◌≡◌, rules, arith}
use Rattle.std.proofs.lemmas.Fn.{always_returns_same}
use Rattle.hib_traces.specs.declared.places.Place.{Place}
use Rattle.hib_traces.proofs.Sorted.{sorted_from}
use Rattle.hib_traces.proofs.places.sorted_places.Goals as goal

pub returns-clause-sorted : goal.returns-clause-sorted
returns-clause-sorted c =
    sorted_from c.sort_by_key.new.self.items
    (λ k d l. c.in_ok-sort_by_key.ensures.sorted (λ (p : Place). (p.row, p.ready))
    (always_returns_same _ (λ a r. r ≡ (a.0.now.row, a.0.now.ready)) _ (λ a r q k. search rules)) k d (omega arith) l)
