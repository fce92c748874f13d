use Rattle.std.proofs.Common.{◌≡◌, length, rules}
use Rattle.hib_listeners.proofs.Places.{indexed_with, not_indexed}
use Rattle.hib_listeners.proofs.regions.declare.Goals as goal

pub returns-then-eq-clause-index : goal.returns-then-eq-clause-index
returns-then-eq-clause-index c = rw c.in_ok-push.ensures.items (not_indexed c.args.index.now.items _ c.requires)

pub returns-clause-index : goal.returns-clause-index
returns-clause-index c =
    let at : c.len-2.result ≡ length c.args.places.now.items = search rules in
    let number : c.none_of.result.entity ≡ length c.args.index.now.items = search rules in
    rw (c.in_ok-push-2.ensures.items, c.in_ok-push-3.ensures.items) (indexed_with c.args.index.now.items c.args.places.now.items c.len-2.result c.none_of.result c.requires at number)
