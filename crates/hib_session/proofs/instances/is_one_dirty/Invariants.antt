use Rattle.std.proofs.Common.{◌≡◌, Bool, ◌&&◌, nat_lt, drop}
use Rattle.std.specs.List.{list_any}
use Rattle.hib_identity_map.specs.Identity.{look_in}
use Rattle.hib_journal.specs.Types.{Key}
use Rattle.hib_journal.specs.Query.{reads}
use Rattle.hib_session.specs.Instances.{is_pending}
use Rattle.hib_session.proofs.instances.is_one_dirty.Given as goal

-- of no key so far
abbrev pub invariant-loop-key : goal.invariant-loop-key
invariant-loop-key l =
    let asked : Key → Bool = λ k. (nat_lt k.entity l.entities && reads l.query k.entity) && is_pending (look_in l.map.held k) in
    list_any asked l.keys ≡ list_any asked (drop l.key-index l.keys)
