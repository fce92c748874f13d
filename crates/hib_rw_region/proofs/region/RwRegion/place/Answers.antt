use Rattle.std.specs.Prelude.{false, ◌==◌}
use Rattle.std.specs.Option.{option_map_or}
use Rattle.std.proofs.Common.{nat_eq, sym, ap, ◌∙◌}
use Rattle.std.specs.Map.{remove_entry}
use Rattle.hib_room_laws.specs.Queued.{queued}
use Rattle.hib_rw_region.specs.Region.{RegionState}
use Rattle.hib_rw_region.specs.Steps.{with_slot, without}
use Rattle.hib_rw_region.proofs.Writes.{placed}
use Rattle.hib_rw_region.proofs.region.RwRegion.place.Goals as goal

pub returns-in-Some-clause-ok : goal.returns-in-Some-clause-ok
returns-in-Some-clause-ok c =
    let s : RegionState = record { capacity = c.self.inside.capacity; timeout = c.self.inside.timeout; slots = queued c.self.inside.front.entries c.self.inside.back.entries } in
    placed c.in-Some.key c.args.id c.args.slot s (queued c.remove.new.front.entries c.remove.new.back.entries) (ap (λ x. option_map_or (λ v. v == c.args.id) x false) (sym c.in-Some.is) ∙ c.requires)
    (c.remove.ensures ∙ ap (remove_entry (nat_eq c.in-Some.key)) c.in_ok-set.ensures.ok)
    ∙ ap (λ e. with_slot c.args.id c.args.slot (without e s)) (sym c.in-Some.is)
    ∙ ap (λ t. with_slot c.args.id c.args.slot (without c.args.evicted t)) c.self.view_is
