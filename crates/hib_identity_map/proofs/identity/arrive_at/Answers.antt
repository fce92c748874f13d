use Rattle.std.proofs.Common.{◌≡◌, ◌∙◌, None, sym, ap}
use Rattle.hib_identity_map.specs.Identity.{look_in, add_in, drop_in}
use Rattle.hib_identity_map.proofs.Entries.{look_same, add_same}
use Rattle.hib_identity_map.proofs.identity.arrive_at.Goals as goal

pub returns-clause-ok : goal.returns-clause-ok
returns-clause-ok c =
    let n : look_in c.shift_remove.new.self.entries c.args.key.now ≡ None = sym (look_same c.args.key.now c.shift_remove.new.self.entries) ∙ c.shift_remove.ensures.updates.1 in
    c.in_ok-insert.ensures.entries ∙ (add_same c.args.key.now c.args.held c.shift_remove.new.self.entries n
    ∙ ap (add_in c.args.key.now c.args.held) (c.shift_remove.ensures.entries ∙ ap (drop_in c.args.key.now) c.in_ok-reserve.ensures.entries))
