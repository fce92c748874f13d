use Rattle.std.proofs.Common.{◌||◌, ap, sym, ◌∙◌}
use Rattle.hib_base.specs.Keys.{same_key}
use Rattle.hib_base.specs.Tables.{key_of}
use Rattle.hib_session.proofs.KeyMaps.{key_more, change_more}
use Rattle.hib_session.proofs.changed.Changed.push.Goals as goal

pub invariant_of-self : goal.invariant_of-self
invariant_of-self c = λ k.
    let j = key_of c.args.change in
    rw (c.add.ensures, c.push_reserved.ensures.items, c.key.ensures)
    (key_more k j c.self.inside.keys.keys ∙ (ap (λ b. b || same_key j k) (c.self.invariant k) ∙ sym (change_more k c.self.inside.list.items c.args.change)))
