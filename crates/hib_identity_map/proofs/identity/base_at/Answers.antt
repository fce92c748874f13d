use Rattle.std.proofs.Common.{sym, ap, ◌∙◌}
use Rattle.indexmap.specs.IndexMap.{set_value_at}
use Rattle.hib_identity_map.specs.Identity.{written}
use Rattle.hib_identity_map.proofs.Entries.{changed, unchanged}
use Rattle.hib_identity_map.proofs.identity.base_at.Goals as goal

pub returns-in_default : goal.returns-in_default
returns-in_default c = unchanged c.args.key (written c.args.base) c.args.entries.now.entries c.in_default.ensures.found

pub returns : goal.returns
returns c =
    ap (set_value_at c.args.entries.now.entries c.in-Some.index) c.set_base.ensures
    ∙ changed c.args.key c.in-Some.index (written c.args.base) c.args.entries.now.entries c.index_mut-held.result.now (sym c.in-Some.ensures.index) c.index_mut-held.ensures.value
