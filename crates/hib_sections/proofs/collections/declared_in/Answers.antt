use Rattle.std.proofs.Common.{◌∙◌}
use Rattle.hib_sections.proofs.Five.{five}
use Rattle.hib_sections.proofs.collections.declared_in.Goals as goal

pub returns-in-len5 : goal.returns-in-len5
returns-in-len5 c =
    c.declared_by.ensures
    ∙ five c.args.mapping.now c.args.defs.now c.args.tokens.now c.name-item.result c.entity-item.result c.column-item.result c.capacity-item.result c.in-len5.len_at_least c.in-len5.len_below
    c.name-item.is c.entity-item.is c.column-item.is c.capacity-item.is
