use Rattle.std.proofs.Common.{◌∙◌, ap, subst, ℕ, Option}
use Rattle.std.specs.Prelude.{IfErr}
use Rattle.hib_mapping.specs.Parts.{entity_at, word_of}
use Rattle.hib_sections.specs.BulkLines.{if_known, parts_or}
use Rattle.hib_sections.specs.Collections.{IsFault}
use Rattle.hib_sections.proofs.bulk_lines.of_named.Goals as goal

pub returns-clause-fault : goal.returns-clause-fault
returns-clause-fault c =
    subst (λ (e : Option ℕ). IfErr c.of_entity.result (IsFault (if_known c.args.mapping.now c.args.count (word_of c.args.name.now) e c.args.changing (parts_or c.args.condition))))
    (c.entity_number-entity.ensures ∙ ap (entity_at c.args.mapping.now) c.word_bytes.ensures) c.of_entity.ensures.fault
