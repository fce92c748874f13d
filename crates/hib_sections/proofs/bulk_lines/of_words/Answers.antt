use Rattle.std.proofs.Common.{◌≡◌, ◌∙◌, ap, subst, sym, ℕ, List, Option, Result}
use Rattle.std.specs.Prelude.{IfErr}
use Rattle.hib_base.specs.declared.refusals.Kind.{Kind}
use Rattle.hib_base.specs.declared.scripts.EntityDef.{EntityDef}
use Rattle.hib_base.specs.declared.scripts.Node.{Node}
use Rattle.hib_mapping.specs.Parts.{entity_at, word_of}
use Rattle.hib_sections.specs.BulkLines.{condition_in, parts_or, with_condition}
use Rattle.hib_sections.specs.Collections.{IsFault}
use Rattle.hib_sections.proofs.bulk_lines.of_words.Goals as goal

pub returns-in-Ok-clause-fault : goal.returns-in-Ok-clause-fault
returns-in-Ok-clause-fault c =
    let m : List EntityDef = c.args.mapping.now in
    let w : List ℕ = word_of c.args.entity.now in
    let number : c.entity_number-number.result ≡ entity_at m w =
    c.entity_number-number.ensures ∙ (ap (λ (x : List EntityDef). entity_at x c.word_bytes.result.now) c.as_slice.ensures ∙ ap (entity_at m) c.word_bytes.ensures) in
    let condition : parts_or c.in-Ok.condition ≡ condition_in m (entity_at m w) c.args.tokens.now = sym c.in-Ok.ensures ∙ ap (λ (n : Option ℕ). condition_in m n c.args.tokens.now) number in
    subst (λ (x : Result (List Node) Kind). IfErr c.with_condition.result (IsFault (with_condition c.args.sets m c.args.named.now c.args.count (word_of c.args.name.now) (entity_at m w) c.args.tokens.now x))) condition
    (subst (λ (x : List EntityDef). IfErr c.with_condition.result (IsFault (with_condition c.args.sets x c.args.named.now c.args.count (word_of c.args.name.now) (entity_at x w) c.args.tokens.now (parts_or c.in-Ok.condition))))
    c.as_slice-in-Ok.ensures c.with_condition.ensures.fault)
