use Rattle.std.proofs.Common.{◌≡◌, ◌∙◌, ap, subst, ℕ, List, Option}
use Rattle.std.specs.Prelude.{IfErr}
use Rattle.hib_lex.specs.declared.lexer.Token.{Token}
use Rattle.hib_mapping.specs.Parts.{entity_at, word_of}
use Rattle.hib_sections.specs.BulkLines.{before_where, changing_in, if_changing, parts_or}
use Rattle.hib_sections.specs.Collections.{IsFault}
use Rattle.hib_sections.specs.declared.bulk_lines.Changing.{Changing}
use Rattle.hib_sections.proofs.bulk_lines.with_condition.Goals as goal

pub returns-in-Ok-clause-fault : goal.returns-in-Ok-clause-fault
returns-in-Ok-clause-fault c =
    let m = c.args.mapping.now in
    let e : Option ℕ = entity_at m (word_of c.args.entity.now) in
    let number : c.entity_number-number.result ≡ e = c.entity_number-number.ensures ∙ ap (entity_at m) c.word_bytes.ensures in
    let changing : c.in-Ok.changing ≡ changing_in c.args.sets m e (before_where c.args.tokens.now) =
    c.in-Ok.ensures ∙ (ap (λ (n : Option ℕ). changing_in c.args.sets m n c.before_where.result.now) number ∙ ap (λ (ts : List Token). changing_in c.args.sets m e ts) c.before_where.ensures) in
    subst (λ (x : Option Changing). IfErr c.judged.result (IsFault (if_changing m c.args.named.now c.args.count (word_of c.args.name.now) e x (parts_or c.args.condition)))) changing c.judged.ensures.fault
