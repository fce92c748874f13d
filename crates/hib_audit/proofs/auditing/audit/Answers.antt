use Rattle.std.proofs.Common.{◌≡◌, ◌<◌, ◌^◌, ℕ, List, length, reverse, Some, sym, ap, subst, ◌∙◌}
use Rattle.std.proofs.lemmas.List.{length-reverse}
use Rattle.hib_journal.specs.Types.{Entry}
use Rattle.hib_journal.specs.Kept.{past}
use Rattle.hib_journal.specs.Sessions.{Journal}
use Rattle.hib_engines.proofs.Outcomes.{map_ok}
use Rattle.hib_audit.specs.Breaks.{start_rows}
use Rattle.hib_audit.specs.Audit.{IsVerdict}
use Rattle.hib_audit.proofs.Verdicts.{legal_iff, found_of, lawful_of}
use Rattle.hib_audit.proofs.auditing.audit.Goals as goal

pub first_bad-audit-requires-clause-few : goal.first_bad-audit-requires-clause-few
unfolding past
first_bad-audit-requires-clause-few c = subst (λ (n : ℕ). n < 2 ^ 32) (length-reverse c.args.journal.now.list ∙ ap (λ (xs : List Entry). length xs) (sym c.as_slice.ensures)) c.requires.few

pub returns : goal.returns
unfolding past
returns c =
    let script = c.args.script.now in
    let start = start_rows script in
    let whole = past c.args.journal.now in
    let same : reverse c.as_slice.result.now ≡ whole = ap (λ (xs : List Entry). reverse xs) c.as_slice.ensures in
    let found = c.first_bad-audit.ensures in
    record {
      legal = map_ok c.first_bad-audit.result _ _ found (λ a v. legal_iff script start whole a (subst (λ (h : Journal). IsVerdict script start h a) same (v c.close.ensures)));
      law = map_ok c.first_bad-audit.result _ _ found (λ a v. lawful_of script start whole a (λ l. c.law.ensures.law script start whole l) (λ l. c.lists_are_given.ensures.lists script (Some start) whole c.requires.valid l)
          (subst (λ (h : Journal). IsVerdict script start h a) same (v c.close.ensures)));
      illegal = map_ok c.first_bad-audit.result _ _ found (λ a v. found_of script start whole a (subst (λ (h : Journal). IsVerdict script start h a) same (v c.close.ensures)));
    }
