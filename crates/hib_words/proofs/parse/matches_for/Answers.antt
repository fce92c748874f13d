use Rattle.std.proofs.Common.{rules, ◌≡◌, ◌∙◌, map, string_bytes, sym, ap, subst}
use Rattle.clap.specs.Words.{App, app_of, is_simple, matches_of}
use Rattle.clap.specs.Faults.{fault_of, is_simple_and_free}
use Rattle.clap.specs.Kinds.{HasKind}
use Rattle.hib_words.specs.Clap.{app_for}
use Rattle.hib_words.specs.Commands.{form_of, verb_word}
use Rattle.hib_words.proofs.Parsed.{all_of_texts, at_err, at_ok, free, simple, unfit}
use Rattle.hib_words.proofs.parse.matches_for.Goals as goal

pub returns-then-not-all_fit_after_first : goal.returns-then-not-all_fit_after_first
returns-then-not-all_fit_after_first c =
    unfit c.args.verb (map string_bytes c.args.words.now) (sym (all_of_texts string_bytes c.args.words.now) ∙ (sym c.all_fit_after_first.ensures ∙ search rules))

pub returns-in-Ok : goal.returns-in-Ok
returns-in-Ok c =
    let is : app_of c.in_ok-command.command ≡ app_for (verb_word c.args.verb) (form_of c.args.verb) = c.in_ok-command.ensures in
    at_ok c.args.verb (map string_bytes c.args.words.now) c.in-Ok.matches
    (sym (all_of_texts string_bytes c.args.words.now) ∙ (sym c.all_fit_after_first.ensures ∙ search rules))
    (ap (λ (a : App). fault_of a (map string_bytes c.args.words.now)) (sym is) ∙ c.in-Ok.ensures.kinds (ap is_simple_and_free is ∙ free c.args.verb))
    ((c.in-Ok.ensures.matches (ap is_simple is ∙ simple c.args.verb)).0 ∙ ap (λ (a : App). matches_of a (map string_bytes c.args.words.now)) is)

pub returns : goal.returns
returns c =
    let is : app_of c.in_ok-command.command ≡ app_for (verb_word c.args.verb) (form_of c.args.verb) = c.in_ok-command.ensures in
    at_err c.args.verb (map string_bytes c.args.words.now) c.in-Err.error
    (sym (all_of_texts string_bytes c.args.words.now) ∙ (sym c.all_fit_after_first.ensures ∙ search rules))
    (subst (λ (a : App). HasKind (fault_of a (map string_bytes c.args.words.now)) c.in-Err.error) is (c.in-Err.ensures.kinds (ap is_simple_and_free is ∙ free c.args.verb)))
    (λ e. c.in_default.not-OutOfMemory (c.kind.ensures ∙ e))
