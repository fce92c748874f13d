use Rattle.std.proofs.Common.{◌≡◌, ◌∙◌, ◌∷◌, ◌++◌, ap, List, ℕ, rules}
use Rattle.hib_flat.specs.Lines.{in_quotes}
use Rattle.hib_texts.specs.Texts.{entity_text}
use Rattle.hib_flat.proofs.Pieces.{joined_names}
use Rattle.hib_flat.proofs.lists.put_joined_names.Goals as goal

pub returns-in_ok-put_more_names-in-Some : goal.returns-in_ok-put_more_names-in-Some
returns-in_ok-put_more_names-in-Some c =
    let split : c.args.names.now ≡ c.in-Some.first.now ∷ c.in-Some.rest.now = search rules in
    let first : c.put_quoted.new.out.items ≡ c.args.out.now.items ++ in_quotes (entity_text c.args.script.now c.in-Some.first.now) = c.in_ok-put_quoted-in-Some.ensures ∙ ap (λ (w : List ℕ). c.args.out.now.items ++ in_quotes w) c.entity_name.ensures in
    joined_names c.args.script.now c.in-Some.first.now c.in-Some.rest.now c.args.names.now c.args.out.now.items c.put_quoted.new.out.items c.put_more_names.new.out.items split first c.in_ok-put_more_names-in-Some.ensures
