use Rattle.std.proofs.Common.{◌≡◌, ◌∙◌, true, false, sym, refl, is_some}
use Rattle.std.specs.Map.{keys_of as keys_in, lookup}
use Rattle.hib_base.specs.Keys.{same_key}
use Rattle.hib_completion.specs.Completed.{is_key_in}
use Rattle.hib_completion.proofs.Noted.{is_there, new_last}
use Rattle.hib_nodes.proofs.keys.note.Goals as goal

pub returns-in_ok-insert : goal.returns-in_ok-insert
returns-in_ok-insert c =
    let ps = c.args.keys.now.entries in
    let none : is_some (lookup (same_key c.args.key) ps) ≡ false = sym c.if-not-contains_key.ensures in
    let out : is_key_in c.args.key (keys_in ps) ≡ false = sym (is_there c.args.key ps) ∙ none in
    rw (c.in_ok-insert.ensures.entries, out) (new_last c.args.key tt ps none)

pub returns-else-not-contains_key : goal.returns-else-not-contains_key
returns-else-not-contains_key c =
    let ps = c.args.keys.now.entries in
    let there : is_some (lookup (same_key c.args.key) ps) ≡ true = sym c.if-not-contains_key.ensures in
    let among : is_key_in c.args.key (keys_in ps) ≡ true = sym (is_there c.args.key ps) ∙ there in
    rw among refl
