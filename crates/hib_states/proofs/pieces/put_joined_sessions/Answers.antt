use Rattle.std.proofs.Common.{◌≡◌, ◌∙◌, ◌∷◌, ◌++◌, ap, List, ℕ, rules}
use Rattle.hib_flat.specs.Lines.{in_quotes}
use Rattle.hib_texts.specs.Texts.{session_text}
use Rattle.hib_states.proofs.Named.{joined_sessions}
use Rattle.hib_states.proofs.pieces.put_joined_sessions.Goals as goal

pub returns-in_ok-put_more_sessions-in-Some : goal.returns-in_ok-put_more_sessions-in-Some
returns-in_ok-put_more_sessions-in-Some c =
    let split : c.args.sessions.now ≡ c.in-Some.first.now ∷ c.in-Some.rest.now = search rules in
    let first : c.put_quoted.new.out.items ≡ c.args.out.now.items ++ in_quotes (session_text c.args.script.now c.in-Some.first.now) =
    c.in_ok-put_quoted-in-Some.ensures ∙ ap (λ (w : List ℕ). c.args.out.now.items ++ in_quotes w) c.session_name.ensures in
    joined_sessions c.args.script.now c.in-Some.first.now c.in-Some.rest.now c.args.sessions.now c.args.out.now.items c.put_quoted.new.out.items
    c.put_more_sessions.new.out.items split first c.in_ok-put_more_sessions-in-Some.ensures
