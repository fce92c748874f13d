use Rattle.std.proofs.Common.{◌≡◌, ◌∷◌, ◌++◌, ◌∙◌, Some, Option, ap, rules}
use Rattle.hib_journal.specs.Types.{Key}
use Rattle.hib_states.specs.States.{copied_by}
use Rattle.hib_states.specs.Texts.{fact_text}
use Rattle.hib_states.proofs.Seated.{IsOwn, own_of}
use Rattle.hib_states.proofs.Told.{copies_put}
use Rattle.hib_states.proofs.copies.put_copies.Goals as goal

pub returns : goal.returns
returns c =
    let by : c.args.entry.now.session ≡ Some c.in-Some.session = search rules in
    λ start h l w.
    let o : IsOwn c.args.script.now h c.in-Some.session c.args.entry.now = own_of c.args.script.now start h c.in-Some.session c.args.entry.now l by in
    copies_put c.args.script.now c.args.number h c.args.entry.now c.in-Some.session c.args.out.now.items c.put_copied.new.out.items c.put_break.new.out.items by
    (c.in_ok-put_copied.ensures (c.args.entry.now ∷ h) w o.after o.within
    ∙ ap (λ (k : Option Key). c.args.out.now.items ++ fact_text c.args.script.now c.args.number (copied_by (c.args.entry.now ∷ h) c.in-Some.session k)) c.copied_in-key.ensures)
    c.in_ok-put_break.ensures
