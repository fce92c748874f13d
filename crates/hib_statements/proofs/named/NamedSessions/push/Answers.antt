use Rattle.std.proofs.Common.{◌≡◌, bytes_eq, sym, ◌∙◌}
use Rattle.hib_statements.proofs.SessionPlaces.{position_last}
use Rattle.hib_statements.proofs.named.NamedSessions.push.Goals as goal

pub invariant_of-self-2 : goal.invariant_of-self-2
invariant_of-self-2 c = λ w.
    let ss = c.self.inside.sessions in
    let name : c.in_ok-name.name.items ≡ c.args.session.name = c.in_ok-name.ensures.items ∙ c.as_slice.ensures in
    rw (c.in_ok-push.ensures.ok, c.note.ensures w, c.in_ok-reserve.ensures.entries, name, c.len-place.ensures, c.self.invariant w)
    (sym (position_last (λ s. bytes_eq s.name w) ss c.args.session))
