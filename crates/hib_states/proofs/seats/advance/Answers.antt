use Rattle.std.proofs.lemmas.Result.{on_ok_weaker}
use Rattle.hib_states.proofs.Seated.{seat_taken}
use Rattle.hib_states.proofs.seats.advance.Goals as goal

pub returns : goal.returns
returns c =
    on_ok_weaker c.advance.result
    (λ f h a live i t. seat_taken c.args.script.now h c.number.inside.0 c.args.number c.args.entry.now c.args.sessions.now.items c.index_mut.result.now c.advance.new.self
    c.number.view_is c.index_mut.ensures.value c.requires.by a c.requires.there live i t c.advance.ensures.number f)
    c.advance.ensures.follows
