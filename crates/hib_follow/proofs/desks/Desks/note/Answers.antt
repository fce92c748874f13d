use Rattle.std.proofs.Common.{rules}
use Rattle.std.proofs.lemmas.Result.{on_ok_weaker}
use Rattle.hib_follow.proofs.Noted.{noted_at}
use Rattle.hib_follow.proofs.desks.Desks.note.Goals as goal

pub returns : goal.returns
returns c =
    on_ok_weaker c.note.result
    (λ f es h at a. noted_at es c.session.inside.0 c.in-Some.session c.args.entry.now h c.reach.new.self.all.items c.index_mut.result.now c.note.new.self
    c.session.view_is c.index_mut.ensures.value (search rules) c.in_ok-reach.ensures.there (c.in_ok-reach.ensures.known es h a) (λ mine. f es mine at))
    c.note.ensures
