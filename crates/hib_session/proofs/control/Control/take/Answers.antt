use Rattle.std.specs.Prelude.{[]}
use Rattle.std.specs.Option.{option_map_or}
use Rattle.std.proofs.Common.{◌≡◌, ◌∷◌, ◌+◌, drop, slice_get, arith}
use Rattle.std.proofs.lemmas.Grind.{common_steps}
use Rattle.hib_session.specs.Control.{untaken}
use Rattle.hib_session.proofs.Taken.{takes}
use Rattle.hib_session.proofs.control.Control.take.Goals as goal

pub returns-clause-stands : goal.returns-clause-stands
returns-clause-stands c = λ mine r s.
    let there : untaken c.args.script.now c.args.self.now ≡ c.index-statements_of-self.result ∷ drop (c.args.self.now.place + 1) (option_map_or (λ d. d.statements) (slice_get c.args.script.now.sessions c.args.self.now.number) []) = grind (arith, common_steps) in
    rw c.of.ensures (takes c.args.script.now c.args.self.now mine c.index-statements_of-self.result c.in_ok-queue.queue _ _ _ s c.requires.empty c.requires.idle c.requires.begun there
    (λ go. c.in_ok-queue.ensures mine go r) c.mode_from-self.ensures c.is_end-self.ensures)
