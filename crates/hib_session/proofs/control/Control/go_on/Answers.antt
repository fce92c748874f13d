use Rattle.std.proofs.Common.{◌≡◌, [], true, sym, ◌∙◌}
use Rattle.hib_session.specs.Control.{untaken, is_answering}
use Rattle.hib_session.proofs.Flushed.{recalls}
use Rattle.hib_session.proofs.Taken.{answers, open_queue}
use Rattle.hib_session.proofs.control.Control.go_on.Goals as goal

pub returns-then-is_answering_stage-clause-stands : goal.returns-then-is_answering_stage-clause-stands
returns-then-is_answering_stage-clause-stands c = λ mine k s.
    let q : c.args.self.now.queue ≡ [] = open_queue c.args.self.now.queue c.args.self.now.stage c.args.self.now.begins (untaken c.args.script.now c.args.self.now) c.requires in
    let a : is_answering c.args.self.now.stage ≡ true = sym c.is_answering_stage.ensures ∙ c.if-is_answering_stage.true in
    rw (c.answering-self.ensures.decided mine (recalls c.args.memory.now mine k)) (answers c.args.script.now c.args.self.now mine s q a)
