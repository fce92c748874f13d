use Rattle.std.proofs.Common.{sym, ◌∙◌}
use Rattle.hib_bulk.specs.Kept.{past}
use Rattle.hib_bulk.specs.Run.{IsTurn, IsSwept}
use Rattle.hib_bulk.proofs.Moved.{turn_of, old_of, moves_of}
use Rattle.hib_bulk.proofs.turns.take_turn.Goals as goal

pub serve-requires-clause-swept : goal.serve-requires-clause-swept
serve-requires-clause-swept g c = λ k p.
    let turn : IsTurn g.N.Name.script (past c.args.journal.now) c.ready.new.self c.in-Some.act =
    turn_of c.args.script.now g.N.Name.script (past c.args.journal.now) c.args.session.now c.ready.new.self c.in_ok-act.field-0 c.in-Some.act c.requires.script
    c.in_ok-ready.ensures.number c.requires.known c.requires.follows c.in_ok-ready.ensures.follows c.in_ok-act.ensures.act c.in_ok-act.ensures.due c.in-Some.is in
    sym (old_of c.answers.ensures.old g.N.Name.script g.N.Name.lines g.N.Name.from (past c.args.journal.now) c.ready.new.self c.in-Some.act c.args.parts.now k c.requires.run turn p)
    ∙ c.old_for.ensures.none c.in_default-old_for.is k p

pub returns-clause-did : goal.returns-clause-did
returns-clause-did g c = λ _.
    let h = past c.args.journal.now in
    let turn : IsTurn g.N.Name.script h c.ready.new.self c.in-Some.act =
    turn_of c.args.script.now g.N.Name.script (past c.args.journal.now) c.args.session.now c.ready.new.self c.in_ok-act.field-0 c.in-Some.act c.requires.script
    c.in_ok-ready.ensures.number c.requires.known c.requires.follows c.in_ok-ready.ensures.follows c.in_ok-act.ensures.act c.in_ok-act.ensures.due c.in-Some.is in
    let free : IsSwept g.N.Name.script h c.in-Some.act = λ k p.
    sym (old_of c.answers.ensures.old g.N.Name.script g.N.Name.lines g.N.Name.from h c.ready.new.self c.in-Some.act c.args.parts.now k c.requires.run turn p)
    ∙ c.old_for.ensures.none c.in_default-old_for.is k p in
    moves_of c.args.script.now g.N.Name.script g.N.Name.lines g.N.Name.from c.in-Some.act h (past c.serve.new.journal) c.args.parts.now c.serve.new.parts c.args.session.now c.ready.new.self
    c.serve.new.session c.requires.script c.in_ok-ready.ensures.number c.in_ok-ready.ensures.left turn free c.in_ok-serve.ensures.ok
