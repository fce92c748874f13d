use Rattle.std.proofs.Common.{◌≡◌, false, sym, ◌∙◌, subst, refl}
use Rattle.hib_journal.specs.Kept.{past}
use Rattle.hib_journal.specs.Played.{has_next}
use Rattle.hib_session.specs.Session.{number_of}
use Rattle.hib_core.proofs.Going.{member_ready, turn_of, over_killed, over_of}
use Rattle.hib_core.proofs.Moved.{leaves_of, leaves_on, moves_of, refused_none}
use Rattle.hib_core.proofs.turns.take_turn.Goals as goal

pub serve-requires-clause-turn : goal.serve-requires-clause-turn
serve-requires-clause-turn g c =
    let z = c.ready.new.self in
    let m = member_ready c.args.script.now g.N.Name.script (past c.args.journal.now) c.args.session.now z c.requires.script c.requires.member
    c.in_ok-ready.ensures.number c.in_ok-ready.ensures.killed c.in_ok-ready.ensures.follows in
    turn_of c.args.script.now g.N.Name.script (past c.args.journal.now) z c.in_ok-act.field-0 c.in-Some.act c.requires.script m
    c.in_ok-act.ensures.act c.in_ok-act.ensures.due c.in_ok-act.ensures.killed c.in-Some.is

pub returns-then-was_killed-clause-done : goal.returns-then-was_killed-clause-done
returns-then-was_killed-clause-done g c = λ e. over_killed g.N.Name.script (past c.args.journal.now) c.args.session.now c.requires.member (sym c.was_killed.ensures ∙ c.if-was_killed.true)

pub returns-then-was_killed-clause-still : goal.returns-then-was_killed-clause-still
returns-then-was_killed-clause-still g c = λ n.
    leaves_of g.N.Name.script g.N.Name.script (past c.args.journal.now) (past c.args.journal.now) c.args.engines.now c.args.engines.now c.args.session.now c.args.session.now refl refl (refused_none g.N.Name.script (past c.args.journal.now) (number_of c.args.session.now) c.args.engines.now) (λ mine f. f)

pub returns-in_err-ready-clause-still : goal.returns-in_err-ready-clause-still
returns-in_err-ready-clause-still g c = λ n.
    leaves_of c.args.script.now g.N.Name.script (past c.args.journal.now) (past c.args.journal.now) c.args.engines.now c.args.engines.now c.args.session.now c.ready.new.self c.requires.script refl (refused_none g.N.Name.script (past c.args.journal.now) (number_of c.args.session.now) c.args.engines.now) c.in_err-ready.ensures.follows

pub returns-in_err-act-clause-still : goal.returns-in_err-act-clause-still
returns-in_err-act-clause-still g c = λ n.
    leaves_of c.args.script.now g.N.Name.script (past c.args.journal.now) (past c.args.journal.now) c.args.engines.now c.args.engines.now c.args.session.now c.ready.new.self c.requires.script refl (refused_none g.N.Name.script (past c.args.journal.now) (number_of c.args.session.now) c.args.engines.now) c.in_ok-ready.ensures.follows

pub returns-in_default-clause-done : goal.returns-in_default-clause-done
returns-in_default-clause-done g c = λ e.
    let z = c.ready.new.self in
    let m = member_ready c.args.script.now g.N.Name.script (past c.args.journal.now) c.args.session.now z c.requires.script c.requires.member
    c.in_ok-ready.ensures.number c.in_ok-ready.ensures.killed c.in_ok-ready.ensures.follows in
    subst (λ n. has_next g.N.Name.script (past c.args.journal.now) n ≡ false) c.in_ok-ready.ensures.number
    (over_of c.args.script.now g.N.Name.script (past c.args.journal.now) z c.in_ok-act.field-0 c.requires.script m c.in_ok-act.ensures.act c.in_default.is)

pub returns-in_default-clause-still : goal.returns-in_default-clause-still
returns-in_default-clause-still g c = λ n.
    leaves_of c.args.script.now g.N.Name.script (past c.args.journal.now) (past c.args.journal.now) c.args.engines.now c.args.engines.now c.args.session.now c.ready.new.self c.requires.script refl (refused_none g.N.Name.script (past c.args.journal.now) (number_of c.args.session.now) c.args.engines.now) c.in_ok-ready.ensures.follows

pub returns-in_err-serve-clause-still : goal.returns-in_err-serve-clause-still
returns-in_err-serve-clause-still g c = λ n.
    leaves_on c.args.script.now g.N.Name.script (past c.args.journal.now) (past c.serve.new.journal) c.args.engines.now c.serve.new.engines c.args.session.now c.ready.new.self c.serve.new.session c.requires.script
    c.in_ok-ready.ensures.number c.in_ok-ready.ensures.follows c.in_err-serve.ensures.err

pub returns-clause-did : goal.returns-clause-did
returns-clause-did g c = λ e.
    let z = c.ready.new.self in
    let m = member_ready c.args.script.now g.N.Name.script (past c.args.journal.now) c.args.session.now z c.requires.script c.requires.member
    c.in_ok-ready.ensures.number c.in_ok-ready.ensures.killed c.in_ok-ready.ensures.follows in
    let t = turn_of c.args.script.now g.N.Name.script (past c.args.journal.now) z c.in_ok-act.field-0 c.in-Some.act c.requires.script m
    c.in_ok-act.ensures.act c.in_ok-act.ensures.due c.in_ok-act.ensures.killed c.in-Some.is in
    moves_of c.args.script.now g.N.Name.script g.N.Name.from c.in-Some.act (past c.args.journal.now) (past c.serve.new.journal) c.args.engines.now c.serve.new.engines c.args.session.now z c.serve.new.session c.requires.script
    c.in_ok-ready.ensures.number c.in_ok-ready.ensures.left t c.in_ok-serve.ensures.ok
