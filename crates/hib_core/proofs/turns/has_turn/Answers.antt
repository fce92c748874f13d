use Rattle.std.proofs.Common.{◌<◌, subst, ◌∙◌}
use Rattle.hib_core.proofs.Going.{at_place, member_of, due_in}
use Rattle.hib_core.proofs.turns.has_turn.Goals as goal

pub returns-clause-due : goal.returns-clause-due
returns-clause-due g c = λ h r.
    let script = g.N.Name.script in
    let xs = c.args.sessions.now in
    let y = c.index-sessions-number.result in
    let place = at_place script h xs c.number.inside.0 c.args.number y r c.number.view_is (subst (λ n. c.args.number < n) r.all c.requires.there) c.index-sessions-number.is in
    due_in c.args.script.now script h y c.args.number c.is_due.result c.requires.script (r.numbers c.args.number y place) (member_of script h xs c.args.number y r place)
    c.is_due.ensures.due c.is_due.ensures.killed

pub returns-clause-killed : goal.returns-clause-killed
returns-clause-killed g c = λ h r k.
    let script = g.N.Name.script in
    let xs = c.args.sessions.now in
    let y = c.index-sessions-number.result in
    let place = at_place script h xs c.number.inside.0 c.args.number y r c.number.view_is (subst (λ n. c.args.number < n) r.all c.requires.there) c.index-sessions-number.is in
    c.is_due.ensures.killed (r.killed c.args.number y place ∙ k)
