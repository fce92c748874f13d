use Rattle.std.proofs.Common.{◌≡◌, ◌≤◌, length, Some, None, rules, arith}
use Rattle.std.proofs.lemmas.Result.{on_ok_weaker}
use Rattle.hib_states.proofs.Seated.{seats_outside, seats_own, seats_past}
use Rattle.hib_states.proofs.seats.Seats.note.Goals as goal

pub returns-in_default : goal.returns-in_default
returns-in_default c =
    let none : c.args.entry.now.session ≡ None = search rules in
    λ start h l w. seats_outside c.args.script.now c.args.entry.now h c.args.self.now.sessions.items none w

pub returns-then-number-len : goal.returns-then-number-len
returns-then-number-len c =
    let by : c.args.entry.now.session ≡ Some c.in-Some.number = search rules in
    on_ok_weaker c.advance.result
    (λ f start h l w. seats_own c.args.script.now start h c.in-Some.number c.args.entry.now c.args.self.now.sessions.items c.advance.new.sessions.items l by w f)
    c.advance.ensures

pub returns : goal.returns
returns c =
    let by : c.args.entry.now.session ≡ Some c.in-Some.number = search rules in
    let far : length c.args.self.now.sessions.items ≤ c.in-Some.number = omega arith in
    λ start h l w. seats_past c.args.script.now start h c.in-Some.number c.args.entry.now c.args.self.now.sessions.items l by w far
