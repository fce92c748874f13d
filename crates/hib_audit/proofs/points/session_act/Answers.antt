use Rattle.std.proofs.Common.{◌≡◌, ◌≤◌, ℕ, length, nat_lt, false, sym, subst, arith}
use Rattle.std.proofs.lemmas.Bool.Decides.{nat_tests}
use Rattle.hib_audit.proofs.Members.{place_of, due_of, allowed_of, none_due}
use Rattle.hib_audit.proofs.points.session_act.Goals as goal

pub returns-in_ok-act-in-Some-clause-due : goal.returns-in_ok-act-in-Some-clause-due
returns-in_ok-act-in-Some-clause-due c = λ h r a.
    due_of c.args.script.now h c.args.sessions.now c.args.number c.in-Some.session.now c.in_ok-act-in-Some.act a r
    (place_of c.args.sessions.now c.number.inside.0 c.args.number c.in-Some.session.now c.number.view_is (sym c.in-Some.ensures.lookup.0) c.in-Some.ensures.lookup.1)
    c.in_ok-act-in-Some.ensures.act c.in_ok-act-in-Some.ensures.killed

pub returns-in_ok-act-in-Some-clause-allowed : goal.returns-in_ok-act-in-Some-clause-allowed
returns-in_ok-act-in-Some-clause-allowed c = λ h r.
    allowed_of c.args.script.now h c.args.sessions.now c.args.number c.in-Some.session.now c.in_ok-act-in-Some.act r
    (place_of c.args.sessions.now c.number.inside.0 c.args.number c.in-Some.session.now c.number.view_is (sym c.in-Some.ensures.lookup.0) c.in-Some.ensures.lookup.1)
    c.in_ok-act-in-Some.ensures.allowed c.in_ok-act-in-Some.ensures.killed

pub returns-in-None-clause-due : goal.returns-in-None-clause-due
returns-in-None-clause-due c = λ h r a.
    let p : nat_lt c.number.inside.0 (length c.args.sessions.now) ≡ false = sym c.in-None.ensures.lookup.0 in
    let above : length c.args.sessions.now ≤ c.number.inside.0 = grind (arith, nat_tests, p) in
    sym (none_due c.args.script.now h c.args.number a (subst (λ (n : ℕ). n ≤ c.args.number) r.all (subst (λ (n : ℕ). length c.args.sessions.now ≤ n) c.number.view_is above)))
