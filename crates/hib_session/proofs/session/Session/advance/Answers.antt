use Rattle.std.proofs.Common.{◌≡◌, ◌∷◌, ◌<◌, ◌≤◌, Some, true, false, sym, subst, ◌∙◌, arith}
use Rattle.std.proofs.lemmas.Bool.{false≢true}
use Rattle.hib_journal.specs.Next.{next}
use Rattle.hib_session.specs.declared.session.Session.{Session}
use Rattle.hib_session.specs.Memory.{Knows, Fits}
use Rattle.hib_session.specs.Control.{Stands, is_settled, is_over, weight}
use Rattle.hib_session.specs.Ahead.{Ends}
use Rattle.hib_session.specs.Session.{Follows, left_in}
use Rattle.hib_session.proofs.Known.{knows_noted, knows_room}
use Rattle.hib_session.proofs.Taking.{recalls_next, left_over, follows_on, left_falls, fits_due, settled_ready, room_next}
use Rattle.hib_session.proofs.session.Session.advance.Goals as goal

pub returns-in_err-queue-clause-room : goal.returns-in_err-queue-clause-room
returns-in_err-queue-clause-room c = λ mine f t r b.
    let script = c.args.script.now in
    let s = c.ready.new.self in
    let n : next script s.control.number mine ≡ Some c.args.entry.now.act = subst (λ m. next script m mine ≡ Some c.args.entry.now.act) (sym c.in_ok-ready.ensures.number) t.due in
    let p = room_next script s mine c.args.entry.now.act (c.in_ok-ready.ensures.follows mine f) c.in_ok-ready.ensures.ready n b in
    absurd (false≢true (c.in_err-queue.ensures.room p.0.0 (λ q. rw c.replace-ending.ensures.value (p.0.1 q))))

pub returns-in_err-note-clause-room : goal.returns-in_err-note-clause-room
returns-in_err-note-clause-room c = λ mine f t r b.
    let script = c.args.script.now in
    let s = c.ready.new.self in
    let n : next script s.control.number mine ≡ Some c.args.entry.now.act = subst (λ m. next script m mine ≡ Some c.args.entry.now.act) (sym c.in_ok-ready.ensures.number) t.due in
    let p = room_next script s mine c.args.entry.now.act (c.in_ok-ready.ensures.follows mine f) c.in_ok-ready.ensures.ready n b in
    absurd (false≢true (c.in_err-note.ensures.room p.1.1 b (rw c.replace-copies.ensures.value p.1.0)))

pub returns-clause-follows : goal.returns-clause-follows
returns-clause-follows c = λ mine f t.
    let script = c.args.script.now in
    let e = c.args.entry.now in
    let s = c.ready.new.self in
    let g : Follows script s mine = c.in_ok-ready.ensures.follows mine f in
    let ok : is_settled script s.control ≡ true = settled_ready script s c.in_ok-ready.ensures.ready in
    let n : next script s.control.number mine ≡ Some e.act = subst (λ m. next script m mine ≡ Some e.act) (sym c.in_ok-ready.ensures.number) t.due in
    let fit : Fits c.replace-copies.result e.act = subst (λ w. Fits w e.act) (sym c.replace-copies.ensures.value) (fits_due script s mine e.act g ok n) in
    let o : is_over script s.control ≡ false = left_over script s.control mine e.act g.stands ok n in
    let k : Knows c.note.new.self (e ∷ mine) = subst (λ x. Knows x (e ∷ mine)) (sym (c.in_ok-note.ensures.ok fit)) (knows_room _ _ _ (knows_noted s.memory mine e g.knows)) in
    let h : Stands script c.step.new.self (e ∷ mine) = c.step.ensures.stands script e mine
    (λ go q d. c.in_ok-queue.ensures.follows mine go q d (recalls_next script s.control s.memory mine e g.knows g.stands ok n q d)
    (subst (λ o. Ends script s.control.mode (e ∷ mine) o) (sym c.replace-ending.ensures.value) (g.ending (e ∷ mine) (recalls_next script s.control s.memory mine e g.knows g.stands ok n q d))))
    g.stands ok o in
    follows_on script c.args.self.now (record { control = c.step.new.self; memory = c.note.new.self; copies = c.replace-copies.new.dest; ending = c.replace-ending.new.dest; killed = s.killed }) mine e f t
    (c.step.ensures.number ∙ c.in_ok-ready.ensures.number) c.in_ok-ready.ensures.killed k h c.replace-copies.ensures.after c.replace-ending.ensures.after

pub returns-clause-less : goal.returns-clause-less
returns-clause-less c = λ mine f t.
    let script = c.args.script.now in
    let e = c.args.entry.now in
    let s = c.ready.new.self in
    let g : Follows script s mine = c.in_ok-ready.ensures.follows mine f in
    let ok : is_settled script s.control ≡ true = settled_ready script s c.in_ok-ready.ensures.ready in
    let n : next script s.control.number mine ≡ Some e.act = subst (λ m. next script m mine ≡ Some e.act) (sym c.in_ok-ready.ensures.number) t.due in
    let o : is_over script s.control ≡ false = left_over script s.control mine e.act g.stands ok n in
    let w : weight script c.step.new.self < weight script s.control = c.step.ensures.weight script c.in_ok-queue.ensures.less ok o in
    let z : Session = record { control = c.step.new.self; memory = c.note.new.self; copies = c.replace-copies.new.dest; ending = c.replace-ending.new.dest; killed = s.killed } in
    let a : left_in script z < left_in script s = left_falls script s z g.alive g.alive w in
    let b : left_in script s ≤ left_in script c.args.self.now = c.in_ok-ready.ensures.left in
    omega (arith, a, b)
