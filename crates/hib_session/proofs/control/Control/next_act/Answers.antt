use Rattle.std.proofs.Common.{◌≡◌, [], ◌∙◌, sym, rules}
use Rattle.hib_session.specs.Control.{untaken}
use Rattle.hib_session.proofs.Taken.{head_due, rest_due, staged_due, act_due}
use Rattle.hib_session.proofs.control.Control.next_act.Goals as goal

pub returns-then-not-is_empty : goal.returns-then-not-is_empty
returns-then-not-is_empty c = λ mine k s t.
    head_due c.args.self.now.queue c.args.self.now.stage c.args.self.now.begins (untaken c.args.script.now c.args.self.now) mine _ _ c.first.ensures c.in_ok-act.ensures
    ∙ act_due c.args.script.now c.args.self.now mine s t

pub returns-then-is_idle : goal.returns-then-is_idle
returns-then-is_idle c = λ mine k s t.
    let e : c.args.self.now.queue ≡ [] = search rules in
    rest_due c.args.self.now.queue c.args.self.now.stage c.args.self.now.begins (untaken c.args.script.now c.args.self.now) mine _ e
    (sym c.is_idle.ensures ∙ c.if-is_idle.true) c.begin_due.ensures
    ∙ act_due c.args.script.now c.args.self.now mine s t

pub returns : goal.returns
returns c = λ mine k s t.
    let e : c.args.self.now.queue ≡ [] = search rules in
    staged_due c.args.self.now.queue c.args.self.now.stage c.args.self.now.begins (untaken c.args.script.now c.args.self.now) mine _ e
    (sym c.is_idle.ensures ∙ c.if-is_idle.false) (c.act_of.ensures mine k)
    ∙ act_due c.args.script.now c.args.self.now mine s t
