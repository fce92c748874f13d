use Rattle.std.proofs.Common.{Bool, sym, subst, ◌∙◌}
use Rattle.hib_audit.specs.Breaks.{start_rows}
use Rattle.hib_audit.specs.Standing.{IsTakenOr}
use Rattle.hib_audit.proofs.AtCall.{at_due, next_at}
use Rattle.hib_audit.proofs.Passing.{differs_at, reply_breaks}
use Rattle.hib_audit.proofs.auditor.Auditor.pass.Goals as goal

pub returns-then-is_some : goal.returns-then-is_some
returns-then-is_some c = λ h w.
    let at = at_due c.self.view_is w (sym c.is_after.ensures ∙ c.if-not-is_after.false) c.as_slice.ensures.value c.registry.ensures (c.in_ok-due.ensures.due h) (c.in_ok-due.ensures.allowed h) c.in-Some.is in
    differs_at c.args.script.now h c.args.entry.now c.args.self.now c.in-Some.due c.difference-difference.result at.timely at.named (c.difference-difference.ensures h at.registry) (sym c.is_some.ensures ∙ c.if-is_some.true)

pub take-requires : goal.take-requires
take-requires c =
    let h = c.requires.0 in
    let w = c.requires.1 in
    let at = at_due c.self.view_is w (sym c.is_after.ensures ∙ c.if-not-is_after.false) c.as_slice.ensures.value c.registry.ensures (c.in_ok-due.ensures.due h) (c.in_ok-due.ensures.allowed h) c.in-Some.is in
    (h, next_at c.difference-difference.result w at (sym c.is_some.ensures ∙ c.if-is_some.false) (c.difference-difference.ensures h))

pub returns-then-branch : goal.returns-then-branch
returns-then-branch c = λ h w.
    let script = c.args.script.now in
    let at = at_due c.self.view_is w (sym c.is_after.ensures ∙ c.if-not-is_after.false) c.as_slice.ensures.value c.registry.ensures (c.in_ok-due.ensures.due h) (c.in_ok-due.ensures.allowed h) c.in-Some.is in
    let next = next_at c.difference-difference.result w at (sym c.is_some.ensures ∙ c.if-is_some.false) (c.difference-difference.ensures h) in
    subst (λ (b : Bool). IsTakenOr b script (start_rows script) h c.args.entry.now c.take.new.self) c.if-branch.true (c.in_ok-take.ensures h next)

pub returns : goal.returns
returns c = λ h w z.
    let script = c.args.script.now in
    let e = c.args.entry.now in
    let at = at_due c.self.view_is w (sym c.is_after.ensures ∙ c.if-not-is_after.false) c.as_slice.ensures.value c.registry.ensures (c.in_ok-due.ensures.due h) (c.in_ok-due.ensures.allowed h) c.in-Some.is in
    let next = next_at c.difference-difference.result w at (sym c.is_some.ensures ∙ c.if-is_some.false) (c.difference-difference.ensures h) in
    reply_breaks script h e next.coming (subst (λ (b : Bool). IsTakenOr b script (start_rows script) h e c.take.new.self) c.if-branch.false (c.in_ok-take.ensures h next) z)
