use Rattle.std.proofs.Common.{◌<◌, ◌+◌, length, reverse, take, Option, refl, subst, arith}
use Rattle.hib_audit.specs.Breaks.{start_rows}
use Rattle.hib_audit.specs.Standing.{IsPassed}
use Rattle.hib_audit.specs.declared.points.AuditKind.{AuditKind}
use Rattle.hib_audit.proofs.Verdicts.{breaks_at}
use Rattle.hib_audit.proofs.auditing.first_bad.Goals as goal

pub returns-in-Some : goal.returns-in-Some
returns-in-Some c = λ z.
    let script = c.args.script.now in
    let xs = c.args.entries.now in
    let at = c.loop-at.at in
    let e = c.index-entries-at.result in
    let below : at < length xs = omega arith in
    breaks_at script (start_rows script) xs at (at + 1) e c.in-Some.kind below c.index-entries-at.is refl c.loop-at.invariant.legal
    (subst (λ (o : Option AuditKind). IsPassed script (start_rows script) (reverse (take at xs)) e o c.pass.new.self) c.in-Some.is (c.in_ok-kind.ensures (reverse (take at xs)) c.loop-at.invariant) z)
