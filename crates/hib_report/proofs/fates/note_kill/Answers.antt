use Rattle.std.proofs.Common.{◌≡◌, ◌<◌, ◌∙◌, ap, length, get_or, arith}
use Rattle.hib_report.specs.Fates.{kill_noted}
use Rattle.hib_report.proofs.Fated.{set_one}
use Rattle.hib_report.proofs.fates.note_kill.Goals as goal

pub returns-then-number-len-clause-each : goal.returns-then-number-len-clause-each
returns-then-number-len-clause-each c = λ s.
    let z : c.len.result ≡ length c.args.fates.now.items = c.len.ensures ∙ c.args.fates.now.ok.0 in
    let w : c.session.inside.0 < length c.args.fates.now.items = omega (arith, c.if-number-len.true, z) in
    let v : c.after_kill.result ≡ kill_noted (get_or c.args.fates.now.items c.session.inside.0 c.index.result.now) = c.after_kill.ensures ∙ ap kill_noted c.index.ensures in
    rw (c.in-Kill.is, ← c.session.view_is) (set_one c.args.fates.now.items c.session.inside.0 kill_noted c.after_kill.result c.index.result.now w v s)
