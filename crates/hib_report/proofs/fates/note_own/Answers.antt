use Rattle.std.proofs.Common.{◌≡◌, ◌≤◌, ◌<◌, ◌∙◌, ap, length, get_or, arith}
use Rattle.hib_report.specs.declared.fates.Fate.{Fate}
use Rattle.hib_report.specs.Fates.{own_noted}
use Rattle.hib_report.proofs.Fated.{set_one, set_none}
use Rattle.hib_report.proofs.fates.note_own.Goals as goal

pub returns-then-number-len-clause-each : goal.returns-then-number-len-clause-each
returns-then-number-len-clause-each c = λ s.
    let z : c.len.result ≡ length c.args.fates.now.items = c.len.ensures ∙ c.args.fates.now.ok.0 in
    let w : c.session.inside.0 < length c.args.fates.now.items = omega (arith, c.if-number-len.true, z) in
    let v : c.noted.result ≡ own_noted c.args.restart c.args.place c.args.entry.now.act c.args.entry.now.reply (get_or c.args.fates.now.items c.session.inside.0 c.index.result.now) =
    c.noted.ensures ∙ ap (λ (f : Fate). own_noted c.args.restart c.args.place c.args.entry.now.act c.args.entry.now.reply f) c.index.ensures in
    rw (c.in-Some.is, ← c.session.view_is) (set_one c.args.fates.now.items c.session.inside.0 (own_noted c.args.restart c.args.place c.args.entry.now.act c.args.entry.now.reply) c.noted.result
    c.index.result.now w v s)

pub returns-else-number-len-clause-each : goal.returns-else-number-len-clause-each
returns-else-number-len-clause-each c = λ s.
    let z : c.len.result ≡ length c.args.fates.now.items = c.len.ensures ∙ c.args.fates.now.ok.0 in
    let w : length c.args.fates.now.items ≤ c.session.inside.0 = omega (arith, c.if-number-len.false, z) in
    rw (c.in-Some.is, ← c.session.view_is) (set_none c.args.fates.now.items c.session.inside.0 (own_noted c.args.restart c.args.place c.args.entry.now.act c.args.entry.now.reply) w s)
