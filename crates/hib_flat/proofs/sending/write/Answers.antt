use Rattle.std.proofs.Common.{refl}
use Rattle.hib_report.proofs.Sent.{failed_front, on_err}
use Rattle.hib_flat.specs.Lines.{flat}
use Rattle.hib_flat.proofs.sending.write.Goals as goal

pub returns-in_err-send-clause-front : goal.returns-in_err-send-clause-front
returns-in_err-send-clause-front g c =
    let sent = rw c.new-gathered.ensures.items at c.in_ok-send_lines.ensures.sent in
    on_err c.from_residual-in_err-send.result
    (failed_front (g.W.Sink.taken c.args.out.now) (g.W.Sink.taken c.send_lines.new.out) (g.W.Sink.taken c.send.new.out) (flat c.args.script.now c.args.entries.now) _ c.send_lines.new.gathered.items sent refl c.in_err-send.ensures.front)
