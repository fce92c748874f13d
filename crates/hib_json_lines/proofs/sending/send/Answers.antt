use Rattle.std.proofs.Common.{refl}
use Rattle.hib_report.proofs.Sent.{failed_front, on_err}
use Rattle.hib_json_lines.specs.Line.{json_lines}
use Rattle.hib_json_lines.proofs.sending.send.Goals as goal

pub returns-in_err-send-clause-front : goal.returns-in_err-send-clause-front
returns-in_err-send-clause-front g c =
    let sent = rw (c.new-gathered.ensures.items, c.as_slice.ensures) at c.in_ok-send_lines.ensures.sent in
    on_err c.from_residual-in_err-send.result
    (failed_front (g.W.Sink.taken c.args.out.now) (g.W.Sink.taken c.send_lines.new.out) (g.W.Sink.taken c.send.new.out) (json_lines c.args.script.now c.args.journal.now.list) _ c.send_lines.new.gathered.items sent refl c.in_err-send.ensures.front)
