use Rattle.hib_report.proofs.Sent.{report_begun, report_lined, taken_front, failed_front, taken_whole, on_err}
use Rattle.hib_report.proofs.sending.write.Goals as goal

pub returns-in_err-send_lines-clause-front : goal.returns-in_err-send_lines-clause-front
returns-in_err-send_lines-clause-front g c =
    on_err c.from_residual-in_err-send_lines.result
    (report_begun c.args.script.now c.args.journal.now.list c.as_slice.result.now c.as_slice-2.result.now (g.W.Sink.taken c.args.out.now) (g.W.Sink.taken c.send_lines.new.out) c.new-gathered.result.items c.put_journal.new.out.items
    c.new-gathered.ensures.items c.as_slice.ensures c.as_slice-2.ensures c.in_ok-put_journal.ensures c.in_err-send_lines.ensures.front)

pub returns-in_err-put_ends-clause-front : goal.returns-in_err-put_ends-clause-front
returns-in_err-put_ends-clause-front g c =
    on_err c.from_residual-in_err-put_ends.result
    (taken_front (g.W.Sink.taken c.args.out.now) (g.W.Sink.taken c.send_lines.new.out) _ _
    (report_lined c.args.script.now c.args.journal.now.list c.as_slice.result.now c.as_slice-2.result.now (g.W.Sink.taken c.args.out.now) (g.W.Sink.taken c.send_lines.new.out) c.new-gathered.result.items c.put_journal.new.out.items c.send_lines.new.gathered.items
    c.new-gathered.ensures.items c.as_slice.ensures c.as_slice-2.ensures c.in_ok-put_journal.ensures c.in_ok-send_lines.ensures.sent))

pub returns-in_err-send-clause-front : goal.returns-in_err-send-clause-front
returns-in_err-send-clause-front g c =
    on_err c.from_residual-in_err-send.result
    (failed_front (g.W.Sink.taken c.args.out.now) (g.W.Sink.taken c.send_lines.new.out) (g.W.Sink.taken c.send.new.out) _ _ c.put_ends.new.out.items
    (report_lined c.args.script.now c.args.journal.now.list c.as_slice.result.now c.as_slice-2.result.now (g.W.Sink.taken c.args.out.now) (g.W.Sink.taken c.send_lines.new.out) c.new-gathered.result.items c.put_journal.new.out.items c.send_lines.new.gathered.items
    c.new-gathered.ensures.items c.as_slice.ensures c.as_slice-2.ensures c.in_ok-put_journal.ensures c.in_ok-send_lines.ensures.sent)
    c.in_ok-put_ends.ensures c.in_err-send.ensures.front)

pub returns-clause-whole : goal.returns-clause-whole
returns-clause-whole g c =
    taken_whole (g.W.Sink.taken c.args.out.now) (g.W.Sink.taken c.send_lines.new.out) (g.W.Sink.taken c.send.new.out) _ _ c.put_ends.new.out.items
    (report_lined c.args.script.now c.args.journal.now.list c.as_slice.result.now c.as_slice-2.result.now (g.W.Sink.taken c.args.out.now) (g.W.Sink.taken c.send_lines.new.out) c.new-gathered.result.items c.put_journal.new.out.items c.send_lines.new.gathered.items
    c.new-gathered.ensures.items c.as_slice.ensures c.as_slice-2.ensures c.in_ok-put_journal.ensures c.in_ok-send_lines.ensures.sent)
    c.in_ok-put_ends.ensures c.in_ok-send.ensures.whole
