use Rattle.std.proofs.Common.{refl, subst, List, ℕ}
use Rattle.hib_outside.specs.Fronts.{TakesFront}
use Rattle.hib_report.specs.Sending.{IsSent}
use Rattle.hib_report.proofs.Sent.{failed_front, taken_whole, on_err}
use Rattle.hib_flat.specs.Lines.{flat_csv}
use Rattle.hib_flat.proofs.Sent.{csv_begun}
use Rattle.hib_flat.proofs.sending.write_csv.Goals as goal

pub returns-in_err-send_lines-clause-front : goal.returns-in_err-send_lines-clause-front
returns-in_err-send_lines-clause-front g c =
    let all = csv_begun c.args.script.now c.args.entries.now c.new-gathered.result.items c.put_header.new.out.items c.new-gathered.ensures.items c.in_ok-put_header.ensures in
    on_err c.from_residual-in_err-send_lines.result (subst (λ (w : List ℕ). TakesFront (g.W.Sink.taken c.args.out.now) (g.W.Sink.taken c.send_lines.new.out) w) all c.in_err-send_lines.ensures.front)

pub returns-in_err-send-clause-front : goal.returns-in_err-send-clause-front
returns-in_err-send-clause-front g c =
    let all = csv_begun c.args.script.now c.args.entries.now c.new-gathered.result.items c.put_header.new.out.items c.new-gathered.ensures.items c.in_ok-put_header.ensures in
    let sent = subst (λ (w : List ℕ). IsSent (g.W.Sink.taken c.args.out.now) (g.W.Sink.taken c.send_lines.new.out) w c.send_lines.new.gathered.items) all c.in_ok-send_lines.ensures.sent in
    on_err c.from_residual-in_err-send.result
    (failed_front (g.W.Sink.taken c.args.out.now) (g.W.Sink.taken c.send_lines.new.out) (g.W.Sink.taken c.send.new.out) (flat_csv c.args.script.now c.args.entries.now) _ c.send_lines.new.gathered.items sent refl c.in_err-send.ensures.front)

pub returns-clause-whole : goal.returns-clause-whole
returns-clause-whole g c =
    let all = csv_begun c.args.script.now c.args.entries.now c.new-gathered.result.items c.put_header.new.out.items c.new-gathered.ensures.items c.in_ok-put_header.ensures in
    let sent = subst (λ (w : List ℕ). IsSent (g.W.Sink.taken c.args.out.now) (g.W.Sink.taken c.send_lines.new.out) w c.send_lines.new.gathered.items) all c.in_ok-send_lines.ensures.sent in
    taken_whole (g.W.Sink.taken c.args.out.now) (g.W.Sink.taken c.send_lines.new.out) (g.W.Sink.taken c.send.new.out) (flat_csv c.args.script.now c.args.entries.now) _ c.send_lines.new.gathered.items sent refl c.in_ok-send.ensures.whole
