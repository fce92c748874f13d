use Rattle.std.proofs.Common.{◌+◌, ◌<◌, ◌∙◌, ◌++◌, List, ℕ, flat_map, length, take, arith, subst, sym}
use Rattle.hib_report.specs.Sending.{IsSent}
use Rattle.hib_report.proofs.Sent.{lines_front, lines_part, one_line, sent_on, on_err}
use Rattle.hib_report.proofs.sending.send_lines.Goals as goal

pub returns-in_err-put-clause-front : goal.returns-in_err-put-clause-front
returns-in_err-put-clause-front g c =
    on_err _ (lines_front (g.L.PutLine.line c.args.lines.now) c.args.entries.now c.loop-entry.entry-index _ _ c.args.gathered.now.items c.loop-entry.gathered.items c.loop-entry.invariant.sent)

pub returns-in_err-send_piece-clause-front : goal.returns-in_err-send_piece-clause-front
returns-in_err-send_piece-clause-front g c =
    let i = c.loop-entry.entry-index in
    let below : i < length c.args.entries.now = omega arith in
    let line = one_line (g.L.PutLine.line c.args.lines.now) c.args.entries.now i c.entry-item.result _ _ c.args.gathered.now.items c.loop-entry.gathered.items below c.entry-item.is c.loop-entry.invariant.sent in
    let gathered = subst (λ (w : List ℕ). IsSent (g.W.Sink.taken c.args.out.now) (g.W.Sink.taken c.loop-entry.out) (c.args.gathered.now.items ++ flat_map (g.L.PutLine.line c.args.lines.now) (take (i + 1) c.args.entries.now)) w) (sym c.in_ok-put.ensures) line in
    on_err c.from_residual-in_err-send_piece.result
    (lines_part (g.L.PutLine.line c.args.lines.now) c.args.entries.now (i + 1) _ (g.W.Sink.taken c.loop-entry.out) (g.W.Sink.taken c.send_piece.new.out) c.args.gathered.now.items c.put.new.out.items gathered c.in_err-send_piece.ensures.front)

pub loop-entry-preserved : goal.loop-entry-preserved
loop-entry-preserved g c =
    let i = c.loop-entry.entry-index in
    let below : i < length c.args.entries.now = omega arith in
    let line = one_line (g.L.PutLine.line c.args.lines.now) c.args.entries.now i c.entry-item.result _ _ c.args.gathered.now.items c.loop-entry.gathered.items below c.entry-item.is c.loop-entry.invariant.sent in
    let gathered = subst (λ (w : List ℕ). IsSent (g.W.Sink.taken c.args.out.now) (g.W.Sink.taken c.loop-entry.out) (c.args.gathered.now.items ++ flat_map (g.L.PutLine.line c.args.lines.now) (take (i + 1) c.args.entries.now)) w) (sym c.in_ok-put.ensures) line in
    record {
      sent = sent_on _ (g.W.Sink.taken c.loop-entry.out) _ _ c.put.new.out.items _ gathered c.in_ok-send_piece.ensures.sent;
      calm = c.in_ok-send_piece.ensures.cause.kept ∙ c.loop-entry.invariant.calm;
    }
