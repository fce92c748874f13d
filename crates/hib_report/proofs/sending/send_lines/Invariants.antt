use Rattle.std.proofs.Common.{◌≡◌, ◌++◌, flat_map, take}
use Rattle.hib_report.specs.Sending.{IsSent}
use Rattle.hib_report.proofs.sending.send_lines.Given as goal

abbrev pub invariant-loop-entry : goal.invariant-loop-entry
invariant-loop-entry g l = record {
  sent : IsSent (g.W.Sink.taken l.fn.out) (g.W.Sink.taken l.out) (l.fn.gathered.items ++ flat_map (g.L.PutLine.line l.lines) (take l.entry-index l.entries)) l.gathered.items;
  calm : g.W.Sink.faults l.out ≡ g.W.Sink.faults l.fn.out;
}
