use Rattle.std.proofs.Common.{◌≡◌, ◌≤◌, length}
use Rattle.std.specs.Io.KnownBytes.{Consumes}
use Rattle.hib_call.proofs.streams.read_all.Given as goal

abbrev pub invariant-loop-turn : goal.invariant-loop-turn
invariant-loop-turn g l = record {
  read : Consumes (g.S.Source.left l.fn.source) (g.S.Source.left l.source) l.text.items;
  turns : l.turn ≤ length l.text.items;
  few : length l.text.items ≤ l.limit;
  calm : g.S.Source.faults l.source ≡ g.S.Source.faults l.fn.source;
}
