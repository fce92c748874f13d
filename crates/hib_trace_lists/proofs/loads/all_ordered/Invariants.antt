use Rattle.std.specs.List.{AllZip}
use Rattle.hib_trace_lists.specs.Loads.{IsOrdered}
use Rattle.hib_trace_lists.proofs.loads.all_ordered.Given as goal

abbrev pub invariant-loop-places : goal.invariant-loop-places
invariant-loop-places l = AllZip (λ f p. IsOrdered f.items p.items) l.yielded l.all.items
