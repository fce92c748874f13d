use Rattle.hib_collections.proofs.Opened.{AreOpened}
use Rattle.hib_collections.proofs.members.open_all.Given as goal

abbrev pub invariant-loop-number : goal.invariant-loop-number
invariant-loop-number l = AreOpened l.number l.script l.gatherers.items
