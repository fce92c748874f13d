use Rattle.hib_listeners.proofs.Telling.{swapped_front}
use Rattle.hib_listeners.proofs.listeners.keep.Goals as goal

pub returns-clause-front : goal.returns-clause-front
returns-clause-front g c = λ d. rw c.swap.ensures.items (swapped_front c.args.list.now.items c.args.kept c.args.at d c.requires.order c.requires.within)
