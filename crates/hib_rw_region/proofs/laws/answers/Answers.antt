use Rattle.hib_rw_region.proofs.Answers.{gets, puts, locks, unlocks, updates, inserts, evicts}
use Rattle.hib_rw_region.proofs.laws.answers.Goals as goal

pub returns-clause-get : goal.returns-clause-get
returns-clause-get c = gets

pub returns-clause-put : goal.returns-clause-put
returns-clause-put c = puts

pub returns-clause-lock : goal.returns-clause-lock
returns-clause-lock c = locks

pub returns-clause-unlock : goal.returns-clause-unlock
returns-clause-unlock c = unlocks

pub returns-clause-after_update : goal.returns-clause-after_update
returns-clause-after_update c = updates

pub returns-clause-after_insert : goal.returns-clause-after_insert
returns-clause-after_insert c = inserts

pub returns-clause-evict : goal.returns-clause-evict
returns-clause-evict c = evicts
