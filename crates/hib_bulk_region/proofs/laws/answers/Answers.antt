use Rattle.hib_bulk_region.proofs.Replies.{gets, puts, locks, unlocks, updates, inserts, locks_all, unlocks_all, finds_old}
use Rattle.hib_bulk_region.proofs.laws.answers.Goals as goal

pub returns-clause-get : goal.returns-clause-get
returns-clause-get c = gets

pub returns-clause-put : goal.returns-clause-put
returns-clause-put c = puts

pub returns-clause-lock : goal.returns-clause-lock
returns-clause-lock c = locks

pub returns-clause-unlock : goal.returns-clause-unlock
returns-clause-unlock c = unlocks

pub returns-clause-after_update : goal.returns-clause-after_update
returns-clause-after_update c = updates

pub returns-clause-after_insert : goal.returns-clause-after_insert
returns-clause-after_insert c = inserts

pub returns-clause-lock_all : goal.returns-clause-lock_all
returns-clause-lock_all c = locks_all

pub returns-clause-unlock_all : goal.returns-clause-unlock_all
returns-clause-unlock_all c = unlocks_all

pub returns-clause-old : goal.returns-clause-old
returns-clause-old c = finds_old
