use Rattle.hib_rw_region.proofs.Grows.{get_grows, put_grows, lock_grows, unlock_grows, update_grows, insert_grows, evict_grows}
use Rattle.hib_rw_region.proofs.laws.grows.Goals as goal

pub returns-clause-get : goal.returns-clause-get
returns-clause-get c = get_grows

pub returns-clause-put : goal.returns-clause-put
returns-clause-put c = put_grows

pub returns-clause-lock : goal.returns-clause-lock
returns-clause-lock c = lock_grows

pub returns-clause-unlock : goal.returns-clause-unlock
returns-clause-unlock c = unlock_grows

pub returns-clause-after_update : goal.returns-clause-after_update
returns-clause-after_update c = update_grows

pub returns-clause-after_insert : goal.returns-clause-after_insert
returns-clause-after_insert c = insert_grows

pub returns-clause-evict : goal.returns-clause-evict
returns-clause-evict c = evict_grows
