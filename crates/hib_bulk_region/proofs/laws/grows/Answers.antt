use Rattle.hib_bulk_region.proofs.Grows.{get_grows, put_grows, lock_grows, unlock_grows, update_grows, insert_grows, sweep_grows, lock_all_grows, unlock_all_grows}
use Rattle.hib_bulk_region.proofs.laws.grows.Goals as goal

pub returns-clause-get : goal.returns-clause-get
returns-clause-get c = get_grows

pub returns-clause-put : goal.returns-clause-put
returns-clause-put c = put_grows

pub returns-clause-lock : goal.returns-clause-lock
returns-clause-lock c = lock_grows

pub returns-clause-unlock : goal.returns-clause-unlock
returns-clause-unlock c = unlock_grows

pub returns-clause-after_update : goal.returns-clause-after_update
returns-clause-after_update c = update_grows

pub returns-clause-after_insert : goal.returns-clause-after_insert
returns-clause-after_insert c = insert_grows

pub returns-clause-sweep : goal.returns-clause-sweep
returns-clause-sweep c = sweep_grows

pub returns-clause-lock_all : goal.returns-clause-lock_all
returns-clause-lock_all c = lock_all_grows

pub returns-clause-unlock_all : goal.returns-clause-unlock_all
returns-clause-unlock_all c = unlock_all_grows
