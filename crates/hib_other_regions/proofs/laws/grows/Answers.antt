use Rattle.hib_other_regions.proofs.Grows.{put_grows, insert_grows, remove_grows, evict_grows}
use Rattle.hib_other_regions.proofs.laws.grows.Goals as goal

pub returns-clause-put : goal.returns-clause-put
returns-clause-put c = put_grows

pub returns-clause-after_insert : goal.returns-clause-after_insert
returns-clause-after_insert c = insert_grows

pub returns-clause-remove : goal.returns-clause-remove
returns-clause-remove c = remove_grows

pub returns-clause-evict : goal.returns-clause-evict
returns-clause-evict c = evict_grows
