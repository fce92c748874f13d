-- The changes that a flush writes.
use Rattle.std.specs.Prelude.{List, [], ◌∷◌, ◌++◌, Some, None, Option}
use Rattle.std.specs.List.{filter_map}
use Rattle.hib_journal.specs.Types.{Key, Change, Held}
use Rattle.hib_identity_map.specs.Identity.{MapState, Pairs, look_in}
use Rattle.hib_dirty_check.specs.Changed.{insert_of, update_of, delete_of}

abbrev pub listed : Option Change → List Change
listed None = []
listed (Some c) = c ∷ []

abbrev pub inserts_in : Pairs → List Change
inserts_in ps = filter_map (λ p. insert_of p.0 p.1) ps

abbrev pub updates_in : Pairs → List Change
updates_in ps = filter_map (λ p. update_of p.0 p.1) ps

abbrev pub delete_held : Key → Option Held → Option Change
delete_held k None = None
delete_held k (Some h) = delete_of k h

abbrev pub deletes_in : Pairs → List Key → List Change
deletes_in ps ks = filter_map (λ k. delete_held k (look_in ps k)) ks

-- all inserts and then all updates, both in order of arrival, and then all deletes in order of removal
abbrev pub planned : MapState → List Change
planned m = inserts_in m.held ++ updates_in m.held ++ deletes_in m.held m.removals
