-- The changes that a held instance asks for, if there is one: names of terms of `pending`, for proofs alone.
use Rattle.std.specs.Prelude.{Option, option_and_then}
use Rattle.hib_journal.specs.Types.{Change}
use Rattle.hib_journal.specs.Held.{Instance, insert_by, update_by, delete_by}

abbrev pub insert_of : Option Instance → Option Change
insert_of held = option_and_then (λ i. insert_by i.state i.key i.row) held

abbrev pub update_of : Option Instance → Option Change
update_of held = option_and_then (λ i. update_by i.state i.key i.row i.base) held

abbrev pub delete_of : Option Instance → Option Change
delete_of held = option_and_then (λ i. delete_by i.state i.key i.base) held
