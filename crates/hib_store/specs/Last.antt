-- The last list that a session with changes of its own was given.
use Rattle.std.specs.Prelude.{◌≡◌, [], Some, Option}
use Rattle.hib_base.specs.Tables.{Tables}
use Rattle.hib_store.specs.Types.{Cond, Query}
use Rattle.hib_store.specs.Stores.{Written, changes_in, IsListed}
use Rattle.hib_store.specs.declared.last_list.BareQuery.{BareQuery}
use Rattle.hib_store.specs.declared.last_list.LastList.{LastList}
use Rattle.hib_store.specs.declared.store.Listed.{Listed}

-- a query asks the same
abbrev pub Asks : BareQuery → Query → Type 0
Asks b q =
    (q.entity ≡ b.entity) × (q.condition ≡ Some (Cond.Test b.op b.path b.cell)) × (q.order ≡ []) × (q.offset ≡ b.offset) × (q.limit ≡ b.limit)
    × (q.select ≡ b.select)

-- a list is what each query gives that asks the same of the session's view
abbrev pub Stands : Option Tables → Written → LastList → Type 0
Stands told ws l = (q : Query) → Asks l.query q → IsListed told (changes_in ws l.session) q (Listed.List l.listing)
