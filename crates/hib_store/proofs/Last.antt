-- Queries that ask the same give the same.
use Rattle.std.proofs.Common.{◌≡◌, List, [], Some, None, Option, refl, sym, ap, ◌∙◌}
use Rattle.hib_base.specs.Tables.{Tables, after_changes}
use Rattle.hib_journal.specs.Query.{gives, listed, selected}
use Rattle.hib_journal.specs.Types.{Cell, Select}
use Rattle.hib_store.specs.Types.{Change, Query}
use Rattle.hib_store.specs.Stores.{IsListed}
use Rattle.hib_store.specs.Last.{Asks}
use Rattle.hib_store.specs.declared.last_list.BareQuery.{BareQuery}
use Rattle.hib_store.specs.declared.store.Listed.{Listed}

gives_alike : (b : BareQuery) (p q : Query) (t : Tables) → Asks b p → Asks b q → gives p t ≡ gives q t
unfolding gives
gives_alike b p q t (e, c, o, f, l, s) (e', c', o', f', l', s') =
    rw (e, e', c, c', o, o', f, f', l, l', s, s') refl

pub listed_alike : (told : Option Tables) (cs : List Change) (b : BareQuery) (p q : Query) (cells : List Cell) → Asks b p → Asks b q → IsListed told cs p (Listed.List cells)
    → IsListed told cs q (Listed.List cells)
listed_alike None cs b p q cells g h i = tt
listed_alike (Some m) cs b p q cells g h i = i ∙ gives_alike b p q (after_changes cs m) g h
