-- What is known after some entries of a journal, and what it stands for.
use Rattle.std.specs.Prelude.{List}
use Rattle.hib_journal.specs.Types.{Entry, Script}
use Rattle.hib_journal.specs.Sessions.{Journal}
use Rattle.hib_follow.specs.Shelves.{AreShelves}
use Rattle.hib_follow.specs.Marks.{AreStamps, AreKeeps}
use Rattle.hib_follow.specs.Desks.{AreDesks}
use Rattle.hib_follow.specs.Deleted.{AreDeleted}
use Rattle.hib_follow.specs.Holders.{AreHolders}
use Rattle.hib_follow.specs.declared.known.Known.{Known}

-- of a journal of some of these entries
pub record Knows (script : Script) (es : List Entry) (h : Journal) (x : Known) : Type 0 where
  pub shelf : AreShelves script es h x.shelf.shelves.entries
  pub stamps : AreStamps script h x.stamps.stamps.entries
  pub keeps : AreKeeps h x.keeps.keeps.entries
  pub desks : AreDesks es h x.desks.all.items
  pub deleted : AreDeleted h x.deleted.numbers.entries
  pub holders : AreHolders h x.holders.lines.entries
