use Rattle.std.proofs.Common.{[], subst, sym}
use Rattle.hib_follow.specs.Deleted.{AreDeleted}
use Rattle.hib_follow.specs.Holders.{AreHolders}
use Rattle.hib_follow.specs.Marks.{AreKeeps, AreStamps}
use Rattle.hib_follow.specs.Shelves.{AreShelves}
use Rattle.hib_follow.proofs.Buried.{deleted_first}
use Rattle.hib_follow.proofs.Lined.{holders_first}
use Rattle.hib_follow.proofs.Stepping.{keeps_first, shelves_first, stamps_first}
use Rattle.hib_follow.proofs.known.Known.new.Goals as goal

pub returns : goal.returns
returns c = λ script es. record {
  shelf = subst (AreShelves script es []) (sym c.new.ensures) (shelves_first script es);
  stamps = subst (AreStamps script []) (sym c.new-2.ensures) (stamps_first script);
  keeps = subst (AreKeeps []) (sym c.new-3.ensures) keeps_first;
  desks = c.new-4.ensures es;
  deleted = subst (AreDeleted []) (sym c.new-5.ensures) deleted_first;
  holders = subst (AreHolders []) (sym c.new-6.ensures) holders_first;
}
