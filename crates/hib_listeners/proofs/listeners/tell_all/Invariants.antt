use Rattle.std.proofs.Common.{◌≡◌, ◌≤◌, take, drop, length}
use Rattle.hib_listeners.specs.Told.{tells}
use Rattle.hib_listeners.proofs.Telling.{AreToldBefore}
use Rattle.hib_listeners.proofs.listeners.tell_all.Given as goal

abbrev pub invariant-loop-at : goal.invariant-loop-at
invariant-loop-at g l =
    let heard = g.L.Listener.heard in
    let left = g.L.Listener.left in
    record {
      order : l.kept ≤ l.at;
      length_is : length l.list.items ≡ l.at-end;
      told : AreToldBefore l.entry l.is_told (tells heard left l.fn.list.items) (tells heard left (take l.kept l.list.items)) (tells heard left (drop l.at l.list.items));
    }
