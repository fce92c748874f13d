-- A slot of the code as the definitions of regions see it.
use Rattle.hib_journal.specs.Slot.{Slot}
use Rattle.hib_soft_lock.specs.declared.slot.Slot.{Slot as Kept}

abbrev pub shown : Kept → Slot
shown (Kept.Item r stamp) = Slot.Item r stamp
shown (Kept.Lock i v t n x u) = Slot.Lock (record {
  id = i;
  version = v;
  timeout = t;
  holders = n;
  shared = x;
  unlock = u;
})
