use Rattle.std.proofs.Common.{◌≡◌, ◌≤◌, ◌+◌, ◌-◌, true, false, [], length, map}
use Rattle.std.specs.Vec.{vec_len, vec_capacity}
use Rattle.hib_base.specs.Valid.{is_valid}
use Rattle.hib_journal.specs.Kept.{past}
use Rattle.hib_split_law.specs.Merged.{AreOwnLegal}
use Rattle.hib_parts.specs.Run.{part_lists}
use Rattle.hib_split.specs.Alone.{AreAtEnds, AreOfOne, AreSoFar}
use Rattle.hib_split.proofs.rest.end_sessions.Given as goal

abbrev pub invariant-loop-number : goal.invariant-loop-number
invariant-loop-number g l = record {
  going : l.refused ≡ false → l.parts.store.refused ≡ false;
  entities : map (λ r. r.entity) l.parts.regions.items ≡ map (λ r. r.entity) l.fn.parts.regions.items;
  legal : AreOwnLegal g.N.Name.script (map past l.mine.items);
  over : l.refused ≡ false → AreAtEnds g.N.Name.script l.number (map past l.mine.items);
  none : l.fn.aside.items ≡ [] → l.aside.items ≡ [];
  none_ended : l.fn.ended.items ≡ [] → l.ended.items ≡ [];
  run : l.refused ≡ false → l.fn.aside.items ≡ [] → l.fn.ended.items ≡ [] → AreOfOne (part_lists l.fn.parts) (map past l.fn.mine.items) → AreOfOne (part_lists l.parts) (map past l.mine.items);
  order : l.refused ≡ false → l.fn.aside.items ≡ [] → l.fn.ended.items ≡ [] → is_valid g.N.Name.script ≡ true → AreSoFar (part_lists l.fn.parts) (map past l.fn.mine.items) → AreSoFar (part_lists l.parts) (map past l.mine.items);
  place : length l.mine.items ≡ l.number;
  room : vec_len l.mine + (length l.script.sessions - l.number) ≤ vec_capacity l.mine;
}
