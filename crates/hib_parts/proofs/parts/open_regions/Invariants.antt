use Rattle.std.proofs.Common.{◌≡◌, ◌-◌, ◌++◌, length}
use Rattle.std.specs.List.{filter, range_with_len}
use Rattle.hib_journal.specs.Next.{is_cached}
use Rattle.hib_parts.proofs.Regions.{entities, AreEmpty}
use Rattle.hib_parts.proofs.parts.open_regions.Given as goal

-- those so far, and of the rest those that are cached, are all that are cached
abbrev pub invariant-loop-number : goal.invariant-loop-number
invariant-loop-number g l = record {
  entities : entities l.regions.items ++ filter (λ n. is_cached l.script n) (range_with_len l.number (length l.script.mapping - l.number)) ≡ filter (λ n. is_cached l.script n) (range_with_len 0 (length l.script.mapping));
  empty : AreEmpty l.regions.items;
}
