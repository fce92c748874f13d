use Rattle.std.specs.Prelude.{flat_map}
use Rattle.std.specs.Borrow.{Bor}
use Rattle.std.proofs.Common.{◌≡◌, ◌++◌, take}
use Rattle.hib_journal.specs.Types.{Change}
use Rattle.hib_states.specs.Here.{reused_here}
use Rattle.hib_states.specs.Texts.{fact_text}
use Rattle.hib_states.proofs.unsound.put_all_reused.Given as goal

abbrev pub invariant-loop-change : goal.invariant-loop-change
invariant-loop-change l =
    l.out.items ≡ l.fn.out.items ++ flat_map (λ (c : Bor Change). fact_text l.script l.number (reused_here l.script l.deleted.numbers.entries c.now))
    (take l.change-index l.change-items)
