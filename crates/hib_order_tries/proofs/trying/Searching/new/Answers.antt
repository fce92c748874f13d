use Rattle.std.proofs.Common.{map}
use Rattle.hib_order_tries.proofs.Turning.{begun_amid}
use Rattle.hib_order_tries.proofs.trying.Searching.new.Goals as goal

pub returns-clause-amid : goal.returns-clause-amid
returns-clause-amid c = λ script start judged ended most_kills.
    begun_amid script start judged ended most_kills c.in_ok-waiting.waiting.level (map (λ v. v.items) c.in_ok-waiting.waiting.now.items) c.in_ok-waiting.waiting.beyond c.none.result
    c.in_ok-waiting.ensures.level c.in_ok-waiting.ensures.now c.in_ok-waiting.ensures.beyond (c.none.ensures.none judged ended)
