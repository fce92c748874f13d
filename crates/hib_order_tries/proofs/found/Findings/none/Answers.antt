use Rattle.std.proofs.Common.{◌≡◌, ◌≤◌, ℕ, true, refl, arith}
use Rattle.hib_order_tries.proofs.Counts.{no_levels, few_levels, no_endings, few_endings}
use Rattle.hib_order_tries.proofs.found.Findings.none.Goals as goal

zero_few : (n : ℕ) → n ≡ 0 → n ≤ 0
zero_few n p = omega arith

pub returns-clause-counts : goal.returns-clause-counts
returns-clause-counts c = record {
  levels = few_levels c.new.result.items 0 c.new.ensures.items;
  endings = few_endings c.none.result 0 c.none.ensures;
  stale_hit = zero_few c.none-2.result.count (c.none-2.ensures (λ _. true)).count;
  old_list = zero_few c.none-3.result.count (c.none-3.ensures (λ _. true)).count;
  lost_update = zero_few c.none-4.result.count (c.none-4.ensures (λ _. true)).count;
  refused_commit = zero_few c.none-5.result.count (c.none-5.ensures (λ _. true)).count;
  unsound_key = zero_few c.none-6.result.count (c.none-6.ensures (λ _. true)).count;
}

pub returns-clause-none : goal.returns-clause-none
returns-clause-none c = λ judged ended. record {
  tried = refl;
  levels = no_levels c.new.result.items c.new.ensures.items;
  endings = no_endings ended c.none.result c.none.ensures;
  stale_hit = c.none-2.ensures (λ es. (judged es).stale_hit);
  old_list = c.none-3.ensures (λ es. (judged es).old_list);
  lost_update = c.none-4.ensures (λ es. (judged es).lost_update);
  refused_commit = c.none-5.ensures (λ es. (judged es).refused_commit);
  unsound_key = c.none-6.ensures (λ es. (judged es).unsound_key);
}
