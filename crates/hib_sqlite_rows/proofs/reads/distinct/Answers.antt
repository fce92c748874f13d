use Rattle.std.proofs.Common.{◌≡◌, Contains, eqb, sym, subst, ◌∙◌}
use Rattle.std.specs.List.{dedup}
use Rattle.std.specs.List.Sorted.{IsStrictlyIncreasing}
use Rattle.std.proofs.lemmas.List.{take_all}
use Rattle.std.proofs.lemmas.List.Filters.{dedup_is}
use Rattle.std.proofs.lemmas.List.Kept.{Contains-dedup_nat, Contains-from_dedup}
use Rattle.std.proofs.lemmas.List.Sorted.{Contains-permutation, IsPermutation-sym}
use Rattle.std.proofs.lemmas.Map.Keys.{IsStrictlyIncreasing-dedup}
use Rattle.hib_sqlite_rows.proofs.reads.distinct.Goals as goal

left : (c : goal.After-dedup) → c.dedup.new.self.items ≡ dedup eqb c.sort_unstable.new.self.items
left c = dedup_is eqb c.sort_unstable.new.self.items c.dedup.new.self.items c.dedup.ensures.filtered

all : (c : goal.After-dedup) → c.loop-entity.numbers.items ≡ c.args.entities.now
all c = c.loop-entity.invariant ∙ take_all c.loop-entity.entity-index c.args.entities.now c.loop-entity-test.false

pub returns-clause-rising : goal.returns-clause-rising
returns-clause-rising c = subst IsStrictlyIncreasing (sym (left c)) (IsStrictlyIncreasing-dedup c.sort_unstable.new.self.items c.sort_unstable.ensures.sorted)

pub returns-clause-same : goal.returns-clause-same
returns-clause-same c = λ n. (
  (λ h. subst (λ l. Contains l n) (all c)
      (Contains-permutation c.sort_unstable.new.self.items c.loop-entity.numbers.items n (IsPermutation-sym c.loop-entity.numbers.items c.sort_unstable.new.self.items c.sort_unstable.ensures.permutation)
      (Contains-from_dedup eqb c.sort_unstable.new.self.items n (subst (λ l. Contains l n) (left c) h)))),
  (λ h. subst (λ l. Contains l n) (sym (left c))
      (Contains-dedup_nat c.sort_unstable.new.self.items n
      (Contains-permutation c.loop-entity.numbers.items c.sort_unstable.new.self.items n c.sort_unstable.ensures.permutation (subst (λ l. Contains l n) (sym (all c)) h)))),
)
