use Rattle.std.proofs.Common.{◌≡◌, ◌-◌, ◌^◌, subst}
use Rattle.std.specs.List.{filter}
use Rattle.std.specs.BTreeMap.Range.{range_contains}
use Rattle.std.specs.declared.cmp.Ordering.{Ordering}
use Rattle.std.specs.declared.ops.Bound.TheVariants.{Included}
use Rattle.hib_query_eval.specs.declared.places.Place.{Place}
use Rattle.hib_query_eval.proofs.Derived.{place_cmp_is}
use Rattle.hib_query_eval.proofs.places.between.Goals as goal

pub returns : goal.returns
returns c =
    subst
    (λ (R : Place → Place → Ordering). c.range.result ≡ filter (range_contains R (Included (record { value = c.args.from; id = 0 }))
    (Included (record { value = c.args.to; id = 2 ^ 64 - 1 }))) c.args.places.now.keys)
    place_cmp_is (c.range.ensures.between tt)
