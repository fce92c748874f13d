use Rattle.std.proofs.Common.{◌<◌, ℕ, List, length, sym, ap, subst, ◌∙◌}
use Rattle.std.specs.List.{filter, range_with_len}
use Rattle.hib_base.specs.Scripts.{is_cached_in}
use Rattle.hib_journal.specs.Types.{EntityDef}
use Rattle.hib_journal.specs.Next.{is_cached}
use Rattle.hib_parts.proofs.Regions.{regions_more, regions_skip, empty_more, empty_same}
use Rattle.hib_parts.proofs.parts.open_regions.Goals as goal
use Rattle.hib_parts.proofs.parts.open_regions.Goals.{then-is_cached+in_ok-push, else-is_cached}

pub loop-number-preserved : goal.loop-number-preserved
loop-number-preserved g c =
    let i = c.loop-number.number in
    let n = length c.args.script.now.mapping in
    let p = λ (m : ℕ). is_cached c.args.script.now m in
    let whole : List ℕ = filter p (range_with_len 0 n) in
    let below : i < n = subst (λ (m : ℕ). i < m) c.len-number-end.ensures c.loop-number-test.true in
    let told = c.is_cached.ensures ∙ ap (λ (ds : List EntityDef). is_cached_in ds i) c.as_slice.ensures in
    elim c.if-is_cached.branch [
      | then-is_cached+in_ok-push w ↦ record {
        entities = regions_more p i n c.loop-number.regions.items c.if-is_cached.regions.items w.open.result whole below c.loop-number.invariant.entities (sym told ∙ w.if-is_cached.true) (ap (λ v. v.items) w.regions-is ∙ w.in_ok-push.ensures.items)
            w.open.ensures.entity;
        empty = empty_more c.loop-number.regions.items c.if-is_cached.regions.items w.open.result c.loop-number.invariant.empty (ap (λ v. v.items) w.regions-is ∙ w.in_ok-push.ensures.items) w.open.ensures.list;
      }
      | else-is_cached w ↦ record {
        entities = regions_skip p i n c.loop-number.regions.items c.if-is_cached.regions.items whole below c.loop-number.invariant.entities (sym told ∙ w.if-is_cached.false) (ap (λ v. v.items) w.regions-is);
        empty = empty_same c.loop-number.regions.items c.if-is_cached.regions.items c.loop-number.invariant.empty (ap (λ v. v.items) w.regions-is);
      }
    ]
