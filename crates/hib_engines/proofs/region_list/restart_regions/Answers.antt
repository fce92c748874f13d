use Rattle.std.proofs.Common.{rules, vec_len, ◌≡◌, ◌<◌, ◌≤◌, ℕ, List, length, sym, ap, subst, ◌∙◌}
use Rattle.std.proofs.lemmas.List.{places}
use Rattle.std.proofs.lemmas.List.{length-set}
use Rattle.hib_engines.specs.declared.region.Region.{Region}
use Rattle.hib_engines.specs.Region.{emptied}
use Rattle.hib_engines.proofs.RegionList.{region_at}
use Rattle.hib_engines.proofs.RegionList.{emptied_more, emptied_all}
use Rattle.hib_engines.proofs.region_list.restart_regions.Goals as goal

pub loop-at-preserved : goal.loop-at-preserved
loop-at-preserved c =
    let xs : List Region = c.args.regions.now.items in
    let ys : List Region = c.loop-at.regions.items in
    let n = c.loop-at.at in
    let whole : vec_len c.args.regions.now ≡ length c.args.regions.now.items = search (rules, places) in
    let below : n < length xs = subst (λ (m : ℕ). n < m) (c.len-at-end.ensures ∙ whole) c.loop-at-test.true in
    record {
      all = length-set ys n c.restart.new.self ∙ c.loop-at.invariant.all;
      each = emptied_more n xs ys c.restart.new.self below c.loop-at.invariant.all c.loop-at.invariant.each
          (c.restart.ensures.gone ∙ ap emptied (sym (region_at ys n c.index_mut.result.now (subst (λ (m : ℕ). n < m) (sym c.loop-at.invariant.all) below) c.index_mut.ensures.value)));
    }

pub returns : goal.returns
returns c = emptied_all c.loop-at.at c.args.regions.now.items c.loop-at.regions.items (subst (λ (m : ℕ). m ≤ c.loop-at.at) (c.len-at-end.ensures ∙ (let e : vec_len c.args.regions.now ≡ length c.args.regions.now.items = search (rules, places) in e)) c.loop-at-test.false)
    c.loop-at.invariant.all c.loop-at.invariant.each
