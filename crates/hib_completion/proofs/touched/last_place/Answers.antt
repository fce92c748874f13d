use Rattle.std.specs.Option.{option_or}
use Rattle.std.proofs.Common.{◌≡◌, ◌<◌, ◌+◌, Some, cond, length, drop, sym, ap, ◌∙◌, subst, arith}
use Rattle.hib_base.specs.Keys.{same_key}
use Rattle.hib_base.specs.Tables.{key_of, last_on}
use Rattle.hib_completion.specs.Touched.{at_place}
use Rattle.hib_completion.proofs.Noted.{got_at, next_one, last_more}
use Rattle.hib_completion.proofs.touched.last_place.Goals as goal

pub loop-place-preserved : goal.loop-place-preserved
loop-place-preserved c =
    let cs = c.args.changes.now in
    let k = c.args.key.now in
    let i = c.loop-place.place in
    let x = c.index-changes-place.result in
    let rest = drop (i + 1) cs in
    let less : i < length cs = omega (arith, c.loop-place-test.true, c.loop-place.auto.place-end) in
    let at = got_at cs i x less c.index-changes-place.is in
    let each = rw (next_one cs i x at) at c.loop-place.invariant in
    let here : c.eq-counts.result ≡ same_key (key_of x) k = c.eq-counts.ensures ∙ ap (λ j. same_key j k) c.key.ensures in
    let last : c.or_so_far-last.result ≡ cond (same_key (key_of x) k) (Some i) c.loop-place.last = c.or_so_far-last.ensures ∙ ap (λ b. cond b (Some i) c.loop-place.last) here in
    subst (λ o. option_or (last_on k rest) (at_place cs o) ≡ last_on k cs) (sym last)
    (last_more cs c.loop-place.last (last_on k rest) (same_key (key_of x) k) i x (last_on k cs) at each)
