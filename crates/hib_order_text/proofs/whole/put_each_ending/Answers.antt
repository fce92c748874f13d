use Rattle.std.proofs.Common.{◌∙◌, ◌<◌, ap, sym, subst}
use Rattle.std.specs.Prelude.{option_copied}
use Rattle.hib_order_text.specs.Texts.{ending_text}
use Rattle.hib_order_text.proofs.Texts.{each_step, none_within}
use Rattle.hib_order_text.proofs.whole.put_each_ending.Goals.{in-Some+in_ok-put_ending, in_default}
use Rattle.hib_order_text.proofs.whole.put_each_ending.Goals as goal

pub loop-place-preserved : goal.loop-place-preserved
loop-place-preserved c = elim c.match-at.branch [
  | in-Some+in_ok-put_ending w ↦
      ap (λ v. v.items) w.out-is
      ∙ each_step (λ e. ending_text c.args.script.now e) c.args.endings.now c.loop-place.place _ c.args.out.now.items _ _
      (sym c.at.ensures ∙ ap option_copied w.in-Some.is) w.in_ok-put_ending.ensures c.loop-place.invariant
  | in_default w ↦
      absurd (none_within c.args.endings.now c.loop-place.place (subst (λ n. c.loop-place.place < n) c.len-place-end.ensures c.loop-place-test.true)
      (sym c.at.ensures ∙ ap option_copied w.in_default.is))
]
