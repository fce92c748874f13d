use Rattle.std.proofs.Common.{ℕ, List, ◌∙◌, subst}
use Rattle.hib_call.specs.Ends.{IsTextTold}
use Rattle.hib_top.proofs.Audited.{front_written, not_said}
use Rattle.hib_top.proofs.audit.JudgeTask.tell.Goals as goal

pub returns : goal.returns
returns g c = record {
  told = record {
    said = not_said c.tell_text.result c.args.judged.now.audit c.tell_text.ensures.ends c.in_default-tell_text.not-Done;
    text = front_written c.tell_text.result _ _ _ (subst (λ (t : List ℕ). IsTextTold c.tell_text.result t (g.W.Sink.taken c.args.out.now) (g.W.Sink.taken c.tell_text.new.out)) (c.deref.ensures.value ∙ c.in-Ok.ensures) c.tell_text.ensures.text);
  };
  write = c.tell_text.ensures.write;
  after = c.tell_text.ensures.after;
}
