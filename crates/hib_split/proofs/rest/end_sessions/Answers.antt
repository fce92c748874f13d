use Rattle.std.proofs.Common.{rules}
use Rattle.hib_split.proofs.rest.end_sessions.Goals as goal

pub loop-number-preserved : goal.loop-number-preserved
loop-number-preserved g c = record {
  going = search rules;
  entities = search rules;
  legal = search rules;
  over = search rules;
  none = search rules;
  none_ended = search rules;
  run = λ f a e x. c.end_next-refused.ensures.run f (c.loop-number.invariant.none a) (c.loop-number.invariant.none_ended e) (λ b. c.loop-number.invariant.run b a e x);
  order = λ f a e v x. c.end_next-refused.ensures.order f (c.loop-number.invariant.none a) (c.loop-number.invariant.none_ended e) v (λ b. c.loop-number.invariant.order b a e v x);
  place = search rules;
  room = search rules;
}
