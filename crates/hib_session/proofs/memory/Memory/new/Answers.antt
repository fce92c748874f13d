use Rattle.std.proofs.Common.{refl}
use Rattle.hib_session.proofs.memory.Memory.new.Goals as goal

pub returns : goal.returns
unfolding Rattle.hib_journal.specs.Held.held
returns c = record {
  time = refl;
  floor = refl;
  changes = c.new-2.ensures;
  outcome = refl;
  holds = record { instances = λ k. rw c.open.ensures refl; order = rw c.open.ensures refl; distinct = rw c.open.ensures refl };
  removals = rw c.open.ensures refl;
  unwritten = λ k. rw c.new.ensures.empty refl;
  fresh = λ k. rw c.new-3.ensures.empty refl;
  locks = λ k. rw c.new-4.ensures.empty refl;
}
