-- What a factory is opened with stands for the empty journal.
use Rattle.std.proofs.Common.{◌≡◌, ◌≤◌, true, [], length, arith}
use Rattle.hib_base.specs.Valid.{is_valid}
use Rattle.hib_journal.specs.Types.{Script}
use Rattle.hib_session.specs.Sessions.{AreSessions}
use Rattle.hib_engines.specs.Built.{IsBuilt}
use Rattle.hib_engines.specs.Engines.{AreStanding}
use Rattle.hib_core.specs.Standing.{Origin}
use Rattle.hib_core.specs.Factory.{Lawful, CoreState, IsStanding}

pub standing_begins : Lawful → (script : Script) (from : Origin) (x : CoreState) → is_valid script ≡ true → IsBuilt script → Rattle.hib_journal.specs.Kept.past x.journal ≡ [] →
    AreStanding script from.tables [] x.engines → x.engines.store.entities ≡ length script.mapping → from.faults ≤ x.engines.store.faults → x.engines.store.asked ≡ from.asked → AreSessions script [] x.sessions → IsStanding script from x
standing_begins w script from x v b e p n f a s = record {
  valid = v;
  run = rw e (record { legal = tt; law = w script from.tables [] tt; numbered = tt; engines = p; entities = n; faults = omega (arith, f); built = b });
  sessions = rw e s;
  asked = λ u. rw e (record { later = omega (arith, a); few = omega (arith, a) });
}
