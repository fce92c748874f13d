use Rattle.std.proofs.Common.{◌≡◌, Some, reverse, take}
use Rattle.hib_base.specs.Tables.{Tables}
use Rattle.hib_follow.specs.Known.{Knows}
use Rattle.hib_journal.specs.Legal.{IsLegal}
use Rattle.hib_states.specs.Seats.{AreSeats}
use Rattle.hib_states.specs.States.{states_text}
use Rattle.hib_states.proofs.telling.tell_all.Given as goal

abbrev pub invariant-loop-place : goal.invariant-loop-place
invariant-loop-place l = record {
  known : (start : Tables) → IsLegal l.script (Some start) (reverse l.entries) → Knows l.script l.entries (reverse (take l.place l.entries)) l.known;
  seats : (start : Tables) → IsLegal l.script (Some start) (reverse l.entries) → AreSeats l.script (reverse (take l.place l.entries)) l.seats.sessions.items;
  text : (start : Tables) → IsLegal l.script (Some start) (reverse l.entries) → l.out.items ≡ states_text l.script start (reverse (take l.place l.entries));
}
