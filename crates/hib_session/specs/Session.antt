-- What a session stands for, and what it answers itself.
use Rattle.std.specs.Prelude.{◌≡◌, ℕ, Bool, false, if◌then◌else◌, not, ◌||◌, ◌&&◌, Some, None, Option, is_some}
use Rattle.hib_journal.specs.Types.{Script, Act, Reply, Entry}
use Rattle.hib_journal.specs.Sessions.{Journal, changes_in}
use Rattle.hib_journal.specs.Held.{held}
use Rattle.hib_journal.specs.Plan.{InOrder}
use Rattle.hib_journal.specs.Next.{strategy, is_in, plan_of, next}
use Rattle.hib_journal.specs.Legal.{outcome, row_of, set_unless}
use Rattle.hib_session.specs.declared.session.Session.{Session}
use Rattle.hib_session.specs.Memory.{Knows, Recalls}
use Rattle.hib_session.specs.Control.{Stands, is_settled, weight}
use Rattle.hib_session.specs.Ahead.{Ends, Copies, needs_room, is_made}

-- which session it is
abbrev pub number_of : Session → ℕ
number_of s = s.control.number

-- it does no act any more
abbrev pub is_killed : Session → Bool
is_killed s = s.killed

-- how much of it is left: a number that falls with each entry, and is 0 after a kill
abbrev pub left_in : Script → Session → ℕ
left_in script s = if s.killed then 0 else weight script s.control

-- it has come so far by these entries, the newest first, each of which was due in its turn, and it was not killed
pub record Follows (script : Script) (s : Session) (mine : Journal) : Type 0 where
  pub alive : s.killed ≡ false
  pub order : InOrder (plan_of script s.control.number) mine
  pub knows : Knows s.memory mine
  pub stands : Stands script s.control mine
  pub copies : Copies s.control.queue s.copies
  pub ending : (more : Journal) → Recalls s.memory more → Ends script s.control.mode more s.ending

-- nothing is left to expand before its next act, and the memory is there for an entry of that act that brings nothing
abbrev pub is_ready : Script → Session → Bool
is_ready script s = (is_settled script s.control && (not (needs_room s.control.queue) || s.memory.room)) && is_made s.control.queue s.control.stage s.copies s.ending

-- the reply to an own act or to End, by the session's own entries; none to another act
abbrev pub own_reply : Script → Journal → Act → Option Reply
own_reply script mine Act.End = Some (Reply.Ended (outcome mine))
own_reply script mine (Act.Find k) = Some (Reply.Row (row_of (held mine k)))
own_reply script mine (Act.Persist k r) = Some (if is_some (held mine k) || is_in k (changes_in mine) then Reply.Known else Reply.New)
own_reply script mine (Act.Set k cells) = Some (if is_some (row_of (held mine k)) then set_unless (strategy script k.entity) else Reply.Unknown)
own_reply script mine (Act.Remove k) = Some (if is_some (row_of (held mine k)) then Reply.Removed else Reply.Unknown)
own_reply script mine Act.Clear = Some Reply.Cleared
own_reply script mine _ = None

-- the reply to the act that is due, if it is an own act or End; none to another act, or if none is due
abbrev pub reply_due : Script → Journal → Option Act → Option Reply
reply_due script mine None = None
reply_due script mine (Some a) = own_reply script mine a

-- an entry of the act that is due, which has the session's own reply if the act has one
pub record IsTaken (script : Script) (s : ℕ) (mine : Journal) (e : Entry) : Type 0 where
  pub due : next script s mine ≡ Some e.act
  pub own : (r : Reply) → own_reply script mine e.act ≡ Some r → e.reply ≡ r
