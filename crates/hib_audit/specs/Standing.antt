-- What the audit keeps while it goes over a journal: its engines and sessions stand for the entries so far.
use Rattle.std.specs.Prelude.{◌≡◌, ℕ, ◌&&◌, nat_le, nat_lt, Bool, false, true, not, List, ◌∷◌, length, slice_get, Some, None, Option, unwrap_or}
use Rattle.std.specs.List.{list_any}
use Rattle.hib_base.specs.Keys.{same_key}
use Rattle.hib_base.specs.Tables.{Tables}
use Rattle.hib_journal.specs.Types.{Key, Change, Script, Act, Reply, Entry}
use Rattle.hib_journal.specs.Sessions.{Journal, own, changes, IsTimely, is_empty}
use Rattle.hib_journal.specs.Next.{is_in}
use Rattle.hib_journal.specs.Legal.{IsLegal, IsReply, is_outside, due, may_come, part_of}
use Rattle.hib_journal.specs.Lists.{entry_at}
use Rattle.hib_journal.specs.Due.{IsAllowed}
use Rattle.hib_session.specs.declared.session.Session.{Session}
use Rattle.hib_session.specs.Session.{Follows, number_of}
use Rattle.hib_session.specs.Sessions.{AreSessions}
use Rattle.hib_engines.specs.Built.{IsBuilt}
use Rattle.hib_engines.specs.Engines.{EnginesState, AreStanding, IsAnswered, IsReady}
use Rattle.hib_clock.specs.LastTicks.{TicksState, AreLast, part_last, session_last}
use Rattle.hib_audit.specs.declared.points.AuditKind.{AuditKind}
use Rattle.hib_audit.specs.Breaks.{Breaks, start_rows}

-- ---- what a session has written

-- the keys that it has changed since its last Begin, and whether there is one
pub record WrittenState : Type 0 where
  pub keys : List Key
  pub any : Bool

abbrev pub has_key : Key → List Key → Bool
has_key k ks = list_any (λ j. same_key k j) ks

pub record HasWritten (cs : List Change) (x : WrittenState) : Type 0 where
  pub keys : (k : Key) → has_key k x.keys ≡ is_in k cs
  pub any : x.any ≡ not (is_empty cs)

-- each session of a script has written its changes
pub record AreWritten (script : Script) (h : Journal) (xs : List WrittenState) : Type 0 where
  pub all : length xs ≡ length script.sessions
  pub each : (s : ℕ) (x : WrittenState) → slice_get xs s ≡ Some x → HasWritten (changes s h) x

-- ---- the ticks of an entry

-- a tick is after the last ones, as those of an entry have to be
abbrev pub is_after : TicksState → Entry → Bool
is_after x e =
    nat_le 1 e.tick && (nat_le e.tick 4611686018427387904
    && (nat_le x.last e.tick && (nat_lt (part_last x e.part) e.tick && nat_lt (session_last x e.session) e.tick)))

-- ---- an entry

-- an act that is due: of a session by its own entries, or from outside
abbrev pub IsAllowedFor : Script → Journal → Option ℕ → Act → Type 0
IsAllowedFor script h None a = is_outside a ≡ true
IsAllowedFor script h (Some s) a = IsAllowed script s (own s h) a

-- what an entry names beside the act that is due: its part and its act, or the first of the two that is another
abbrev pub Differs : Script → Journal → Act → Entry → Option AuditKind → Type 0
Differs script h a e None = (part_of a (unwrap_or e.session 0) ≡ e.part) × (may_come script h (Some a) ≡ Some e.act)
Differs script h a e (Some AuditKind.Part) = ¬ (part_of a (unwrap_or e.session 0) ≡ e.part)
Differs script h a e (Some AuditKind.Act) = (part_of a (unwrap_or e.session 0) ≡ e.part) × (¬ (may_come script h (Some a) ≡ Some e.act))
Differs script h a e (Some _) = ⊥

-- an entry whose tick, session, part and act are as they have to be
pub record IsComing (script : Script) (h : Journal) (e : Entry) : Type 0 where
  pub tick : IsTimely e h
  pub due : due script h e ≡ Some e.act
  pub part : part_of e.act (unwrap_or e.session 0) ≡ e.part
  pub comes : may_come script h (Some e.act) ≡ Some e.act
  pub allowed : IsAllowedFor script h e.session e.act

-- the reply to an act is one that may be, and the engines stand for the journal with its entry; or it isn't, unless the keeper failed
abbrev pub IsJudged : Bool → Script → Tables → Journal → Option ℕ → ℕ → Act → Reply → EnginesState → Type 0
IsJudged true script start h by now a r y = IsAnswered script (Some start) h by now a r y
IsJudged false script start h by now a r y = y.store.faults ≡ 0 → ¬ IsReply script (Some start) h (entry_at now by a r)

-- the act of an entry is due in session y, which has written w, over entries that the engines stand for
pub record IsDueOf (script : Script) (h : Journal) (e : Entry) (y : Session) (w : WrittenState) (x : EnginesState) : Type 0 where
  pub ready : IsReady script (Some (start_rows script)) h (number_of y) e.tick e.act x
  pub follows : Follows script y (own (number_of y) h)
  pub written : HasWritten (changes (number_of y) h) w

-- its reply was judged, over whatever entries that may be
abbrev pub Judges : Bool → Script → Entry → Session → WrittenState → EnginesState → EnginesState → Type 0
Judges b script e y w x z =
    (h : Journal) → IsDueOf script h e y w x → IsJudged b script (start_rows script) h (Some (number_of y)) e.tick e.act e.reply z

-- ---- all that is kept

pub record AuditorState : Type 0 where
  pub engines : EnginesState
  pub sessions : List Session
  pub written : List WrittenState
  pub ticks : TicksState

-- the entries so far are legal, and all that is kept stands for them
pub record Knows (script : Script) (start : Tables) (h : Journal) (x : AuditorState) : Type 0 where
  pub legal : IsLegal script (Some start) h
  pub engines : AreStanding script (Some start) h x.engines
  pub sessions : AreSessions script h x.sessions
  pub written : AreWritten script h x.written
  pub ticks : AreLast x.ticks h
  pub built : IsBuilt script

-- an entry that comes has a reply that may be, and it was taken; or it hasn't, unless the keeper failed
abbrev pub IsTakenOr : Bool → Script → Tables → Journal → Entry → AuditorState → Type 0
IsTakenOr true script start h e x = Knows script start (e ∷ h) x
IsTakenOr false script start h e x = x.engines.store.faults ≡ 0 → ¬ IsReply script (Some start) h e

-- an entry was taken; or it breaks this point, unless the keeper failed
abbrev pub IsPassed : Script → Tables → Journal → Entry → Option AuditKind → AuditorState → Type 0
IsPassed script start h e None x = Knows script start (e ∷ h) x
IsPassed script start h e (Some kind) x = x.engines.store.faults ≡ 0 → Breaks script start h e kind

-- ---- the same of whatever entries are kept

-- all that is kept stands for some entries
abbrev pub IsKept : Script → AuditorState → Type 0
IsKept script x = (h : Journal) × Knows script (start_rows script) h x

-- an entry comes after entries that all that is kept stands for
pub record IsNext (script : Script) (h : Journal) (e : Entry) (x : AuditorState) : Type 0 where
  pub known : Knows script (start_rows script) h x
  pub coming : IsComing script h e

abbrev pub Comes : Script → Entry → AuditorState → Type 0
Comes script e x = (h : Journal) × IsNext script h e x

-- the entry was taken, or its reply may not be, after whatever entries it comes
abbrev pub Takes : Bool → Script → Entry → AuditorState → AuditorState → Type 0
Takes b script e x y = (h : Journal) → IsNext script h e x → IsTakenOr b script (start_rows script) h e y

-- the entry was taken, or it breaks this point, over whatever entries are kept
abbrev pub Passes : Option AuditKind → Script → Entry → AuditorState → AuditorState → Type 0
Passes o script e x y = (h : Journal) → Knows script (start_rows script) h x → IsPassed script (start_rows script) h e o y
