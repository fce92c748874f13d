-- What holds at a call of the auditor: when a session's entry comes, when its session was read, and when the act that is due is known.
use Rattle.std.specs.Prelude.{slice_get, IfSome, is_some}
use Rattle.std.proofs.Common.{◌≡◌, ℕ, ◌<◌, Bool, true, false, List, length, get_or, Some, Option, sym, subst, ◌∙◌}
use Rattle.hib_journal.specs.Types.{Script, Act, Entry}
use Rattle.hib_journal.specs.Sessions.{Journal, IsTimely}
use Rattle.hib_journal.specs.Legal.{due, is_outside}
use Rattle.hib_session.specs.declared.session.Session.{Session}
use Rattle.hib_session.specs.Session.{number_of}
use Rattle.hib_session.specs.Sessions.{AreSessions}
use Rattle.hib_engines.specs.Engines.{EnginesState}
use Rattle.hib_engines.specs.Registry.{IsRegistry, Opened}
use Rattle.hib_engines.specs.Served.{AreWithin}
use Rattle.hib_audit.specs.declared.points.AuditKind.{AuditKind}
use Rattle.hib_audit.specs.Breaks.{start_rows}
use Rattle.hib_audit.specs.Standing.{AuditorState, Differs, IsAllowedFor, IsDueOf, IsJudged, IsNext, Judges, Knows, WrittenState, is_after}
use Rattle.hib_audit.proofs.Lists.{read_at}
use Rattle.hib_audit.proofs.Passing.{coming_of, none_of}
use Rattle.hib_audit.proofs.Taking.{due_here, inside_of, place_in, tables_in, written_in}
use Rattle.hib_audit.proofs.Ticking.{after_timely}

-- an entry that comes to what is seen of an auditor comes to its parts
pub next_of : {script : Script} {h : Journal} {e : Entry} {x v : AuditorState} → x ≡ v → IsNext script h e v → IsNext script h e x
next_of {script} {h} {e} {x} {v} p n = subst (λ (z : AuditorState). IsNext script h e z) (sym p) n

-- ---- the entry of a session

pub record AtSession (script : Script) (h : Journal) (s : ℕ) (e : Entry) (x : AuditorState) : Type 0 where
  pub next : IsNext script h e x
  pub place : s < length x.sessions
  pub written : s < length x.written
  pub tables : AreWithin (length x.engines.stamps) e.act
  pub inside : is_outside e.act ≡ false

pub at_session : {script : Script} {h : Journal} {s : ℕ} {e : Entry} {x v : AuditorState} → x ≡ v → IsNext script h e v → e.session ≡ Some s → AtSession script h s e x
at_session {script} {h} {s} {e} {x} {v} p n by = record {
  next = m;
  place = place_in script h s e x m by;
  written = written_in script h s e x m by;
  tables = tables_in script h s e x m by;
  inside = inside_of script h s e m.coming by;
}
  where
    m : IsNext script h e x
    m = next_of p n

-- its session and what that has written were read at their place
pub record AtRead (script : Script) (h : Journal) (s : ℕ) (e : Entry) (x : AuditorState) (y : Session) (w : WrittenState) : Type 0 where
  pub next : IsNext script h e x
  pub here : number_of y ≡ s
  pub due : IsDueOf script h e y w x.engines

pub at_read : {script : Script} {h : Journal} {s i : ℕ} {e : Entry} {x v : AuditorState} {y : Session} {w : WrittenState} → x ≡ v → IsNext script h e v → e.session ≡ Some s → i ≡ s → y ≡ get_or x.sessions i y →
    w ≡ get_or x.written i w → AtRead script h s e x y w
at_read {script} {h} {s} {i} {e} {x} {v} {y} {w} p n by q a b = record {
  next = at.next;
  here = at.next.known.sessions.numbers s y there;
  due = due_here script h s e x y w at.next by there (read_at x.written i s w q at.written b);
}
  where
    at : AtSession script h s e x
    at = at_session p n by

    there : slice_get x.sessions s ≡ Some y
    there = read_at x.sessions i s y q at.place a

-- what was judged of its reply, of the session at its place
pub judged_at : (b d : Bool) {script : Script} {h : Journal} {s : ℕ} {e : Entry} {x : AuditorState} {y : Session} {w : WrittenState} (z : EnginesState) → AtRead script h s e x y w → b ≡ d → Judges b script e y w x.engines z →
    IsJudged d script (start_rows script) h (Some s) e.tick e.act e.reply z
judged_at b d {script} {h} {s} {e} {x} {y} {w} z at q f = subst (λ (m : ℕ). IsJudged d script (start_rows script) h (Some m) e.tick e.act e.reply z) at.here
    (subst (λ (t : Bool). IsJudged t script (start_rows script) h (Some (number_of y)) e.tick e.act e.reply z) q (f h at.due))

-- ---- an entry with the act that is due

pub record AtDue (script : Script) (h : Journal) (e : Entry) (a : Act) (ps : Opened) : Type 0 where
  pub registry : IsRegistry ps h
  pub timely : IsTimely e h
  pub named : due script h e ≡ Some a
  pub allowed : IsAllowedFor script h e.session a

pub at_due : {script : Script} {h : Journal} {e : Entry} {x v : AuditorState} {ys : List Session} {ps : Opened} {o : Option Act} {a : Act} → x ≡ v → Knows script (start_rows script) h v → is_after x.ticks e ≡ true → ys ≡ x.sessions →
    ps ≡ x.engines.registry → (AreSessions script h ys → o ≡ due script h e) → (AreSessions script h ys → IfSome o (IsAllowedFor script h e.session)) → o ≡ Some a → AtDue script h e a ps
at_due {script} {h} {e} {x} {v} {ys} {ps} {o} {a} p w t s r d f q = record {
  registry = subst (λ (zs : Opened). IsRegistry zs h) (sym r) k.engines.registry;
  timely = after_timely h x.ticks e k.ticks t;
  named = sym (d sessions) ∙ q;
  allowed = subst (λ (z : Option Act). IfSome z (IsAllowedFor script h e.session)) q (f sessions);
}
  where
    k : Knows script (start_rows script) h x
    k = subst (λ (z : AuditorState). Knows script (start_rows script) h z) (sym p) w

    sessions : AreSessions script h ys
    sessions = subst (λ (zs : List Session). AreSessions script h zs) (sym s) k.sessions

-- if it names no other part and no other act, its reply alone is left to be judged
pub next_at : (d : Option AuditKind) {script : Script} {h : Journal} {e : Entry} {v : AuditorState} {a : Act} {ps : Opened} → Knows script (start_rows script) h v → AtDue script h e a ps → is_some d ≡ false →
    (IsRegistry ps h → Differs script h a e d) → IsNext script h e v
next_at d {script} {h} {e} {v} {a} {ps} w at q f = record {
  known = w;
  coming = coming_of script h e a at.timely at.named (subst (λ (o : Option AuditKind). Differs script h a e o) (none_of d q) (f at.registry)) at.allowed;
}
