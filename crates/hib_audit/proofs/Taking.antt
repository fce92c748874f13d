-- An entry is judged, and taken.
use Rattle.std.specs.Prelude.{slice_get, unwrap_or, option_map}
use Rattle.std.proofs.Common.{◌≡◌, ℕ, ◌<◌, ◌==◌, Bool, true, false, cond, List, ◌∷◌, length, IsSome, Some, None, Option, refl, sym, ap, ◌∙◌, subst, arith, inl, inr}
use Rattle.std.proofs.lemmas.Bool.{true≢false}
use Rattle.hib_base.specs.Tables.{Tables}
use Rattle.hib_base.proofs.Tables.{Tested, tested}
use Rattle.hib_journal.specs.Types.{Key, Script, Part, Act, Reply, Entry}
use Rattle.hib_journal.specs.Sessions.{Journal, own, changes, is_open, killed_by}
use Rattle.hib_journal.specs.Next.{is_cached}
use Rattle.hib_journal.specs.Legal.{IsReply, IsStep, due_by, may_come, part_of, is_outside, reply_of, fault_of}
use Rattle.hib_journal.specs.Lists.{entry_at, IsLate}
use Rattle.hib_journal.specs.Runs.{is_fault}
use Rattle.hib_outside.specs.Causes.{Rose}
use Rattle.hib_session.specs.declared.session.Session.{Session}
use Rattle.hib_session.specs.Session.{Follows, IsTaken, number_of, own_reply}
use Rattle.hib_engines.specs.Served.{AreWithin}
use Rattle.hib_session.specs.Sessions.{AreSessions}
use Rattle.hib_engines.specs.Engines.{EnginesState, AreStanding, IsReady, IsAnswered}
use Rattle.hib_clock.specs.LastTicks.{TicksState, AreLast}
use Rattle.hib_audit.specs.Breaks.{start_rows}
use Rattle.hib_audit.specs.Standing.{AreWritten, HasWritten, WrittenState, IsJudged, IsComing, IsDueOf, IsNext, AuditorState, Knows}
use Rattle.hib_engines.proofs.Allowed.{is_due}
use Rattle.hib_session.proofs.OwnReplies.{own_is}
use Rattle.hib_session.proofs.Killed.{none_killed}
use Rattle.hib_audit.proofs.Replies.{own_unfailing, fault_is}
use Rattle.hib_audit.proofs.Members.{due_within, due_lives}
use Rattle.hib_audit.proofs.Kept.{written_outside}
use Rattle.hib_session.specs.Killed.{AreKilled}
use Rattle.hib_session.proofs.Together.{sessions_outside}

-- ---- the reply

pub judged_true : (script : Script) (start : Tables) (h : Journal) (by : Option ℕ) (now : ℕ) (a : Act) (r q : Reply) (y : EnginesState) → IsAnswered script (Some start) h by now a r y → r ≡ q → IsAnswered script (Some start) h by now a q y
judged_true script start h by now a r q y w e = subst (λ z. IsAnswered script (Some start) h by now a z y) e w

-- the engine's reply is the one that is due, unless it is a fault
due_reply : (script : Script) (start : Tables) (h : Journal) (by : Option ℕ) (now : ℕ) (a : Act) (r : Reply) → IsReply script (Some start) h (entry_at now by a r) → is_fault r ≡ false →
    r ≡ reply_of script start h (unwrap_or by 0) now a
due_reply script start h by now a r (inl e) f = e
due_reply script start h by now a r (inr e) f = absurd (true≢false (sym (fault_is (changes (unwrap_or by 0) h) a r e) ∙ f))

-- and then another reply may not be, unless the act may fail with it
pub judged_false : (script : Script) (start : Tables) (h : Journal) (by : Option ℕ) (now : ℕ) (a : Act) (r q : Reply) → IsReply script (Some start) h (entry_at now by a r) → is_fault r ≡ false → (r ≡ q → ⊥) →
    (fault_of (changes (unwrap_or by 0) h) a ≡ Some q → ⊥) → IsReply script (Some start) h (entry_at now by a q) → ⊥
judged_false script start h by now a r q w f d n (inl e) = d (due_reply script start h by now a r w f ∙ sym e)
judged_false script start h by now a r q w f d n (inr e) = n e

judged : (b : Bool) (script : Script) (start : Tables) (h : Journal) (by : Option ℕ) (now : ℕ) (a : Act) (q : Reply) (y : EnginesState) → (b ≡ true → IsAnswered script (Some start) h by now a q y) →
    (b ≡ false → y.store.faults ≡ 0 → IsReply script (Some start) h (entry_at now by a q) → ⊥) → IsJudged b script start h by now a q y
judged true script start h by now a q y f g = f refl
judged false script start h by now a q y f g = g refl

-- a reply is no fault if no count of faults rose
pub calm_if : (r : Reply) (o w : ℕ) → w ≡ 0 → (is_fault r ≡ true → Rose o w) → is_fault r ≡ false
calm_if r o w z f = by_test (tested (is_fault r))
  where
    by_test : Tested (is_fault r) → is_fault r ≡ false
    by_test (inl p) = absurd (omega (arith, f p, z))
    by_test (inr p) = p

-- by a test of the two replies
pub reply_judged : (b : Bool) (script : Script) (start : Tables) (h : Journal) (by : Option ℕ) (now : ℕ) (a : Act) (r q : Reply) (y : EnginesState) → (b ≡ true → r ≡ q) → (r ≡ q → b ≡ true) →
    IsAnswered script (Some start) h by now a r y → (y.store.faults ≡ 0 → is_fault r ≡ false) → (fault_of (changes (unwrap_or by 0) h) a ≡ Some q → ⊥) → IsJudged b script start h by now a q y
reply_judged b script start h by now a r q y f g v s n = judged b script start h by now a q y (λ e. judged_true script start h by now a r q y v (f e))
    (λ e z. judged_false script start h by now a r q v.reply (s z) (λ d. true≢false (sym (g d) ∙ e)) n)

-- ---- an entry that comes

pub entry_is : (e : Entry) (by : Option ℕ) → e.session ≡ by → part_of e.act (unwrap_or e.session 0) ≡ e.part → entry_at e.tick by e.act e.reply ≡ e
entry_is e by p q = λ i. record { tick = e.tick; session = sym p i; part = (ap (λ (s : Option ℕ). part_of e.act (unwrap_or s 0)) (sym p) ∙ q) i; act = e.act; reply = e.reply }

due_at : (script : Script) (h : Journal) (e : Entry) (s : ℕ) → IsComing script h e → e.session ≡ Some s → due_by script h (Some s) e.act ≡ Some e.act
due_at script h e s c p = subst (λ by. due_by script h by e.act ≡ Some e.act) p c.due

allowed_at : (script : Script) (h : Journal) (e : Entry) (s : ℕ) → IsComing script h e → e.session ≡ Some s → Rattle.hib_journal.specs.Due.IsAllowed script s (own s h) e.act
allowed_at script h e s c p = subst (λ by. Rattle.hib_audit.specs.Standing.IsAllowedFor script h by e.act) p c.allowed

pub late_of : (script : Script) (h : Journal) (e : Entry) → IsComing script h e → IsLate (part_of e.act (unwrap_or e.session 0)) e.tick h
late_of script h e c = subst (λ p. IsLate p e.tick h) (sym c.part) c.tick.in_part

pub ready_of : (script : Script) (start : Tables) (h : Journal) (s : ℕ) (e : Entry) (x : AuditorState) → Knows script start h x → IsComing script h e → e.session ≡ Some s →
    IsReady script (Some start) h s e.tick e.act x.engines
ready_of script start h s e x k c p = record {
  standing = k.engines;
  live = (due_lives script h s e.act e.act (due_at script h e s c p)).0;
  late = subst (λ by. IsLate (part_of e.act (unwrap_or by 0)) e.tick h) p (late_of script h e c);
  due = is_due script s (own s h) e.act k.built.queries (allowed_at script h e s c p);
}

pub session_within : (script : Script) (h : Journal) (s : ℕ) (e : Entry) → IsComing script h e → e.session ≡ Some s → s < length script.sessions
session_within script h s e c p = due_within script h s e.act e.act (due_at script h e s c p)

pub inside_of : (script : Script) (h : Journal) (s : ℕ) (e : Entry) → IsComing script h e → e.session ≡ Some s → is_outside e.act ≡ false
inside_of script h s e c p = (allowed_at script h e s c p).inside

-- its session, and what that has written, stand at its place
pub place_in : (script : Script) (h : Journal) (s : ℕ) (e : Entry) (x : AuditorState) → IsNext script h e x → e.session ≡ Some s → s < length x.sessions
place_in script h s e x n p = subst (λ m. s < m) (sym n.known.sessions.all) (session_within script h s e n.coming p)

pub written_in : (script : Script) (h : Journal) (s : ℕ) (e : Entry) (x : AuditorState) → IsNext script h e x → e.session ≡ Some s → s < length x.written
written_in script h s e x n p = subst (λ m. s < m) (sym n.known.written.all) (session_within script h s e n.coming p)

pub due_here : (script : Script) (h : Journal) (s : ℕ) (e : Entry) (x : AuditorState) (y : Session) (w : WrittenState) → IsNext script h e x → e.session ≡ Some s →
    slice_get x.sessions s ≡ Some y → slice_get x.written s ≡ Some w → IsDueOf script h e y w x.engines
due_here script h s e x y w n p q r = record {
  ready = subst (λ m. IsReady script (Some (start_rows script)) h m e.tick e.act x.engines) (sym here) ready;
  follows = subst (λ m. Follows script y (own m h)) (sym here) (n.known.sessions.follow s y q ready.live);
  written = subst (λ m. HasWritten (changes m h) w) (sym here) (n.known.written.each s w r);
}
  where
    ready : IsReady script (Some (start_rows script)) h s e.tick e.act x.engines
    ready = ready_of script (start_rows script) h s e x n.known n.coming p

    here : number_of y ≡ s
    here = n.known.sessions.numbers s y q

-- the tables that its act names are there
pub tables_in : (script : Script) (h : Journal) (s : ℕ) (e : Entry) (x : AuditorState) → IsNext script h e x → e.session ≡ Some s → AreWithin (length x.engines.stamps) e.act
tables_in script h s e x n p = subst (λ m. AreWithin m e.act) (sym n.known.engines.stamps.tables) (ready_of script (start_rows script) h s e x n.known n.coming p).due.known

-- the session takes its entry
own_or : (script : Script) (start : Tables) (h : Journal) (s now : ℕ) (a : Act) (r q : Reply) → IsReply script (Some start) h (entry_at now (Some s) a r) → own_reply script (own s h) a ≡ Some q → r ≡ q
own_or script start h s now a r q (inl e) p = e ∙ sym (own_is script h s now a q p start)
own_or script start h s now a r q (inr e) p = absurd (own_unfailing script (own s h) (changes s h) a q r p e)

pub taken_of : (script : Script) (start : Tables) (h : Journal) (s : ℕ) (e : Entry) (y : EnginesState) → IsComing script h e → e.session ≡ Some s → IsAnswered script (Some start) h (Some s) e.tick e.act e.reply y →
    IsTaken script s (own s h) e
taken_of script start h s e y c p v = record {
  due = (due_lives script h s e.act e.act (due_at script h e s c p)).1;
  own = λ q o. own_or script start h s e.tick e.act e.reply q v.reply o;
}

-- ---- all that is kept, with an entry more

-- the last ticks, with an entry more
abbrev pub IsNoted : Entry → TicksState → TicksState → Type 0
IsNoted e x y = (g : Journal) → AreLast x g → AreLast y (e ∷ g)

-- the five points hold
step_of : (script : Script) (start : Tables) (h : Journal) (e : Entry) → IsComing script h e → IsReply script (Some start) h e → IsStep script (Some start) h e
step_of script start h e c r = record {
  tick = c.tick;
  session = subst (λ (o : Option Act). IsSome o) (sym c.due) refl;
  part = ap (λ (o : Option Act). option_map (λ a. part_of a (unwrap_or e.session 0)) o) c.due ∙ ap (λ (p : Part). Some p) c.part;
  act = ap (λ (o : Option Act). may_come script h o) c.due ∙ c.comes;
  reply = r;
}

knows_more : (script : Script) (start : Tables) (h : Journal) (by : Option ℕ) (e : Entry) (x y : AuditorState) → Knows script start h x → IsComing script h e → e.session ≡ by →
    IsAnswered script (Some start) h by e.tick e.act e.reply y.engines → AreSessions script (e ∷ h) y.sessions → AreWritten script (e ∷ h) y.written → IsNoted e x.ticks y.ticks → Knows script start (e ∷ h) y
knows_more script start h by e x y k c p v ss ws q = record {
  legal = (k.legal, step_of script start h e c (subst (λ (d : Entry). IsReply script (Some start) h d) same v.reply));
  engines = subst (λ (d : Entry). AreStanding script (Some start) (d ∷ h) y.engines) same v.standing;
  sessions = ss;
  written = ws;
  ticks = q h k.ticks;
  built = k.built;
}
  where
    same : entry_at e.tick by e.act e.reply ≡ e
    same = entry_is e by p c.part

pub knows_session : (script : Script) (start : Tables) (h : Journal) (s : ℕ) (e : Entry) (x y : AuditorState) → Knows script start h x → IsComing script h e → e.session ≡ Some s →
    IsAnswered script (Some start) h (Some s) e.tick e.act e.reply y.engines → AreSessions script (e ∷ h) y.sessions → AreWritten script (e ∷ h) y.written → IsNoted e x.ticks y.ticks → Knows script start (e ∷ h) y
knows_session script start h s e x y k c p v ss ws q = knows_more script start h (Some s) e x y k c p v ss ws q

-- of an entry whose reply may not be
pub not_taken : (script : Script) (start : Tables) (h : Journal) (by : Option ℕ) (e : Entry) (y : EnginesState) → IsComing script h e → e.session ≡ by →
    (y.store.faults ≡ 0 → IsReply script (Some start) h (entry_at e.tick by e.act e.reply) → ⊥) → y.store.faults ≡ 0 → IsReply script (Some start) h e → ⊥
not_taken script start h by e y c p f z r = f z (subst (λ (d : Entry). IsReply script (Some start) h d) (sym (entry_is e by p c.part)) r)

-- ---- from outside

knows_outside : (script : Script) (start : Tables) (h : Journal) (e : Entry) (x y : AuditorState) → Knows script start h x → IsComing script h e → e.session ≡ None →
    IsAnswered script (Some start) h None e.tick e.act e.reply y.engines → AreKilled (λ s. killed_by s e.act (is_open s h)) x.sessions y.sessions → y.written ≡ x.written → IsNoted e x.ticks y.ticks → Knows script start (e ∷ h) y
knows_outside script start h e x y k c p v ss ws q = knows_more script start h None e x y k c p v
    (subst (λ (d : Entry). AreSessions script (d ∷ h) y.sessions) (entry_is e None p c.part) (sessions_outside script h e.tick e.act e.reply x.sessions y.sessions k.sessions ss))
    (subst (λ xs. AreWritten script (e ∷ h) xs) (sym ws) (written_outside script h e x.written p k.written)) q

pub knows_kill : (script : Script) (start : Tables) (h : Journal) (n : ℕ) (e : Entry) (x y : AuditorState) → Knows script start h x → IsComing script h e → e.session ≡ None → e.act ≡ Act.Kill n → e.reply ≡ Reply.Done →
    (AreStanding script (Some start) h x.engines → IsLate Part.Registry e.tick h → IsAnswered script (Some start) h None e.tick (Act.Kill n) Reply.Done y.engines) →
    AreKilled (λ s. n == s) x.sessions y.sessions → y.written ≡ x.written → IsNoted e x.ticks y.ticks → Knows script start (e ∷ h) y
knows_kill script start h n e x y k c p a r f ss ws q = knows_outside script start h e x y k c p
    (subst (λ (z : Reply). IsAnswered script (Some start) h None e.tick e.act z y.engines) (sym r)
    (subst (λ (o : Act). IsAnswered script (Some start) h None e.tick o Reply.Done y.engines) (sym a) (f k.engines late)))
    (subst (λ (o : Act). AreKilled (λ s. killed_by s o (is_open s h)) x.sessions y.sessions) (sym a) ss) ws q
  where
    late : IsLate Part.Registry e.tick h
    late = subst (λ (o : Act). IsLate (part_of o (unwrap_or e.session 0)) e.tick h) a (late_of script h e c)

pub knows_restart : (script : Script) (start : Tables) (h : Journal) (e : Entry) (x y : AuditorState) → Knows script start h x → IsComing script h e → e.session ≡ None → e.act ≡ Act.Restart → e.reply ≡ Reply.Done →
    (AreStanding script (Some start) h x.engines → IsLate Part.Registry e.tick h → IsAnswered script (Some start) h None e.tick Act.Restart Reply.Done y.engines) →
    AreKilled (λ s. is_open s h) x.sessions y.sessions → y.written ≡ x.written → IsNoted e x.ticks y.ticks → Knows script start (e ∷ h) y
knows_restart script start h e x y k c p a r f ss ws q = knows_outside script start h e x y k c p
    (subst (λ (z : Reply). IsAnswered script (Some start) h None e.tick e.act z y.engines) (sym r)
    (subst (λ (o : Act). IsAnswered script (Some start) h None e.tick o Reply.Done y.engines) (sym a) (f k.engines late)))
    (subst (λ (o : Act). AreKilled (λ s. killed_by s o (is_open s h)) x.sessions y.sessions) (sym a) ss) ws q
  where
    late : IsLate Part.Registry e.tick h
    late = subst (λ (o : Act). IsLate (part_of o (unwrap_or e.session 0)) e.tick h) a (late_of script h e c)

pub evict_cached : (script : Script) (h : Journal) (k : Key) (a : Act) → a ≡ Act.Evict k → may_come script h (Some a) ≡ Some a → is_cached script k.entity ≡ true
evict_cached script h k a e m = by_test (is_cached script k.entity) refl (subst (λ (o : Act). may_come script h (Some o) ≡ Some o) e m)
  where
    none_some : ◌≡◌ {A = Option Act} None (Some (Act.Evict k)) → ⊥
    none_some z = cc

    by_test : (b : Bool) → is_cached script k.entity ≡ b → cond b (Some (Act.Evict k)) None ≡ Some (Act.Evict k) → b ≡ true
    by_test true q z = refl
    by_test false q z = absurd (none_some z)

pub evict_late : (script : Script) (h : Journal) (k : Key) (e : Entry) → IsComing script h e → e.act ≡ Act.Evict k → IsLate (Part.Region k.entity) e.tick h
evict_late script h k e c a = subst (λ (o : Act). IsLate (part_of o (unwrap_or e.session 0)) e.tick h) a (late_of script h e c)

pub knows_evict : (script : Script) (start : Tables) (h : Journal) (k : Key) (e : Entry) (x y : AuditorState) → Knows script start h x → IsComing script h e → e.session ≡ None → e.act ≡ Act.Evict k →
    IsAnswered script (Some start) h None e.tick e.act e.reply y.engines → y.sessions ≡ x.sessions → y.written ≡ x.written → IsNoted e x.ticks y.ticks → Knows script start (e ∷ h) y
knows_evict script start h k e x y w c p a v ss ws q = knows_outside script start h e x y w c p v
    (subst (λ xs. AreKilled (λ s. killed_by s e.act (is_open s h)) x.sessions xs) (sym ss) (subst (λ (o : Act). AreKilled (λ s. killed_by s o (is_open s h)) x.sessions x.sessions) (sym a) (none_killed x.sessions))) ws q

pub evict_sure : (cs : List Rattle.hib_journal.specs.Types.Change) (k : Key) (a : Act) (q : Reply) → a ≡ Act.Evict k → fault_of cs a ≡ Some q → ⊥
evict_sure cs k a q e f = none (subst (λ (o : Act). fault_of cs o ≡ Some q) e f)
  where
    none : ◌≡◌ {A = Option Reply} None (Some q) → ⊥
    none z = cc

-- a kill and a restart are answered Done
pub done_due : (script : Script) (start : Tables) (h : Journal) (by : Option ℕ) (now : ℕ) (a b : Act) (q : Reply) → a ≡ b → reply_of script start h (unwrap_or by 0) now b ≡ Reply.Done → ((cs : List Rattle.hib_journal.specs.Types.Change) → fault_of cs b ≡ None) →
    (q ≡ Reply.Done → ⊥) → IsReply script (Some start) h (entry_at now by a q) → ⊥
done_due script start h by now a b q e d f n w = by_cases (subst (λ (o : Act). IsReply script (Some start) h (entry_at now by o q)) e w)
  where
    some_none : ◌≡◌ {A = Option Reply} None (Some q) → ⊥
    some_none z = cc

    by_cases : IsReply script (Some start) h (entry_at now by b q) → ⊥
    by_cases (inl z) = n (z ∙ d)
    by_cases (inr z) = some_none (sym (f (changes (unwrap_or by 0) h)) ∙ z)
