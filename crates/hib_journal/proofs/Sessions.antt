-- The laws of sessions over a journal: times, and what one more entry leaves as it is.
use Rattle.std.proofs.Common.{◌≡◌, ℕ, ◌<◌, ◌≤◌, ◌⊎◌, inl, inr, Bool, true, false, ◌&&◌, [], ◌∷◌, Some, None, Option, refl, ap, subst, arith}
use Rattle.std.proofs.lemmas.Bool.{eqb-true, true≢false, false≢true}
use Rattle.hib_journal.specs.Types.{Key, Row, Act, Entry}
use Rattle.hib_base.specs.Tables.{Tables, row_at}
use Rattle.hib_journal.specs.Sessions.{Journal, is_by, is_session, same_session, own, time, time_in, time_after, last_tick, committed, IsTimely}
use Rattle.hib_journal.specs.Held.{is_begin}
use Rattle.hib_journal.specs.Coherence.{Seen}
use Rattle.hib_base.proofs.Tables.{Tested, tested}

-- each entry comes in time
abbrev pub IsOrdered : Journal → Type 0
IsOrdered [] = Unit {0}
IsOrdered (e ∷ h) = IsTimely e h × IsOrdered h

pub own_self : (s : ℕ) (e : Entry) (h : Journal) → is_by s e ≡ true → own s (e ∷ h) ≡ e ∷ own s h
own_self s e h p = rw p

pub own_other : (s : ℕ) (e : Entry) (h : Journal) → is_by s e ≡ false → own s (e ∷ h) ≡ own s h
own_other s e h p = rw p

pub time_other : (s : ℕ) (e : Entry) (h : Journal) → is_by s e ≡ false → time s (e ∷ h) ≡ time s h
time_other s e h p = rw p

time_kept : (a : Act) (now t : ℕ) → is_begin a ≡ false → time_after a now t ≡ t
time_kept Act.Begin now t p = absurd (true≢false p)
time_kept _ now t p = refl

pub time_same : (s : ℕ) (e : Entry) (h : Journal) → (is_by s e && is_begin e.act) ≡ false → time s (e ∷ h) ≡ time s h
time_same s e h p = by_session (tested (is_by s e)) p
  where
    by_session : Tested (is_by s e) → (is_by s e && is_begin e.act) ≡ false → time s (e ∷ h) ≡ time s h
    by_session (inl b) q = let r : is_begin e.act ≡ false = rw b at q in rw b (time_kept e.act e.tick (time_in (own s h)) r)
    by_session (inr b) q = rw b

-- the entries of s
abbrev pub by : ℕ → Entry → Bool
by s d = is_session s d.session

pub is_some_session : (s : ℕ) (o : Option ℕ) → is_session s o ≡ true → o ≡ Some s
is_some_session s None p = absurd (false≢true p)
is_some_session s (Some n) p = ap Some (eqb-true n s p)

-- an entry of s comes after the earlier ones of s
session_rises : (s : ℕ) (e : Entry) (h : Journal) → IsTimely e h → is_by s e ≡ true → last_tick (by s) h < e.tick
session_rises s e h t p =
    let q : e.session ≡ Some s = is_some_session s e.session p in
    subst (λ o. last_tick (λ d. same_session o d.session) h < e.tick) q t.in_session

begin_time : (a : Act) (now t : ℕ) → time_after a now t ≤ t ⊎ (time_after a now t ≡ now)
begin_time Act.Begin now t = inr refl
begin_time _ now t = inl (omega arith)

pub time_le_tick : (s : ℕ) (h : Journal) → IsOrdered h → time s h ≤ last_tick (by s) h
time_le_tick s [] o = omega arith
time_le_tick s (e ∷ h) o = by_session (tested (is_by s e)) (time_le_tick s h o.1) (begin_time e.act e.tick (time s h))
  where
    by_session : Tested (is_by s e) → time s h ≤ last_tick (by s) h → (time_after e.act e.tick (time s h) ≤ time s h) ⊎ (time_after e.act e.tick (time s h) ≡ e.tick) →
        time s (e ∷ h) ≤ last_tick (by s) (e ∷ h)
    by_session (inl b) i (inl c) = let r : last_tick (by s) h < e.tick = session_rises s e h o.0 b in rw (b) (omega arith)
    by_session (inl b) i (inr c) = rw b (omega arith)
    by_session (inr b) i c = rw b i

-- what a session has seen, it saw after its Begin
pub seen_later : (start : Tables) (k : Key) (s : ℕ) (b : Row) (h : Journal) → IsOrdered h → Seen start k s b h → time s h < last_tick (λ d. true) h
seen_later start k s b [] o n = absurd n
seen_later start k s b (e ∷ h) o n = by_begin (tested (is_by s e && is_begin e.act)) n (λ m. seen_later start k s b h o.1 m)
  where
    earlier : (is_by s e && is_begin e.act) ≡ false → Seen start k s b h → (Seen start k s b h → time s h < last_tick (λ d. true) h) → time s (e ∷ h) < e.tick
    earlier p m i =
        let a : time s h < last_tick (λ d. true) h = i m in
        let q : last_tick (λ d. true) h ≤ e.tick = o.0.ordered in
        rw (time_same s e h p) (omega arith)

    here : (is_by s e && is_begin e.act) ≡ false → is_by s e ≡ true → time s (e ∷ h) < e.tick
    here p b =
        let a : time s h ≤ last_tick (by s) h = time_le_tick s h o.1 in
        let r : last_tick (by s) h < e.tick = session_rises s e h o.0 b in
        rw (time_same s e h p) (omega arith)

    by_begin : Tested (is_by s e && is_begin e.act) → Seen start k s b (e ∷ h) → (Seen start k s b h → time s h < last_tick (λ d. true) h) → time s (e ∷ h) < e.tick
    by_begin (inl p) m i = let a : ⊥ = rw p at m in absurd a
    by_begin (inr p) m i =
        let a : ((is_by s e ≡ true) × (row_at (committed start (e ∷ h)) k ≡ Some b)) ⊎ Seen start k s b h = rw p at m in
        elim a [ inl x ↦ here p x.0 | inr x ↦ earlier p x i ]

pub seen_before : (start : Tables) (k : Key) (s : ℕ) (b : Row) (e : Entry) (h : Journal) → IsOrdered (e ∷ h) → Seen start k s b h → time s h < e.tick
seen_before start k s b e h o n =
    let a : time s h < last_tick (λ d. true) h = seen_later start k s b h o.1 n in
    let q : last_tick (λ d. true) h ≤ e.tick = o.0.ordered in
    omega arith
