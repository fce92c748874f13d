-- The open sessions are those of the journal, after each entry.
use Rattle.std.proofs.Common.{◌≡◌, ℕ, ◌≤◌, ◌<◌, Bool, true, false, cond, ◌||◌, ◌==◌, List, [], ◌∷◌, ◌++◌, Some, None, Option, is_some, refl, sym, ap, ◌∙◌, subst, arith, inl, inr}
use Rattle.std.proofs.lemmas.Bool.{true≢false, false≢true, and_parts, and_from, eqb-true, eq-eqb, ne_eqb}
use Rattle.hib_base.proofs.Tables.{Tested, tested}
use Rattle.hib_journal.specs.Types.{Part, Act, Entry}
use Rattle.hib_journal.specs.Sessions.{Journal, is_by, is_session, is_open, open_after, time, time_after, is_live, least_live, floor, same_part}
use Rattle.hib_journal.specs.Legal.{part_of}
use Rattle.hib_journal.specs.Held.{is_begin}
use Rattle.hib_engines.specs.Registry.{Opened, Each, floor_in, holds, without, time_of, AreRising, time_if_open, opened_after, last_of, IsRegistry}

-- the floor

-- a live Begin has the time of an open session
live_time : (whole : Journal) (a : Act) (by : Option ℕ) (tick b : ℕ) → is_live whole a by tick ≡ true →
    ((s : ℕ) → is_open s whole ≡ true → b ≤ time s whole) → b ≤ tick
live_time whole Act.Begin (Some s) tick b p f =
    let q : (is_open s whole ≡ true) × ((time s whole == tick) ≡ true) = and_parts (is_open s whole) (time s whole == tick) p in
    let e : time s whole ≡ tick = eqb-true (time s whole) tick q.1 in
    let l : b ≤ time s whole = f s q.0 in
    omega arith
live_time whole Act.Begin None tick b p f = absurd (false≢true p)
live_time whole _ by tick b p f = absurd (false≢true p)

least_ge : (whole h : Journal) (b now : ℕ) → b ≤ now → ((s : ℕ) → is_open s whole ≡ true → b ≤ time s whole) → b ≤ least_live whole h now
least_ge whole [] b now l f = l
least_ge whole (e ∷ h) b now l f = by_test (tested (is_live whole e.act e.session e.tick)) (least_ge whole h b now l f)
  where
    by_test : Tested (is_live whole e.act e.session e.tick) → b ≤ least_live whole h now → b ≤ least_live whole (e ∷ h) now
    by_test (inl p) i = let t : b ≤ e.tick = live_time whole e.act e.session e.tick b p f in rw p (omega arith)
    by_test (inr p) i = rw p i

-- an open session's time is that of a live Begin
unchanged : (a : Act) (tick t : ℕ) → is_begin a ≡ false → time_after a tick t ≡ t
unchanged Act.Begin tick t f = absurd (true≢false f)
unchanged _ tick t f = refl

begun_at : (a : Act) (tick t : ℕ) → is_begin a ≡ true → time_after a tick t ≡ tick
begun_at Act.Begin tick t p = refl
begun_at _ tick t p = absurd (false≢true p)

live_begin : (whole : Journal) (a : Act) (by : Option ℕ) (s tick : ℕ) → is_begin a ≡ true → is_session s by ≡ true → is_open s whole ≡ true → time s whole ≡ tick → is_live whole a by tick ≡ true
live_begin whole Act.Begin (Some n) s tick p q o t =
    let e : n ≡ s = eqb-true n s q in
    rw e (and_from (is_open s whole) (time s whole == tick) o (eq-eqb (time s whole) tick t))
live_begin whole Act.Begin None s tick p q o t = absurd (false≢true q)
live_begin whole _ by s tick p q o t = absurd (false≢true p)

least_less : (whole h : Journal) (e : Entry) (t now : ℕ) → least_live whole h now ≤ t → least_live whole (e ∷ h) now ≤ t
least_less whole h e t now i = by_test (tested (is_live whole e.act e.session e.tick))
  where
    by_test : Tested (is_live whole e.act e.session e.tick) → least_live whole (e ∷ h) now ≤ t
    by_test (inl q) = rw q (omega arith)
    by_test (inr q) = rw q i

least_le : (whole h : Journal) (s now : ℕ) → is_open s whole ≡ true → 1 ≤ time s whole → time s h ≡ time s whole → least_live whole h now ≤ time s whole
least_le whole [] s now o l e = absurd (omega arith)
least_le whole (e ∷ h) s now o l p = by_owner (tested (is_by s e)) (least_le whole h s now o l)
  where
    by_owner : Tested (is_by s e) → (time s h ≡ time s whole → least_live whole h now ≤ time s whole) → least_live whole (e ∷ h) now ≤ time s whole
    by_owner (inr t) ih = least_less whole h e (time s whole) now (ih (sym (rw t refl) ∙ p))
    by_owner (inl t) ih = by_act (tested (is_begin e.act)) (sym (rw t refl) ∙ p)
      where
        by_act : Tested (is_begin e.act) → time_after e.act e.tick (time s h) ≡ time s whole → least_live whole (e ∷ h) now ≤ time s whole
        by_act (inr b) q = least_less whole h e (time s whole) now (ih (sym (unchanged e.act e.tick (time s h) b) ∙ q))
        by_act (inl b) q =
            let now_is : time s whole ≡ e.tick = sym q ∙ begun_at e.act e.tick (time s h) b in
            let live : is_live whole e.act e.session e.tick ≡ true = live_begin whole e.act e.session s e.tick b t o now_is in
            rw live (omega arith)

least_most : (whole h : Journal) (now : ℕ) → least_live whole h now ≤ now
least_most whole [] now = omega arith
least_most whole (e ∷ h) now = least_less whole h e now now (least_most whole h now)

-- what is known of a session in the list

abbrev shown : Bool → ℕ → Option ℕ
shown o t = cond o (Some t) None

pub none_some : (t : ℕ) → ◌≡◌ {A = Option ℕ} None (Some t) → ⊥
none_some t p = cc

pub same_some : (t u : ℕ) → Some t ≡ Some u → t ≡ u
same_some t u p = cc

pub closed : (o : Bool) (t : ℕ) → None ≡ shown o t → o ≡ false
closed true t p = absurd (none_some t p)
closed false t p = refl

pub opened : (o : Bool) (t u : ℕ) → Some u ≡ shown o t → (o ≡ true) × (t ≡ u)
opened true t u p = (refl, sym (same_some u t p))
opened false t u p = absurd (none_some u (sym p))

pub self_eq : (n : ℕ) → (n == n) ≡ true
self_eq n = eq-eqb n n refl

pub time_of_self : (p : ℕ × ℕ) (ps : Opened) → time_of (p ∷ ps) p.0 ≡ Some p.1
time_of_self p ps = rw (self_eq p.0) refl

-- a time that is found is one of the list
pub found : (P : ℕ → Type 0) (ps : Opened) (s t : ℕ) → Each P ps → time_of ps s ≡ Some t → P t
found P [] s t a e = absurd (none_some t e)
found P (p ∷ ps) s t a e = by_test (tested (p.0 == s)) (λ q. found P ps s t a.1 q)
  where
    by_test : Tested (p.0 == s) → (time_of ps s ≡ Some t → P t) → P t
    by_test (inl q) f = subst P (same_some p.1 t (sym (rw q refl) ∙ e)) a.0
    by_test (inr q) f = f (sym (rw q refl) ∙ e)

-- whether a session is open
pub held_time : (ps : Opened) (s : ℕ) → holds s ps ≡ is_some (time_of ps s)
held_time [] s = refl
held_time (p ∷ ps) s = by_test (tested (p.0 == s)) (held_time ps s)
  where
    by_test : Tested (p.0 == s) → holds s ps ≡ is_some (time_of ps s) → holds s (p ∷ ps) ≡ is_some (time_of (p ∷ ps) s)
    by_test (inl q) i = rw q refl
    by_test (inr q) i = rw q i

open_shown : (o : Bool) (t : ℕ) → is_some (shown o t) ≡ o
open_shown true t = refl
open_shown false t = refl

pub holds_open : (ps : Opened) (h : Journal) (s : ℕ) → IsRegistry ps h → holds s ps ≡ is_open s h
holds_open ps h s w = held_time ps s ∙ (ap is_some (w.each s) ∙ open_shown (is_open s h) (time s h))

-- the first session's time is the floor
pub floor_is : (ps : Opened) (h : Journal) (now : ℕ) → IsRegistry ps h → last_of h < now → floor_in ps now ≡ floor h now
floor_is [] h now r l =
    let low : now ≤ least_live h h now = least_ge h h now now (omega arith) (λ s o. absurd (true≢false (sym o ∙ closed (is_open s h) (time s h) (r.each s)))) in
    let high : least_live h h now ≤ now = least_most h h now in
    omega arith
floor_is (p ∷ ps) h now r l =
    let first : (is_open p.0 h ≡ true) × (time p.0 h ≡ p.1) = opened (is_open p.0 h) (time p.0 h) p.1 (sym (time_of_self p ps) ∙ r.each p.0) in
    let one : 1 ≤ time p.0 h = let a : 1 ≤ p.1 = r.since.0 in omega (arith, first.1) in
    let high : least_live h h now ≤ time p.0 h = least_le h h p.0 now first.0 one refl in
    let low : p.1 ≤ least_live h h now = least_ge h h p.1 now (let u : p.1 ≤ last_of h = r.until.0 in omega arith) (λ s o. least_of s o (tested (p.0 == s)) (r.each s)) in
    omega (arith, first.1)
  where
    least_of : (s : ℕ) → is_open s h ≡ true → Tested (p.0 == s) → time_of (p ∷ ps) s ≡ time_if_open s h → p.1 ≤ time s h
    least_of s o (inl q) e = let x : p.1 ≡ time s h = same_some p.1 (time s h) (sym (rw q refl) ∙ (e ∙ rw o refl)) in omega arith
    least_of s o (inr q) e = let x : p.1 < time s h = found (λ t. p.1 < t) ps s (time s h) r.rising.0 (sym (rw q refl) ∙ (e ∙ rw o refl)) in omega arith

-- after an entry

pub time_of-append : (ps : Opened) (n t s : ℕ) → time_of ps s ≡ None → time_of (ps ++ (n, t) ∷ []) s ≡ cond (n == s) (Some t) None
time_of-append [] n t s e = refl
time_of-append (p ∷ ps) n t s e = by_test (tested (p.0 == s)) (λ q. time_of-append ps n t s q)
  where
    by_test : Tested (p.0 == s) → (time_of ps s ≡ None → time_of (ps ++ (n, t) ∷ []) s ≡ cond (n == s) (Some t) None) → time_of (p ∷ ps ++ (n, t) ∷ []) s ≡ cond (n == s) (Some t) None
    by_test (inl q) f = absurd (none_some p.1 (sym e ∙ rw q refl))
    by_test (inr q) f = rw q (f (sym (rw q refl) ∙ e))

pub time_of-front : (ps : Opened) (n t s : ℕ) → (n == s) ≡ false → time_of (ps ++ (n, t) ∷ []) s ≡ time_of ps s
time_of-front [] n t s d = rw d refl
time_of-front (p ∷ ps) n t s d = by_test (tested (p.0 == s)) (time_of-front ps n t s d)
  where
    by_test : Tested (p.0 == s) → time_of (ps ++ (n, t) ∷ []) s ≡ time_of ps s → time_of (p ∷ ps ++ (n, t) ∷ []) s ≡ time_of (p ∷ ps) s
    by_test (inl q) f = rw q refl
    by_test (inr q) f = rw q f

no_time : (b : Bool) → ◌≡◌ {A = Option ℕ} None (cond b None None)
no_time true = refl
no_time false = refl

pub time_of-without : (ps : Opened) (n s : ℕ) → time_of (without n ps) s ≡ cond (n == s) None (time_of ps s)
time_of-without [] n s = no_time (n == s)
time_of-without (p ∷ ps) n s = by_first (tested (p.0 == n)) (tested (p.0 == s)) (time_of-without ps n s)
  where
    both : (p.0 == n) ≡ true → (p.0 == s) ≡ true → (n == s) ≡ true
    both a b = eq-eqb n s (sym (eqb-true p.0 n a) ∙ eqb-true p.0 s b)

    apart : (p.0 == n) ≡ false → (p.0 == s) ≡ true → (n == s) ≡ false
    apart a b = ne_eqb n s (λ e. true≢false (sym (eq-eqb p.0 n (eqb-true p.0 s b ∙ sym e)) ∙ a))

    by_first : Tested (p.0 == n) → Tested (p.0 == s) → time_of (without n ps) s ≡ cond (n == s) None (time_of ps s) → time_of (without n (p ∷ ps)) s ≡ cond (n == s) None (time_of (p ∷ ps) s)
    by_first (inl a) (inl b) i = let e : (n == s) ≡ true = both a b in rw (a, e) (i ∙ rw e refl)
    by_first (inl a) (inr b) i = rw (a, b) i
    by_first (inr a) (inl b) i = let e : (n == s) ≡ false = apart a b in rw (a, b, e) refl
    by_first (inr a) (inr b) i = rw (a, b) i

shown_if : (b o : Bool) (t : ℕ) → cond b None (shown o t) ≡ shown (cond b false o) t
shown_if true o t = refl
shown_if false o t = refl

same_if : (b : Bool) (t : ℕ) → cond b t t ≡ t
same_if true t = refl
same_if false t = refl

-- one session, by an act of somebody
each_step : (a : Act) (by : Option ℕ) (now s : ℕ) (o : Bool) (t : ℕ) (ps : Opened) → time_of ps s ≡ shown o t →
    time_of (opened_after now by a ps) s ≡ shown (open_after s by a o) (cond (is_session s by) (time_after a now t) t)
each_step Act.Begin (Some n) now s o t ps e = by_test (tested (n == s))
  where
    by_test : Tested (n == s) → time_of (without n ps ++ (n, now) ∷ []) s ≡ shown ((n == s) || o) (cond (n == s) now t)
    by_test (inl q) = time_of-append (without n ps) n now s (time_of-without ps n s ∙ rw q refl) ∙ rw q refl
    by_test (inr q) = time_of-front (without n ps) n now s q ∙ (time_of-without ps n s ∙ rw q e)
each_step Act.Begin None now s o t ps e = e
each_step Act.End (Some n) now s o t ps e = time_of-without ps n s ∙ (ap (λ x. cond (n == s) None x) e ∙ (shown_if (n == s) o t ∙ ap (shown (cond (n == s) false o)) (sym (same_if (n == s) t))))
each_step Act.End None now s o t ps e = e
each_step (Act.Kill n) by now s o t ps e = time_of-without ps n s ∙ (ap (λ x. cond (n == s) None x) e ∙ (shown_if (n == s) o t ∙ ap (shown (cond (n == s) false o)) (sym (same_if (is_session s by) t))))
each_step Act.Restart by now s o t ps e = refl
each_step _ by now s o t ps e = e ∙ ap (shown o) (sym (same_if (is_session s by) t))

-- times that are so, without a session and with one more
pub each_without : (P : ℕ → Type 0) (ps : Opened) (n : ℕ) → Each P ps → Each P (without n ps)
each_without P [] n a = tt
each_without P (p ∷ ps) n a = by_test (tested (p.0 == n)) (each_without P ps n a.1)
  where
    by_test : Tested (p.0 == n) → Each P (without n ps) → Each P (without n (p ∷ ps))
    by_test (inl q) i = rw q i
    by_test (inr q) i = rw q (a.0, i)

pub each_more : (P : ℕ → Type 0) (ps : Opened) (n t : ℕ) → Each P ps → P t → Each P (ps ++ (n, t) ∷ [])
each_more P [] n t a x = (x, tt)
each_more P (p ∷ ps) n t a x = (a.0, each_more P ps n t a.1 x)

pub each_weaker : (P Q : ℕ → Type 0) (ps : Opened) → ((t : ℕ) → P t → Q t) → Each P ps → Each Q ps
each_weaker P Q [] f a = tt
each_weaker P Q (p ∷ ps) f a = (f p.1 a.0, each_weaker P Q ps f a.1)

pub rising_without : (ps : Opened) (n : ℕ) → AreRising ps → AreRising (without n ps)
rising_without [] n a = tt
rising_without (p ∷ ps) n a = by_test (tested (p.0 == n)) (rising_without ps n a.1)
  where
    by_test : Tested (p.0 == n) → AreRising (without n ps) → AreRising (without n (p ∷ ps))
    by_test (inl q) i = rw q i
    by_test (inr q) i = rw q (each_without (λ t. p.1 < t) ps n a.0, i)

pub rising_more : (ps : Opened) (n t : ℕ) → AreRising ps → Each (λ u. u < t) ps → AreRising (ps ++ (n, t) ∷ [])
rising_more [] n t a b = (tt, tt)
rising_more (p ∷ ps) n t a b = (each_more (λ u. p.1 < u) ps n t a.0 b.0, rising_more ps n t a.1 b.1)

-- the times, by an act of somebody
pub record AreTimes (ps : List (ℕ × ℕ)) (last : ℕ) : Type 0 where
  pub rising : AreRising ps
  pub since : Each (λ t. 1 ≤ t) ps
  pub until : Each (λ t. t ≤ last) ps

later : (ps : Opened) (last now : ℕ) → AreTimes ps last → last < now → AreTimes ps now
later ps last now x e = record { rising = x.rising; since = x.since; until = each_weaker (λ t. t ≤ last) (λ t. t ≤ now) ps (λ t l. omega (arith, l, e)) x.until }

fewer : (ps : Opened) (n last : ℕ) → AreTimes ps last → AreTimes (without n ps) last
fewer ps n last x = record {
  rising = rising_without ps n x.rising;
  since = each_without (λ t. 1 ≤ t) ps n x.since;
  until = each_without (λ t. t ≤ last) ps n x.until;
}

times_step : (a : Act) (by : Option ℕ) (now last : ℕ) (ps : Opened) → AreTimes ps last → last < now → AreTimes (opened_after now by a ps) now
times_step Act.Begin (Some n) now last ps x e = record {
  rising = rising_more (without n ps) n now rest.rising (each_weaker (λ t. t ≤ last) (λ t. t < now) (without n ps) (λ t l. omega (arith, l, e)) rest.until);
  since = each_more (λ t. 1 ≤ t) (without n ps) n now rest.since (omega (arith, e));
  until = each_more (λ t. t ≤ now) (without n ps) n now (later (without n ps) last now rest e).until (omega arith);
}
  where
    rest : AreTimes (without n ps) last
    rest = fewer ps n last x
times_step Act.Begin None now last ps x e = later ps last now x e
times_step Act.End (Some n) now last ps x e = later (without n ps) last now (fewer ps n last x) e
times_step Act.End None now last ps x e = later ps last now x e
times_step (Act.Kill n) by now last ps x e = later (without n ps) last now (fewer ps n last x) e
times_step Act.Restart by now last ps x e = record { rising = tt; since = tt; until = tt }
times_step _ by now last ps x e = later ps last now x e

time_step : (s : ℕ) (e : Entry) (h : Journal) → time s (e ∷ h) ≡ cond (is_by s e) (time_after e.act e.tick (time s h)) (time s h)
time_step s e h = by_test (tested (is_by s e))
  where
    by_test : Tested (is_by s e) → time s (e ∷ h) ≡ cond (is_by s e) (time_after e.act e.tick (time s h)) (time s h)
    by_test (inl q) = rw q refl
    by_test (inr q) = rw q refl

-- the list stands for the journal with an entry of the registry
pub registry_step : (ps : Opened) (e : Entry) (h : Journal) → IsRegistry ps h → same_part Part.Registry e.part ≡ true → last_of h < e.tick →
    IsRegistry (opened_after e.tick e.session e.act ps) (e ∷ h)
registry_step ps e h r q t = record {
  each = λ s. each_step e.act e.session e.tick s (is_open s h) (time s h) ps (r.each s) ∙ ap (shown (open_after s e.session e.act (is_open s h))) (sym (time_step s e h));
  rising = times.rising;
  since = times.since;
  until = rw q times.until;
}
  where
    times : AreTimes (opened_after e.tick e.session e.act ps) e.tick
    times = times_step e.act e.session e.tick (last_of h) ps (record { rising = r.rising; since = r.since; until = r.until }) t

untouched : (a : Act) (by : Option ℕ) (now s : ℕ) (ps : Opened) → same_part Part.Registry (part_of a s) ≡ false → opened_after now by a ps ≡ ps
untouched Act.Begin by now s ps q = absurd (true≢false q)
untouched Act.End by now s ps q = absurd (true≢false q)
untouched (Act.Kill n) by now s ps q = absurd (true≢false q)
untouched Act.Restart by now s ps q = absurd (true≢false q)
untouched _ by now s ps q = refl

-- and with an entry of another part
pub registry_stays : (ps : Opened) (e : Entry) (h : Journal) (n : ℕ) → IsRegistry ps h → e.part ≡ part_of e.act n → same_part Part.Registry (part_of e.act n) ≡ false → IsRegistry ps (e ∷ h)
registry_stays ps e h n r p q = record {
  each = λ s. sym (ap (λ xs. time_of xs s) (untouched e.act e.session e.tick n ps q))
      ∙ (each_step e.act e.session e.tick s (is_open s h) (time s h) ps (r.each s) ∙ ap (shown (open_after s e.session e.act (is_open s h))) (sym (time_step s e h)));
  rising = r.rising;
  since = r.since;
  until = let d : same_part Part.Registry e.part ≡ false = ap (same_part Part.Registry) p ∙ q in rw d r.until;
}

pub registry_begins : IsRegistry [] []
registry_begins = record { each = λ s. refl; rising = tt; since = tt; until = tt }
