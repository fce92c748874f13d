-- What a journal was at some entry since the last Restart.
use Rattle.std.proofs.Common.{◌≡◌, ℕ, ◌<◌, ◌≤◌, ◌⊎◌, inl, inr, true, false, [], ◌∷◌, length, Some, refl, ap, sym, subst, arith}
use Rattle.hib_journal.specs.Types.{Script, Entry}
use Rattle.hib_base.specs.Tables.{Tables}
use Rattle.hib_journal.specs.Sessions.{Journal, IsTimely, is_by, same_session, own, is_open, is_restart, last_tick}
use Rattle.hib_journal.specs.Legal.{IsLegal}
use Rattle.hib_journal.specs.Sound.{up_to}
use Rattle.hib_law.specs.Prefixes.{AtEachEntry}
use Rattle.hib_base.proofs.Tables.{Tested, tested}
use Rattle.hib_journal.proofs.Sessions.{IsOrdered, by, is_some_session}
use Rattle.hib_law.proofs.Coherent.{open_before, closed}

-- an entry of s comes after the earlier ones of s
pub later_in_session : (s : ℕ) (e : Entry) (h : Journal) → IsTimely e h → is_by s e ≡ true → last_tick (by s) h < e.tick
later_in_session s e h t p = subst (λ o. last_tick (λ d. same_session o d.session) h < e.tick) (is_some_session s e.session p) t.in_session

cons_head : (a b : Entry) (x y : Journal) → a ∷ x ≡ b ∷ y → a ≡ b
cons_head a b x y e = cc

cons_tail : (a b : Entry) (x y : Journal) → a ∷ x ≡ b ∷ y → x ≡ y
cons_tail a b x y e = cc

pub nil_cons : {a : Entry} {x : Journal} {P : Type 0} → ◌≡◌ {A = Journal} [] (a ∷ x) → P
nil_cons e = absurd (no e)
  where
    no : {a : Entry} {x : Journal} → ◌≡◌ {A = Journal} [] (a ∷ x) → ⊥
    no e = cc

-- g is what a journal was at some entry since the last Restart

abbrev pub IsPast : Journal → Journal → Type 0
IsPast g [] = g ≡ []
IsPast g (e ∷ h) = (g ≡ e ∷ h) ⊎ ((is_restart e.act ≡ false) × IsPast g h)

pub past_refl : (h : Journal) → IsPast h h
past_refl [] = refl
past_refl (e ∷ h) = inl refl

pub past_step : (e : Entry) (g h : Journal) → is_restart e.act ≡ false → IsPast (e ∷ g) h → IsPast g h
past_step e g [] n p = nil_cons (sym p)
past_step e g (d ∷ h) n (inl q) = subst (λ z. IsPast g z) q (inr (n, past_refl g))
past_step e g (d ∷ h) n (inr q) = inr (q.0, past_step e g h n q.1)

pub past_trans : (f g h : Journal) → IsPast f g → IsPast g h → IsPast f h
past_trans f g [] p q = subst (λ z. IsPast f z) q p
past_trans f g (e ∷ h) p (inl q) = subst (λ z. IsPast f z) q p
past_trans f g (e ∷ h) p (inr q) = inr (q.0, past_trans f g h p q.1)

pub legal_past : (script : Script) (start : Tables) (g h : Journal) → IsPast g h → IsLegal script (Some start) h → IsLegal script (Some start) g
legal_past script start g [] p l = subst (λ z. IsLegal script (Some start) z) (sym p) l
legal_past script start g (e ∷ h) (inl q) l = subst (λ z. IsLegal script (Some start) z) (sym q) l
legal_past script start g (e ∷ h) (inr q) l = legal_past script start g h q.1 l.0

pub past_tick : (v : Entry) (g h : Journal) → IsOrdered h → IsPast (v ∷ g) h → v.tick ≤ last_tick (λ d. true) h
past_tick v g [] o p = nil_cons (sym p)
past_tick v g (e ∷ h) o (inl q) = let x : v.tick ≡ e.tick = ap (λ z. z.tick) (cons_head v e g h q) in omega arith
past_tick v g (e ∷ h) o (inr q) =
    let i : v.tick ≤ last_tick (λ d. true) h = past_tick v g h o.1 q.1 in
    let l : last_tick (λ d. true) h ≤ e.tick = o.0.ordered in omega arith

-- no entry of a journal comes after a journal that is as long
not_after : (P : Journal → Entry → Type 0) (n : ℕ) (h : Journal) → length h ≤ n → AtEachEntry (λ g c. n ≤ length g → P g c) h
not_after P n [] l = tt
not_after P n (e ∷ h) l = ((λ m. absurd (omega arith)), not_after P n h (omega arith))

-- what holds of the entries since mo
pub at_each_since : (P : Journal → Entry → Type 0) (whole mo h : Journal) → IsPast h whole → IsPast mo h →
    ((c : Entry) (g : Journal) → IsPast mo g → IsPast (c ∷ g) whole → P g c) → AtEachEntry (λ g c. length mo ≤ length g → P g c) h
at_each_since P whole mo [] w p f = tt
at_each_since P whole mo (e ∷ h) w (inl q) f =
    subst (λ n. AtEachEntry (λ g c. n ≤ length g → P g c) (e ∷ h)) (sym (ap (λ z. length z) q)) (not_after P (length (e ∷ h)) (e ∷ h) (omega arith))
at_each_since P whole mo (e ∷ h) w (inr q) f =
    ((λ m. f e h q.1 w), at_each_since P whole mo h (past_step e h whole q.0 w) q.1 f)

-- the newest entry of an open session
pub up_own : (s : ℕ) (w : Entry) (m h : Journal) → is_open s h ≡ true → own s h ≡ w ∷ m →
    (g : Journal) × (up_to (is_by s) h ≡ w ∷ g) × (own s g ≡ m) × IsPast (w ∷ g) h × (is_by s w ≡ true)
up_own s w m [] o e = nil_cons e
up_own s w m (d ∷ h) o e = by_session (tested (is_by s d)) (up_own s w m h)
  where
    T : Journal → Type 0
    T h = (g : Journal) × (up_to (is_by s) h ≡ w ∷ g) × (own s g ≡ m) × IsPast (w ∷ g) h × (is_by s w ≡ true)

    by_restart : is_by s d ≡ false → Tested (is_restart d.act) → is_open s h ≡ true →
        ((g : Journal) × (up_to (is_by s) h ≡ w ∷ g) × (own s g ≡ m) × IsPast (w ∷ g) h × (is_by s w ≡ true)) →
        (g : Journal) × (up_to (is_by s) (d ∷ h) ≡ w ∷ g) × (own s g ≡ m) × IsPast (w ∷ g) (d ∷ h) × (is_by s w ≡ true)
    by_restart p (inl r) x i = absurd (closed s d.session d.act (is_open s h) r o)
    by_restart p (inr r) x i = (i.0, rw p (i.1), i.2, inr (r, i.3), i.4)

    by_session : Tested (is_by s d) → (is_open s h ≡ true → own s h ≡ w ∷ m →
        (g : Journal) × (up_to (is_by s) h ≡ w ∷ g) × (own s g ≡ m) × IsPast (w ∷ g) h × (is_by s w ≡ true)) →
        (g : Journal) × (up_to (is_by s) (d ∷ h) ≡ w ∷ g) × (own s g ≡ m) × IsPast (w ∷ g) (d ∷ h) × (is_by s w ≡ true)
    by_session (inl p) i =
        let g : d ∷ own s h ≡ w ∷ m = rw p at e in
        let x : d ≡ w = cons_head d w (own s h) m g in
        (h, rw p (ap (λ z. z ∷ h) x), cons_tail d w (own s h) m g, inl (ap (λ z. z ∷ h) (sym x)), subst (λ z. is_by s z ≡ true) x p)
    by_session (inr p) i =
        let g : own s h ≡ w ∷ m = rw p at e in
        let x : is_open s h ≡ true = open_before s d.session d.act (is_open s h) (rw p refl) o in
        by_restart p (tested (is_restart d.act)) x (i x g)
