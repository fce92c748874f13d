-- The stamp of a table is no earlier than any entry since the restart that stamped it.
use Rattle.std.specs.Prelude.{IsSomeAnd}
use Rattle.std.proofs.Common.{◌≡◌, ℕ, ◌+◌, ◌≤◌, ◌⊎◌, inl, inr, Bool, true, false, cond, [], ◌∷◌, Some, None, Option, refl, arith}
use Rattle.std.proofs.lemmas.Bool.{false≢true, true≢false}
use Rattle.hib_base.specs.Tables.{Tables}
use Rattle.hib_base.proofs.Tables.{Tested, tested}
use Rattle.hib_journal.specs.Types.{Script, Act, Entry}
use Rattle.hib_journal.specs.Sessions.{Journal, is_restart, last_tick}
use Rattle.hib_journal.specs.Legal.{IsLegal}
use Rattle.hib_journal.specs.Stamps.{stamp, stamp_after, names}
use Rattle.hib_law.specs.Standing.{stamps, stamped_at, AreStampsLate}
use Rattle.hib_law.proofs.Guarded.{In, listed_in}

abbrev pub IsAtLeast : ℕ → Option ℕ → Type 0
IsAtLeast n v = IsSomeAnd v (λ m. n ≤ m)

-- the stamp of a table is no earlier than any entry since the restart that stamped it: here, than the last one
pub stamp_last : (timeout t : ℕ) (e : Entry) (h : Journal) → stamps t e.act ≡ true → IsAtLeast e.tick (stamp timeout t (e ∷ h))
stamp_last timeout t e h p = by_act e.act p
  where
    by_act : (a : Act) → stamps t a ≡ true → IsAtLeast e.tick (stamp_after timeout t a e.tick (stamp timeout t h))
    by_act (Act.Pre ts) p = rw p (omega arith)
    by_act (Act.Stamp ts) p = rw p (omega arith)
    by_act _ p = absurd (false≢true p)

-- and one more entry keeps that, unless it is a Restart
pub stamp_kept : (timeout t n : ℕ) (e : Entry) (h : Journal) → n ≤ e.tick → IsAtLeast n (stamp timeout t h) → (e.act ≡ Act.Restart → ⊥) →
    IsAtLeast n (stamp timeout t (e ∷ h))
stamp_kept timeout t n e h l a r = by_act e.act r
  where
    later : (b : Bool) (v : ℕ) → n ≤ v → IsAtLeast n (cond b (Some v) (stamp timeout t h))
    later true v x = x
    later false v x = a

    by_act : (c : Act) → (c ≡ Act.Restart → ⊥) → IsAtLeast n (stamp_after timeout t c e.tick (stamp timeout t h))
    by_act (Act.Pre ts) r = later (names t ts) (e.tick + timeout) (omega arith)
    by_act (Act.Stamp ts) r = later (names t ts) e.tick l
    by_act Act.Restart r = absurd (r refl)
    by_act _ r = a

-- ---- of a whole journal

-- none of the ticks is later than the newest entry
stamped_low : (script : Script) (start : Tables) (t n : ℕ) (h : Journal) → IsLegal script (Some start) h → In n (stamped_at t h) → n ≤ last_tick (λ _. true) h
stamped_low script start t n [] l i = absurd i
stamped_low script start t n (e ∷ h) l i = by_restart (tested (is_restart e.act)) (tested (stamps t e.act)) i (stamped_low script start t n h l.0)
  where
    later : n ≤ last_tick (λ _. true) h → n ≤ e.tick
    later x = let y : last_tick (λ _. true) h ≤ e.tick = l.1.tick.ordered in omega (arith, x, y)

    by_restart : Tested (is_restart e.act) → Tested (stamps t e.act) → In n (stamped_at t (e ∷ h)) → (In n (stamped_at t h) → n ≤ last_tick (λ _. true) h) → n ≤ e.tick
    by_restart (inl r) s i f = let g : ⊥ = rw r at i in absurd g
    by_restart (inr r) (inl s) i f =
        let g : (e.tick ≡ n) ⊎ In n (stamped_at t h) = rw (r, s) at i in
        elim g [ inl p ↦ omega (arith, p) | inr j ↦ later (f j) ]
    by_restart (inr r) (inr s) i f = let g : In n (stamped_at t h) = rw (r, s) at i in later (f g)

at_least : (n m : ℕ) (v : Option ℕ) → n ≤ m → IsAtLeast m v → IsAtLeast n v
at_least n m None l a = a
at_least n m (Some v) l a = omega (arith, l, a)

stamped_late : (script : Script) (start : Tables) (t n : ℕ) (h : Journal) → IsLegal script (Some start) h → In n (stamped_at t h) → IsAtLeast n (stamp script.timeout t h)
stamped_late script start t n [] l i = absurd i
stamped_late script start t n (e ∷ h) l i = by_restart (tested (is_restart e.act)) (tested (stamps t e.act)) i (stamped_late script start t n h l.0)
  where
    low : n ≤ e.tick
    low = stamped_low script start t n (e ∷ h) l i

    goes_on : is_restart e.act ≡ false → e.act ≡ Act.Restart → ⊥
    goes_on r q = let g : true ≡ false = rw q at r in true≢false g

    by_restart : Tested (is_restart e.act) → Tested (stamps t e.act) → In n (stamped_at t (e ∷ h)) → (In n (stamped_at t h) → IsAtLeast n (stamp script.timeout t h)) →
        IsAtLeast n (stamp script.timeout t (e ∷ h))
    by_restart (inl r) s i f = let g : ⊥ = rw r at i in absurd g
    by_restart (inr r) (inl s) i f = at_least n e.tick (stamp script.timeout t (e ∷ h)) low (stamp_last script.timeout t e h s)
    by_restart (inr r) (inr s) i f =
        let g : In n (stamped_at t h) = rw (r, s) at i in
        stamp_kept script.timeout t n e h low (f g) (goes_on r)

pub stamps_late : (script : Script) (start : Tables) (h : Journal) → IsLegal script (Some start) h → AreStampsLate script h
stamps_late script start h l t n p = stamped_late script start t n h l (listed_in n (stamped_at t h) p)
