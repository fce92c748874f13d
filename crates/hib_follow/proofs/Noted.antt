-- What is known of each session, with one entry more.
use Rattle.std.specs.Prelude.{slice_get, slice_set}
use Rattle.std.proofs.Common.{◌≡◌, ℕ, zero, suc, ◌+◌, ◌<◌, ◌==◌, false, List, [], ◌∷◌, ◌++◌, length, get_or, Some, None, refl, sym, ap, ◌∙◌, subst, arith, inl, inr, eq-eqb}
use Rattle.std.proofs.lemmas.Bool.{eqb-true, true≢false}
use Rattle.std.proofs.lemmas.Option.{slice_get-get_or}
use Rattle.hib_base.proofs.Tables.{Tested, tested}
use Rattle.hib_journal.specs.Types.{Entry}
use Rattle.hib_journal.specs.Sessions.{Journal, own}
use Rattle.hib_follow.specs.Desks.{IsDesk, IsKnown, AreDesks}
use Rattle.hib_follow.specs.declared.desk.Desk.{Desk}

own_self : (s : ℕ) (e : Entry) (h : Journal) → e.session ≡ Some s → own s (e ∷ h) ≡ e ∷ own s h
own_self s e h p = rw p (rw (eq-eqb s s refl) refl)

own_other : (s n : ℕ) (e : Entry) (h : Journal) → e.session ≡ Some s → (s == n) ≡ false → own n (e ∷ h) ≡ own n h
own_other s n e h p d = rw p (rw d refl)

own_outside : (n : ℕ) (e : Entry) (h : Journal) → e.session ≡ None → own n (e ∷ h) ≡ own n h
own_outside n e h p = rw p refl

-- an entry of no session
pub noted_outside : (es : List Entry) (e : Entry) (h : Journal) (ds : List Desk) → e.session ≡ None → AreDesks es h ds → AreDesks es (e ∷ h) ds
noted_outside es e h ds p a = λ s. subst (λ m. IsKnown es m (slice_get ds s)) (sym (own_outside s e h p)) (a s)

-- a place that is set, and the others
set_here : (ds : List Desk) (n : ℕ) (d : Desk) → n < length ds → slice_get (slice_set ds n d) n ≡ Some d
set_here [] n d l = absurd (no n l)
  where
    no : (k : ℕ) → k < 0 → ⊥
    no k m = omega arith
set_here (x ∷ ds) zero d l = refl
set_here (x ∷ ds) (suc n) d l = set_here ds n d (omega arith)

set_apart : (ds : List Desk) (n s : ℕ) (d : Desk) → (n ≡ s → ⊥) → slice_get (slice_set ds n d) s ≡ slice_get ds s
set_apart [] n s d p = refl
set_apart (x ∷ ds) zero zero d p = absurd (p refl)
set_apart (x ∷ ds) zero (suc s) d p = refl
set_apart (x ∷ ds) (suc n) zero d p = refl
set_apart (x ∷ ds) (suc n) (suc s) d p = set_apart ds n s d (λ e. p (ap suc e))

-- an entry of a session, which was noted at its place
noted : (es : List Entry) (s : ℕ) (e : Entry) (h : Journal) (ds : List Desk) (y z : Desk) → e.session ≡ Some s → s < length ds → y ≡ get_or ds s y → AreDesks es h ds
    → ((mine : Journal) → IsDesk es mine y → IsDesk es (e ∷ mine) z) → AreDesks es (e ∷ h) (slice_set ds s z)
noted es s e h ds y z p l v a f = λ n. at n (tested (s == n))
  where
    place : slice_get ds s ≡ Some y
    place = slice_get-get_or ds s y l ∙ ap Some (sym v)

    was : IsDesk es (own s h) y
    was = subst (IsKnown es (own s h)) place (a s)

    here : IsKnown es (own s (e ∷ h)) (slice_get (slice_set ds s z) s)
    here = rw (own_self s e h p, set_here ds s z l) (f (own s h) was)

    at : (n : ℕ) → Tested (s == n) → IsKnown es (own n (e ∷ h)) (slice_get (slice_set ds s z) n)
    at n (inl q) = subst (λ m. IsKnown es (own m (e ∷ h)) (slice_get (slice_set ds s z) m)) (eqb-true s n q) here
    at n (inr q) = rw (own_other s n e h p q, set_apart ds s n z (λ e. true≢false (sym (eq-eqb s n e) ∙ q))) (a n)

pub noted_at : (es : List Entry) (i s : ℕ) (e : Entry) (h : Journal) (ds : List Desk) (y z : Desk) → i ≡ s → y ≡ get_or ds i y → e.session ≡ Some s → s < length ds → AreDesks es h ds
    → ((mine : Journal) → IsDesk es mine y → IsDesk es (e ∷ mine) z) → AreDesks es (e ∷ h) (slice_set ds i z)
noted_at es i s e h ds y z g v p l a f =
    subst (λ j. AreDesks es (e ∷ h) (slice_set ds j z)) (sym g) (noted es s e h ds y z p l (subst (λ n. y ≡ get_or ds n y) g v) a f)

-- one place more, of a session that has done nothing
pub reached : (es : List Entry) (h : Journal) (ds : List Desk) (d : Desk) → IsDesk es [] d → AreDesks es h ds → AreDesks es h (ds ++ d ∷ [])
reached es h ds d b a = λ s. at ds s (own s h) (a s)
  where
    at : (ds : List Desk) (s : ℕ) (m : Journal) → IsKnown es m (slice_get ds s) → IsKnown es m (slice_get (ds ++ d ∷ []) s)
    at [] zero m e = subst (λ l. IsDesk es l d) (sym e) b
    at [] (suc s) m e = e
    at (x ∷ ds) zero m e = e
    at (x ∷ ds) (suc s) m e = at ds s m e
