-- What the sessions of an audit have written.
use Rattle.std.proofs.Common.{◌≡◌, ◌⊎◌, ℕ, zero, suc, ◌+◌, ◌<◌, ◌≤◌, ◌==◌, false, List, [], ◌∷◌, ◌++◌, length, get_or, Some, None, Option, refl, sym, ap, ◌∙◌, subst, arith, inl, inr}
use Rattle.std.proofs.lemmas.Bool.{true≢false, eqb-true}
use Rattle.std.proofs.lemmas.List.{get_or-set_same, get_or-set_other, length-set, length-append}
use Rattle.std.proofs.lemmas.Option.{slice_get_within, get_or_from_slice_get, slice_get-get_or}
use Rattle.std.specs.Prelude.{slice_get, slice_set}
use Rattle.hib_base.proofs.Tables.{Tested, tested}
use Rattle.hib_journal.specs.Types.{Change, Script, Entry}
use Rattle.hib_journal.specs.Sessions.{Journal, own, changes, changes_in, changes_after}
use Rattle.hib_audit.specs.Standing.{WrittenState, HasWritten, AreWritten}
use Rattle.hib_engines.proofs.Bridge.{self_by}

changes_self : (s : ℕ) (e : Entry) (h : Journal) → e.session ≡ Some s → changes s (e ∷ h) ≡ changes_after e.act (changes s h)
changes_self s e h p = ap changes_in mine
  where
    mine : own s (e ∷ h) ≡ e ∷ own s h
    mine = rw p (rw (self_by s) refl)

changes_other : (s n : ℕ) (e : Entry) (h : Journal) → e.session ≡ Some s → (s == n) ≡ false → changes n (e ∷ h) ≡ changes n h
changes_other s n e h p d = ap changes_in mine
  where
    mine : own n (e ∷ h) ≡ own n h
    mine = rw p (rw d refl)

placed_here : (s n : ℕ) (xs : List WrittenState) (y z : WrittenState) → s < length xs → slice_get (slice_set xs s z) n ≡ Some y → s ≡ n → y ≡ z
placed_here s n xs y z l p e = let q : slice_get (slice_set xs s z) s ≡ Some y = subst (λ m. slice_get (slice_set xs s z) m ≡ Some y) (sym e) p in
    sym (get_or_from_slice_get (slice_set xs s z) s y z q) ∙ get_or-set_same xs s z z l

placed_there : (s n : ℕ) (xs : List WrittenState) (y z : WrittenState) → slice_get (slice_set xs s z) n ≡ Some y → (s == n) ≡ false → slice_get xs n ≡ Some y
placed_there s n xs y z p d = slice_get-get_or xs n y (omega (arith, length-set xs s z, slice_get_within (slice_set xs s z) n y p))
    ∙ ap Some (sym (get_or-set_other xs s n z y (λ e. true≢false (sym (ap (λ m. s == m) e ∙ self_by s) ∙ d))) ∙ get_or_from_slice_get (slice_set xs s z) n y y p)

-- with an entry of session s, of which this was read at its place
pub written_taken : (script : Script) (h : Journal) (i s : ℕ) (e : Entry) (xs : List WrittenState) (y z : WrittenState) → i ≡ s → y ≡ get_or xs i y → e.session ≡ Some s → AreWritten script h xs → s < length xs →
    ((cs : List Change) → HasWritten cs y → HasWritten (changes_after e.act cs) z) → AreWritten script (e ∷ h) (slice_set xs i z)
written_taken script h i s e xs y z g v b w l f = subst (λ j. AreWritten script (e ∷ h) (slice_set xs j z)) (sym g) (record {
  all = length-set xs s z ∙ w.all;
  each = λ n x p. each n x p (tested (s == n));
})
  where
    place : slice_get xs s ≡ Some y
    place = slice_get-get_or xs s y l ∙ ap Some (sym (subst (λ n. y ≡ get_or xs n y) g v))

    each : (n : ℕ) (x : WrittenState) → slice_get (slice_set xs s z) n ≡ Some x → Tested (s == n) → HasWritten (changes n (e ∷ h)) x
    each n x p (inl q) = let d : s ≡ n = eqb-true s n q in
        subst (λ m. HasWritten (changes m (e ∷ h)) x) d
        (subst (λ u. HasWritten (changes s (e ∷ h)) u) (sym (placed_here s n xs x z l p d)) (subst (λ cs. HasWritten cs z) (sym (changes_self s e h b)) (f (changes s h) (w.each s y place))))
    each n x p (inr q) = subst (λ cs. HasWritten cs x) (sym (changes_other s n e h b q)) (w.each n x (placed_there s n xs x z p q))

-- an entry from outside
pub written_outside : (script : Script) (h : Journal) (e : Entry) (xs : List WrittenState) → e.session ≡ None → AreWritten script h xs → AreWritten script (e ∷ h) xs
written_outside script h e xs b w = record { all = w.all; each = λ n x p. subst (λ cs. HasWritten cs x) (sym (ap changes_in (mine n))) (w.each n x p) }
  where
    mine : (n : ℕ) → own n (e ∷ h) ≡ own n h
    mine n = rw b refl

-- one more at the start
pub record AreNew (n : ℕ) (xs : List WrittenState) : Type 0 where
  pub all : length xs ≡ n
  pub each : (s : ℕ) (x : WrittenState) → slice_get xs s ≡ Some x → HasWritten [] x

some_same : (x z : WrittenState) → Some x ≡ Some z → x ≡ z
some_same x z e = cc

none_some : (x : WrittenState) → ◌≡◌ {A = Option WrittenState} None (Some x) → ⊥
none_some x e = cc

at_end : (xs : List WrittenState) (y : WrittenState) (s : ℕ) (z : WrittenState) → slice_get (xs ++ y ∷ []) s ≡ Some z → (slice_get xs s ≡ Some z) ⊎ (z ≡ y)
at_end [] y zero z p = inr (sym (some_same y z p))
at_end [] y (suc s) z p = absurd (none_some z p)
at_end (x ∷ xs) y zero z p = inl p
at_end (x ∷ xs) y (suc s) z p = at_end xs y s z p

pub new_more : (n : ℕ) (xs : List WrittenState) (y : WrittenState) → AreNew n xs → HasWritten [] y → AreNew (n + 1) (xs ++ y ∷ [])
new_more n xs y w v = record { all = length-append xs (y ∷ []) ∙ ap (λ m. m + 1) w.all; each = λ s z p. each s z (at_end xs y s z p) }
  where
    each : (s : ℕ) (z : WrittenState) → (slice_get xs s ≡ Some z) ⊎ (z ≡ y) → HasWritten [] z
    each s z (inl q) = w.each s z q
    each s z (inr q) = subst (λ u. HasWritten [] u) (sym q) v

pub all_new : (n m : ℕ) (script : Script) (xs : List WrittenState) → n ≤ m → m ≤ n → m ≡ length script.sessions → AreNew n xs → AreWritten script [] xs
all_new n m script xs k l e w = record { all = omega (arith, w.all, k, l, e); each = λ s x p. w.each s x p }
