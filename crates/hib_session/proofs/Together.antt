-- The sessions of a script, at the start, and after one more entry of a journal.
use Rattle.std.proofs.Common.{◌≡◌, ◌⊎◌, ℕ, zero, suc, ◌+◌, ◌<◌, ◌≤◌, ◌==◌, false, ◌||◌, List, [], ◌∷◌, ◌++◌, length, Some, None, refl, sym, ap, ◌∙◌, subst, arith, inl, inr, eq-eqb}
use Rattle.std.proofs.lemmas.Bool.{true≢false, eqb-true, or_parts}
use Rattle.std.proofs.lemmas.List.{get_or-set_same, get_or-set_other, length-set, length-append}
use Rattle.std.proofs.lemmas.Option.{slice_get_within, get_or_from_slice_get, slice_get-get_or}
use Rattle.std.specs.Prelude.{slice_get, slice_set}
use Rattle.hib_base.proofs.Tables.{Tested, tested}
use Rattle.hib_journal.specs.Types.{Script, Act, Reply, Entry}
use Rattle.hib_journal.specs.Sessions.{Journal, own, is_open, was_killed, killed_by}
use Rattle.hib_journal.specs.Legal.{is_outside}
use Rattle.hib_journal.specs.Lists.{entry_at}
use Rattle.hib_journal.proofs.Open.{killed_same}
use Rattle.hib_session.specs.declared.session.Session.{Session}
use Rattle.hib_session.specs.Session.{Follows, number_of, is_killed}
use Rattle.hib_session.specs.Sessions.{AreSessions}
use Rattle.hib_session.specs.Killed.{IsAsBefore, AreKilled}

-- ---- at the start

-- n sessions that have done nothing, by their numbers
pub record AreOpened (n : ℕ) (script : Script) (sessions : List Session) : Type 0 where
  pub all : length sessions ≡ n
  pub numbers : (s : ℕ) (y : Session) → slice_get sessions s ≡ Some y → number_of y ≡ s
  pub killed : (s : ℕ) (y : Session) → slice_get sessions s ≡ Some y → is_killed y ≡ false
  pub follow : (s : ℕ) (y : Session) → slice_get sessions s ≡ Some y → Follows script y []

-- the sessions: one more

some_same : (x z : Session) → Some x ≡ Some z → x ≡ z
some_same x z e = cc

pub at_end : (xs : List Session) (y : Session) (s : ℕ) (z : Session) → slice_get (xs ++ y ∷ []) s ≡ Some z → (slice_get xs s ≡ Some z) ⊎ ((s ≡ length xs) × (z ≡ y))
at_end [] y zero z p = inr (refl, sym (some_same y z p))
at_end [] y (suc s) z p = absurd (none_some z p)
  where
    none_some : (v : Session) → None ≡ Some v → ⊥
    none_some v e = cc
at_end (x ∷ xs) y zero z p = inl p
at_end (x ∷ xs) y (suc s) z p = more (at_end xs y s z p)
  where
    more : (slice_get xs s ≡ Some z) ⊎ ((s ≡ length xs) × (z ≡ y)) → (slice_get xs s ≡ Some z) ⊎ ((suc s ≡ suc (length xs)) × (z ≡ y))
    more (inl q) = inl q
    more (inr q) = inr (ap suc q.0, q.1)

pub opened_more : (n : ℕ) (script : Script) (xs : List Session) (y : Session) → AreOpened n script xs → number_of y ≡ n → is_killed y ≡ false → Follows script y [] →
    AreOpened (n + 1) script (xs ++ y ∷ [])
opened_more n script xs y w e d f = record {
  all = length-append xs (y ∷ []) ∙ ap (λ m. m + 1) w.all;
  numbers = λ s z p. number s z (by_place s z p);
  killed = λ s z p. killed s z (by_place s z p);
  follow = λ s z p. follow s z (by_place s z p);
}
  where
    by_place : (s : ℕ) (z : Session) → slice_get (xs ++ y ∷ []) s ≡ Some z → (slice_get xs s ≡ Some z) ⊎ ((s ≡ n) × (z ≡ y))
    by_place s z p = cases (at_end xs y s z p)
      where
        cases : (slice_get xs s ≡ Some z) ⊎ ((s ≡ length xs) × (z ≡ y)) → (slice_get xs s ≡ Some z) ⊎ ((s ≡ n) × (z ≡ y))
        cases (inl q) = inl q
        cases (inr q) = inr (q.0 ∙ w.all, q.1)

    number : (s : ℕ) (z : Session) → (slice_get xs s ≡ Some z) ⊎ ((s ≡ n) × (z ≡ y)) → number_of z ≡ s
    number s z (inl q) = w.numbers s z q
    number s z (inr q) = ap number_of q.1 ∙ (e ∙ sym q.0)

    killed : (s : ℕ) (z : Session) → (slice_get xs s ≡ Some z) ⊎ ((s ≡ n) × (z ≡ y)) → is_killed z ≡ false
    killed s z (inl q) = w.killed s z q
    killed s z (inr q) = ap is_killed q.1 ∙ d

    follow : (s : ℕ) (z : Session) → (slice_get xs s ≡ Some z) ⊎ ((s ≡ n) × (z ≡ y)) → Follows script z []
    follow s z (inl q) = w.follow s z q
    follow s z (inr q) = subst (λ v. Follows script v []) (sym q.1) f

pub all_opened : (n m : ℕ) (script : Script) (xs : List Session) → n ≤ m → m ≤ n → m ≡ length script.sessions → AreOpened n script xs → AreSessions script [] xs
all_opened n m script xs k l e w = record { all = omega (arith, w.all, k, l, e); numbers = w.numbers; killed = w.killed; follow = λ s y p live. w.follow s y p }

-- ---- with an entry of one of them

-- the session at a place, which is now z, and the others

pub placed_here : (s n : ℕ) (xs : List Session) (y z : Session) → s < length xs → slice_get (slice_set xs s z) n ≡ Some y → s ≡ n → y ≡ z
placed_here s n xs y z l p e = let q : slice_get (slice_set xs s z) s ≡ Some y = subst (λ m. slice_get (slice_set xs s z) m ≡ Some y) (sym e) p in
    sym (get_or_from_slice_get (slice_set xs s z) s y z q) ∙ get_or-set_same xs s z z l

pub placed_there : (s n : ℕ) (xs : List Session) (y z : Session) → slice_get (slice_set xs s z) n ≡ Some y → (s == n) ≡ false → slice_get xs n ≡ Some y
placed_there s n xs y z p d = slice_get-get_or xs n y (omega (arith, length-set xs s z, slice_get_within (slice_set xs s z) n y p))
    ∙ ap Some (sym (get_or-set_other xs s n z y (λ e. true≢false (sym (ap (λ m. s == m) e ∙ eq-eqb s s refl) ∙ d))) ∙ get_or_from_slice_get (slice_set xs s z) n y y p)

-- the sessions with an entry of the one at s, which is now z

own_self : (s : ℕ) (e : Entry) (h : Journal) → e.session ≡ Some s → own s (e ∷ h) ≡ e ∷ own s h
own_self s e h p = rw p (rw (eq-eqb s s refl) refl)

own_other : (s n : ℕ) (e : Entry) (h : Journal) → e.session ≡ Some s → (s == n) ≡ false → own n (e ∷ h) ≡ own n h
own_other s n e h p d = rw p (rw d refl)

pub sessions_step : (script : Script) (h : Journal) (s : ℕ) (e : Entry) (xs : List Session) (z : Session) → e.session ≡ Some s → AreSessions script h xs →
    s < length xs → number_of z ≡ s → is_killed z ≡ was_killed s h → is_outside e.act ≡ false → Follows script z (e ∷ own s h) → AreSessions script (e ∷ h) (slice_set xs s z)
sessions_step script h s e xs z b w l k d i f = record {
  all = length-set xs s z ∙ w.all;
  numbers = λ n y p. number n y p (tested (s == n));
  killed = λ n y p. killed n y p (tested (s == n)) ∙ sym (killed_same n e h i);
  follow = λ n y p live. follow n y p (sym (killed_same n e h i) ∙ live) (tested (s == n));
}
  where
    number : (n : ℕ) (y : Session) → slice_get (slice_set xs s z) n ≡ Some y → Tested (s == n) → number_of y ≡ n
    number n y p (inl q) = let g : s ≡ n = eqb-true s n q in ap number_of (placed_here s n xs y z l p g) ∙ (k ∙ g)
    number n y p (inr q) = w.numbers n y (placed_there s n xs y z p q)

    killed : (n : ℕ) (y : Session) → slice_get (slice_set xs s z) n ≡ Some y → Tested (s == n) → is_killed y ≡ was_killed n h
    killed n y p (inl q) = let g : s ≡ n = eqb-true s n q in ap is_killed (placed_here s n xs y z l p g) ∙ (d ∙ ap (λ m. was_killed m h) g)
    killed n y p (inr q) = w.killed n y (placed_there s n xs y z p q)

    follow : (n : ℕ) (y : Session) → slice_get (slice_set xs s z) n ≡ Some y → was_killed n h ≡ false → Tested (s == n) → Follows script y (own n (e ∷ h))
    follow n y p live (inl q) = let g : s ≡ n = eqb-true s n q in
        subst (λ m. Follows script y (own m (e ∷ h))) g
        (subst (λ v. Follows script v (own s (e ∷ h))) (sym (placed_here s n xs y z l p g)) (subst (λ m. Follows script z m) (sym (own_self s e h b)) f))
    follow n y p live (inr q) = subst (λ m. Follows script y m) (sym (own_other s n e h b q)) (w.follow n y (placed_there s n xs y z p q) live)

-- ---- with an entry from outside

pub sessions_outside : (script : Script) (h : Journal) (now : ℕ) (a : Act) (r : Reply) (xs ys : List Session) → AreSessions script h xs → AreKilled (λ s. killed_by s a (is_open s h)) xs ys →
    AreSessions script (entry_at now None a r ∷ h) ys
sessions_outside script h now a r xs ys w k = record {
  all = k.all ∙ w.all;
  numbers = λ s y p. number s y (k.each s y p);
  killed = λ s y p. killed s y (k.each s y p);
  follow = λ s y p live. follow s y (k.each s y p) (or_parts (killed_by s a (is_open s h)) (was_killed s h) live);
}
  where
    number : (s : ℕ) (y : Session) → IsAsBefore (killed_by s a (is_open s h)) xs s y → number_of y ≡ s
    number s y b = b.number ∙ w.numbers s b.before b.there

    killed : (s : ℕ) (y : Session) → IsAsBefore (killed_by s a (is_open s h)) xs s y → is_killed y ≡ (killed_by s a (is_open s h) || was_killed s h)
    killed s y b = b.killed ∙ ap (λ o. killed_by s a (is_open s h) || o) (w.killed s b.before b.there)

    follow : (s : ℕ) (y : Session) → IsAsBefore (killed_by s a (is_open s h)) xs s y → (killed_by s a (is_open s h) ≡ false) × (was_killed s h ≡ false) → Follows script y (own s h)
    follow s y b q = subst (λ v. Follows script v (own s h)) (sym (b.same q.0)) (w.follow s b.before b.there q.1)
