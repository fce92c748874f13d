-- What is known of each session, with one entry more.
use Rattle.std.specs.Prelude.{◌||◌, slice_get, slice_set, Ok, Err, OnOk, Result, map}
use Rattle.std.specs.Option.{option_map_or}
use Rattle.std.specs.List.{list_any, range_with_len}
use Rattle.std.proofs.Common.{◌≡◌, ℕ, zero, suc, ◌+◌, ◌<◌, ◌==◌, Bool, false, not, List, [], ◌∷◌, ◌++◌, length, get_or, take, reverse, Some, None, refl, sym, ap, ◌∙◌, subst, add-zero, arith, inl, inr, eq-eqb}
use Rattle.std.proofs.lemmas.Bool.{eqb-true, true≢false}
use Rattle.std.proofs.lemmas.List.{take_more, append_assoc, append-nil}
use Rattle.std.proofs.lemmas.Grind.{reverse_onto}
use Rattle.std.proofs.lemmas.Option.{slice_get-get_or}
use Rattle.hib_base.proofs.Tables.{Tested, tested}
use Rattle.hib_base.specs.Tables.{Tables, key_of, row_at}
use Rattle.hib_journal.specs.Types.{Change, Outcome, Entry}
use Rattle.hib_journal.specs.Legal.{outcome}
use Rattle.hib_journal.specs.Sessions.{Journal, own, changes_in}
use Rattle.hib_order_law.specs.Judged.{is_lost_by, rests_on, same_row}
use Rattle.hib_order_law.specs.Orders.{onto}
use Rattle.hib_order_judge.specs.Footings.{rest_at}
use Rattle.hib_order_judge.specs.Dossiers.{IsDossier, IsKnown, AreDossiers, is_lost_row, has_lost_row}
use Rattle.hib_order_judge.specs.declared.dossier.Dossier.{Dossier}
use Rattle.hib_report.specs.declared.fates.Fate.{Fate}
use Rattle.hib_order_judge.proofs.Footed.{rests_are}

pub on_ok : {T E : Type 0} (r : Result T E) {R Q : Type 0} → (R → Q) → OnOk r R → OnOk r Q
on_ok (Ok x) f p = f p
on_ok (Err e) f p = tt

own_self : (s : ℕ) (e : Entry) (h : Journal) → e.session ≡ Some s → own s (e ∷ h) ≡ e ∷ own s h
own_self s e h p = rw p (rw (eq-eqb s s refl) refl)

own_other : (s n : ℕ) (e : Entry) (h : Journal) → e.session ≡ Some s → (s == n) ≡ false → own n (e ∷ h) ≡ own n h
own_other s n e h p d = rw p (rw d refl)

own_outside : (n : ℕ) (e : Entry) (h : Journal) → e.session ≡ None → own n (e ∷ h) ≡ own n h
own_outside n e h p = rw p refl

-- an entry of no session
pub noted_outside : (es : List Entry) (e : Entry) (h : Journal) (ds : List Dossier) → e.session ≡ None → AreDossiers es h ds → AreDossiers es (e ∷ h) ds
noted_outside es e h ds p a = λ s. subst (λ m. IsKnown es m (slice_get ds s)) (sym (own_outside s e h p)) (a s)

-- a place that is set, and the others
set_here : (ds : List Dossier) (n : ℕ) (d : Dossier) → n < length ds → slice_get (slice_set ds n d) n ≡ Some d
set_here [] n d l = absurd (no n l)
  where
    no : (k : ℕ) → k < 0 → ⊥
    no k m = omega arith
set_here (x ∷ ds) zero d l = refl
set_here (x ∷ ds) (suc n) d l = set_here ds n d (omega arith)

set_apart : (ds : List Dossier) (n s : ℕ) (d : Dossier) → (n ≡ s → ⊥) → slice_get (slice_set ds n d) s ≡ slice_get ds s
set_apart [] n s d p = refl
set_apart (x ∷ ds) zero zero d p = absurd (p refl)
set_apart (x ∷ ds) zero (suc s) d p = refl
set_apart (x ∷ ds) (suc n) zero d p = refl
set_apart (x ∷ ds) (suc n) (suc s) d p = set_apart ds n s d (λ e. p (ap suc e))

-- an entry of a session, which was noted at its place
pub noted : (es : List Entry) (s : ℕ) (e : Entry) (h : Journal) (ds : List Dossier) (y z : Dossier) → e.session ≡ Some s → s < length ds → y ≡ get_or ds s y → AreDossiers es h ds
    → ((mine : Journal) → IsDossier es mine y → IsDossier es (e ∷ mine) z) → AreDossiers es (e ∷ h) (slice_set ds s z)
noted es s e h ds y z p l v a f = λ n. at n (tested (s == n))
  where
    place : slice_get ds s ≡ Some y
    place = slice_get-get_or ds s y l ∙ ap Some (sym v)

    was : IsDossier es (own s h) y
    was = subst (IsKnown es (own s h)) place (a s)

    here : IsKnown es (own s (e ∷ h)) (slice_get (slice_set ds s z) s)
    here = rw (own_self s e h p, set_here ds s z l) (f (own s h) was)

    at : (n : ℕ) → Tested (s == n) → IsKnown es (own n (e ∷ h)) (slice_get (slice_set ds s z) n)
    at n (inl q) = subst (λ m. IsKnown es (own m (e ∷ h)) (slice_get (slice_set ds s z) m)) (eqb-true s n q) here
    at n (inr q) = rw (own_other s n e h p q, set_apart ds s n z (λ e. true≢false (sym (eq-eqb s n e) ∙ q))) (a n)

pub noted_at : (es : List Entry) (i s : ℕ) (e : Entry) (h : Journal) (ds : List Dossier) (y z : Dossier) → i ≡ s → y ≡ get_or ds i y → e.session ≡ Some s → s < length ds → AreDossiers es h ds
    → ((mine : Journal) → IsDossier es mine y → IsDossier es (e ∷ mine) z) → AreDossiers es (e ∷ h) (slice_set ds i z)
noted_at es i s e h ds y z g v p l a f =
    subst (λ j. AreDossiers es (e ∷ h) (slice_set ds j z)) (sym g) (noted es s e h ds y z p l (subst (λ n. y ≡ get_or ds n y) g v) a f)

-- one place more, of a session that has done nothing
pub reached : (es : List Entry) (h : Journal) (ds : List Dossier) (d : Dossier) → IsDossier es [] d → AreDossiers es h ds → AreDossiers es h (ds ++ d ∷ [])
reached es h ds d b a = λ s. at ds s (own s h) (a s)
  where
    at : (ds : List Dossier) (s : ℕ) (m : Journal) → IsKnown es m (slice_get ds s) → IsKnown es m (slice_get (ds ++ d ∷ []) s)
    at [] zero m e = subst (λ l. IsDossier es l d) (sym e) b
    at [] (suc s) m e = e
    at (x ∷ ds) zero m e = e
    at (x ∷ ds) (suc s) m e = at ds s m e

any_same : (cs : List Change) (p q : Change → Bool) → ((c : Change) → p c ≡ q c) → list_any p cs ≡ list_any q cs
any_same [] p q e = refl
any_same (c ∷ cs) p q e = rw (e c, any_same cs p q e) refl

-- the changes of a dossier are lost updates if those of its session are
pub lost_is : (es : List Entry) (rows : Tables) (mine : Journal) (d : Dossier) → IsDossier es mine d → has_lost_row es rows d ≡ is_lost_by rows mine (changes_in mine)
lost_is es rows mine d b =
    ap (list_any (λ c. is_lost_row rows (key_of c) (rest_at es d.rests.entries (key_of c)))) b.written
    ∙ any_same (changes_in mine) (λ c. is_lost_row rows (key_of c) (rest_at es d.rests.entries (key_of c)))
    (λ c. option_map_or (λ r. not (same_row (row_at rows (key_of c)) r)) (rests_on (key_of c) mine) false)
    (λ c. ap (λ o. is_lost_row rows (key_of c) o) (b.rests (key_of c))
    ∙ ap (λ o. option_map_or (λ r. not (same_row (row_at rows (key_of c)) r)) o false) (sym (rests_are (key_of c) mine)))

-- one entry more at the end of those before it
onto_more : (es h : List Entry) (e : Entry) → onto (es ++ e ∷ []) h ≡ e ∷ onto es h
onto_more [] h e = refl
onto_more (d ∷ es) h e = onto_more es (d ∷ h) e

-- the entries up to a place, and one more
pub onto_next : (es : List Entry) (n : ℕ) (e : Entry) → n < length es → e ≡ get_or es n e → onto (take (n + 1) es) [] ≡ e ∷ onto (take n es) []
onto_next es n e low is =
    ap (λ l. onto l []) (take_more es n e low ∙ ap (λ x. take n es ++ x ∷ []) (sym is)) ∙ onto_more (take n es) [] e

onto_is : (es h : List Entry) → onto es h ≡ reverse es ++ h
onto_is [] h = refl
onto_is (e ∷ es) h = onto_is es (e ∷ h) ∙ sym (ap (λ l. l ++ h) (reverse_onto es e []) ∙ append_assoc (reverse es) (e ∷ []) h)

pub onto_reverse : (es : List Entry) → onto es [] ≡ reverse es
onto_reverse es = onto_is es [] ∙ append-nil (reverse es)

pub or_same : {a b c d : Bool} → a ≡ b → c ≡ d → (a || c) ≡ (b || d)
or_same p q = cc

-- how each session of some has ended, by what is known of it
pub ended : (fs : List Fate) (h : Journal) (n : ℕ) → ((s : ℕ) (f : Fate) → slice_get fs s ≡ Some f → f.outcome ≡ outcome (own (n + s) h)) →
    map (λ (f : Fate). f.outcome) fs ≡ map (λ s. outcome (own s h)) (range_with_len n (length fs))
ended [] h n e = refl
ended (f ∷ fs) h n e = two first (ended fs h (n + 1) (λ s g p. e (suc s) g p ∙ ap (λ m. outcome (own m h)) (moved s)))
  where
    first : f.outcome ≡ outcome (own n h)
    first = e 0 f refl ∙ ap (λ m. outcome (own m h)) (add-zero n)

    moved : (s : ℕ) → n + suc s ≡ n + 1 + s
    moved s = omega arith

    two : {a b : Outcome} {xs ys : List Outcome} → a ≡ b → xs ≡ ys → a ∷ xs ≡ b ∷ ys
    two p q = cc
