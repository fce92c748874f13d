-- The least time of the open sessions is that of the first.
use Rattle.std.specs.Prelude.{slice_get}
use Rattle.std.proofs.Common.{◌≡◌, ℕ, ◌≤◌, ◌<◌, true, ◌==◌, List, [], ◌∷◌, Some, None, Option, refl, sym, ap, ◌∙◌, arith, inl, inr}
use Rattle.hib_base.proofs.Tables.{Tested, tested}
use Rattle.hib_journal.specs.Sessions.{Journal, is_open, time}
use Rattle.hib_engines.specs.Registry.{Opened, by_session, least_in, time_of, time_if_open, IsRegistry, IsLeast}
use Rattle.hib_engines.proofs.Opened.{none_some, same_some, closed, opened, time_of_self, found, floor_is}

pub first_least : (es : List (ℕ × ℕ)) (t s : ℕ) → slice_get es 0 ≡ Some (t, s) → Some t ≡ least_in (by_session es)
first_least [] t s e = absurd (cc)
first_least (x ∷ es) t s e = let p : x ≡ (t, s) = cc in sym (ap (λ y. Some y.0) p)

least_first : (p : ℕ × ℕ) (ps : Opened) (h : Journal) → IsRegistry (p ∷ ps) h → (s : ℕ) → is_open s h ≡ true → p.1 ≤ time s h
least_first p ps h r s o = by_test (tested (p.0 == s)) (r.each s)
  where
    by_test : Tested (p.0 == s) → time_of (p ∷ ps) s ≡ time_if_open s h → p.1 ≤ time s h
    by_test (inl q) e = let x : p.1 ≡ time s h = same_some p.1 (time s h) (sym (rw q refl) ∙ (e ∙ rw o refl)) in omega arith
    by_test (inr q) e = let x : p.1 < time s h = found (λ t. p.1 < t) ps s (time s h) r.rising.0 (sym (rw q refl) ∙ (e ∙ rw o refl)) in omega arith

pub least_is : (ps : Opened) (h : Journal) → IsRegistry ps h → IsLeast (least_in ps) h
least_is [] h r = record {
  none = λ e s. closed (is_open s h) (time s h) (r.each s);
  some = λ t e. absurd (none_some t e);
  least = λ t e. absurd (none_some t e);
  floor = λ now l. sym (floor_is [] h now r l);
}
least_is (p ∷ ps) h r = record {
  none = λ e. absurd (none_some p.1 (sym e));
  some = λ t e.
      let first : (is_open p.0 h ≡ true) × (time p.0 h ≡ p.1) = opened (is_open p.0 h) (time p.0 h) p.1 (sym (time_of_self p ps) ∙ r.each p.0) in
      (p.0, first.0, first.1 ∙ same_some p.1 t e);
  least = λ t e s o. let l : p.1 ≤ time s h = least_first p ps h r s o in let q : p.1 ≡ t = same_some p.1 t e in omega arith;
  floor = λ now l. sym (floor_is (p ∷ ps) h now r l);
}
