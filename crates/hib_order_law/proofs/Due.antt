-- The first steps of another order of a run may come, each at its turn.
use Rattle.std.proofs.Common.{◌≡◌, ℕ, zero, suc, inl, inr, true, List, [], ◌∷◌, refl, sym, subst}
use Rattle.hib_base.specs.Tables.{Tables}
use Rattle.hib_journal.specs.Types.{Script, Entry}
use Rattle.hib_journal.specs.Sessions.{Journal}
use Rattle.hib_order_law.specs.Orders.{IsUndisturbed, can_begin, is_due, onto, step_of, with_step, IsOther, IsRun}
use Rattle.hib_order_law.specs.declared.step.Step.{Step}
use Rattle.hib_order_law.proofs.Begun.{and_both}
use Rattle.hib_order_law.proofs.Later.{base, head_due, plain_head}
use Rattle.hib_order_law.proofs.Made.{entry_is}

module _ (script : Script) (start : Tables) where
  last : (t : Step) (ts : List Step) (h : Journal) → ts ≡ [] → is_due script h t ≡ true → can_begin script start h (t ∷ ts) ≡ true
  last t ts h p d = subst (λ l. can_begin script start h (t ∷ l) ≡ true) (sym p) (and_both (is_due script h t) true d refl)

  -- each first step up to the last is the run's own, and the last one may come there
  due : (n : ℕ) (other : List Step) (h : Journal) (es : List Entry) → IsUndisturbed script start (onto es h) → IsOther script h n es other → can_begin script start h other ≡ true
  due n [] h es u x = refl
  due zero (t ∷ ts) h [] u x = last t ts h x.0 x.1
  due (suc n) (t ∷ ts) h [] u x = absurd x
  due n (t ∷ ts) h (e ∷ es) u x = by n (λ m y. due m ts (e ∷ h) es u y) x
    where
      here : IsUndisturbed script start (e ∷ h)
      here = base script start es (e ∷ h) u

      same : e ∷ h ≡ with_step script start (step_of e) h
      same = entry_is script start h e here.legal.0 here.legal.1 here.numbered.0 (plain_head script start e h here)

      shared : step_of e ≡ t → can_begin script start (e ∷ h) ts ≡ true → can_begin script start h (t ∷ ts) ≡ true
      shared p c =
          subst (λ i. can_begin script start h (i ∷ ts) ≡ true) p
          (and_both (is_due script h (step_of e)) (can_begin script start (with_step script start (step_of e) h) ts) (head_due script start e h here)
          (subst (λ g. can_begin script start g ts ≡ true) same c))

      by : (n : ℕ) → ((m : ℕ) → IsOther script (e ∷ h) m es ts → can_begin script start (e ∷ h) ts ≡ true) → IsOther script h n (e ∷ es) (t ∷ ts) →
          can_begin script start h (t ∷ ts) ≡ true
      by zero i (inl y) = shared y.0 (i zero y.1)
      by zero i (inr y) = last t ts h y.0 y.2
      by (suc n) i y = shared y.0 (i n y.1)

  pub others_due : (most_kills n : ℕ) (es : List Entry) (other : List Step) → IsRun script start most_kills es → IsOther script [] n es other → can_begin script start [] other ≡ true
  others_due most_kills n es other r x = due n other [] es r.undisturbed x
