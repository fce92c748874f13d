-- Each step of a run is of a session of the script.
use Rattle.std.specs.Prelude.{length, slice_get, nat_lt, ◌==◌, ◌||◌}
use Rattle.std.specs.Option.{option_map_or}
use Rattle.std.proofs.Common.{◌≡◌, ◌<◌, ◌≤◌, ◌⊎◌, ℕ, zero, suc, inl, inr, Bool, true, false, cond, List, [], ◌∷◌, Some, None, Option, refl, sym, ap, ◌∙◌, subst, arith}
use Rattle.std.proofs.lemmas.Bool.{false≢true, eqb-true, ltb-true, ltb-false}
use Rattle.hib_base.specs.Tables.{Tables}
use Rattle.hib_base.proofs.Tables.{Tested, tested}
use Rattle.hib_journal.specs.Types.{Script, SessionDef, Mode, Act, Entry}
use Rattle.hib_journal.specs.Sessions.{Journal, is_open, is_session, open_after}
use Rattle.hib_journal.specs.Plan.{Plan, left_of, first_act}
use Rattle.hib_journal.specs.Next.{blocks, next}
use Rattle.hib_order_law.specs.Orders.{IsUndisturbed, onto, steps_in, step_of, whose}
use Rattle.hib_order_law.specs.declared.step.Step.{Step}
use Rattle.hib_order_law.proofs.Later.{base, head_stepped, tail}
use Rattle.hib_order_law.proofs.Made.{IsKilling, IsOwn, Stepped, none_some}
use Rattle.hib_order_tries.proofs.Unmet.{AreOf}

over_left : (mine : Journal) → left_of Plan.Over mine ≡ Plan.Over
over_left [] = refl
over_left (e ∷ m) = rw (over_left m) refl

past_end : (ds : List SessionDef) (s : ℕ) → length ds ≤ s → slice_get ds s ≡ None
past_end [] s l = refl
past_end (d ∷ ds) zero l = absurd (omega (arith, l))
past_end (d ∷ ds) (suc s) l = past_end ds s (omega arith)

unknown : (script : Script) (s : ℕ) (mine : Journal) → length script.sessions ≤ s → next script s mine ≡ None
unfolding next
unknown script s mine l = ap (λ (o : Option SessionDef). first_act (left_of (blocks script Mode.Normal true (option_map_or (λ d. d.statements) o []) []) mine)) (past_end script.sessions s l) ∙ ap first_act (over_left mine)

-- a session with a next act is there
known : (script : Script) (s : ℕ) (mine : Journal) (a : Act) → next script s mine ≡ Some a → s < length script.sessions
known script s mine a p = by (tested (nat_lt s (length script.sessions)))
  where
    by : Tested (nat_lt s (length script.sessions)) → s < length script.sessions
    by (inl t) = ltb-true s (length script.sessions) t
    by (inr f) = none_some (sym (unknown script s mine (ltb-false s (length script.sessions) f)) ∙ p)

-- one that isn't open is opened by an act of its own alone
still_shut : (s : ℕ) (by : Option ℕ) (a : Act) (o : Bool) → is_session s by ≡ false → o ≡ false → open_after s by a o ≡ false
still_shut s by Act.Begin o p q = rw (p, q) refl
still_shut s by Act.End o p q = rw (p, q) refl
still_shut s by (Act.Kill n) o p q = rw q (same (n == s))
  where
    same : (x : Bool) → cond x false false ≡ false
    same true = refl
    same false = refl
still_shut s by Act.Restart o p q = refl
still_shut s by _ o p q = q

other : (k s n : ℕ) → k < n → n ≤ s → (k == s) ≡ false
other k s n l m = by (tested (k == s))
  where
    by : Tested (k == s) → (k == s) ≡ false
    by (inl p) = let e : k ≡ s = eqb-true k s p in absurd (omega (arith, e, l, m))
    by (inr p) = p

module _ (script : Script) (start : Tables) where
  shut : (s : ℕ) (h : Journal) → IsUndisturbed script start h → length script.sessions ≤ s → is_open s h ≡ false
  shut s [] u l = refl
  shut s (e ∷ h) u l = still_shut s e.session e.act (is_open s h) (by (head_stepped script start e h u)) (shut s h (tail script start e h u) l)
    where
      by : Stepped script h e → is_session s e.session ≡ false
      by (inl x) =
          let o : IsOwn script h e x.0 = x.1 in
          subst (λ v. is_session s v ≡ false) (sym o.session) (other x.0 s (length script.sessions) (known script x.0 (Rattle.hib_journal.specs.Sessions.own x.0 h) e.act o.next) l)
      by (inr x) = let k : IsKilling script h e x.0 = x.1 in subst (λ v. is_session s v ≡ false) (sym k.session) refl

  open_known : (s : ℕ) (h : Journal) → IsUndisturbed script start h → is_open s h ≡ true → s < length script.sessions
  open_known s h u p = by (tested (nat_lt s (length script.sessions)))
    where
      by : Tested (nat_lt s (length script.sessions)) → s < length script.sessions
      by (inl t) = ltb-true s (length script.sessions) t
      by (inr f) = absurd (false≢true (sym (shut s h u (ltb-false s (length script.sessions) f)) ∙ p))

  pub steps_known : (es : List Entry) (h : Journal) → IsUndisturbed script start (onto es h) → AreOf (length script.sessions) (steps_in es)
  steps_known [] h u = tt
  steps_known (e ∷ es) h u = (by (head_stepped script start e h here), steps_known es (e ∷ h) u)
    where
      here : IsUndisturbed script start (e ∷ h)
      here = base script start es (e ∷ h) u

      by : Stepped script h e → whose (step_of e) < length script.sessions
      by (inl x) =
          let o : IsOwn script h e x.0 = x.1 in
          subst (λ t. whose t < length script.sessions) (sym o.step) (known script x.0 (Rattle.hib_journal.specs.Sessions.own x.0 h) e.act o.next)
      by (inr x) =
          let k : IsKilling script h e x.0 = x.1 in
          subst (λ t. whose t < length script.sessions) (sym k.step) (open_known x.0 h (tail script start e h here) k.stands)
