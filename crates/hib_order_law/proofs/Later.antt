-- In a run in which each session is at its end or killed, a session that has a next act at a point comes later; and one that comes later
-- has a next act if no session is killed from there on.
use Rattle.std.specs.Prelude.{not, ◌||◌, ◌==◌}
use Rattle.std.specs.List.{list_all}
use Rattle.std.proofs.Common.{◌≡◌, ℕ, inl, inr, Bool, true, false, List, [], ◌∷◌, refl, sym, ap, ◌∙◌, subst}
use Rattle.std.proofs.lemmas.Bool.{false≢true, eqb-true}
use Rattle.hib_base.specs.Tables.{Tables}
use Rattle.hib_base.proofs.Tables.{Tested, tested}
use Rattle.hib_journal.specs.Types.{Script, Entry}
use Rattle.hib_journal.specs.Sessions.{Journal, is_by, is_open, is_session, killed_by, was_killed}
use Rattle.hib_journal.specs.Played.{has_next}
use Rattle.hib_journal.proofs.Sessions.{own_other}
use Rattle.hib_journal.proofs.Open.{killed_same}
use Rattle.hib_order_law.specs.Orders.{is_due, is_kill_step, is_plain, IsUndisturbed, comes, onto, step_of, steps_in, whose}
use Rattle.hib_order_law.specs.declared.step.Step.{Step}
use Rattle.hib_order_law.proofs.Begun.{and_left, and_right}
use Rattle.hib_order_law.proofs.Made.{IsKilling, IsOwn, Stepped, entry_due, not_true, stepped}

-- no step of these kills
abbrev pub is_free : List Step → Bool
is_free ts = list_all (λ t. not (is_kill_step t)) ts

module _ (script : Script) (start : Tables) where
  pub tail : (e : Entry) (h : Journal) → IsUndisturbed script start (e ∷ h) → IsUndisturbed script start h
  tail e h u = record {
    legal = u.legal.0;
    numbered = u.numbered.1;
    plain = and_right (is_plain e) (list_all is_plain h) u.plain;
  }

  pub base : (es : List Entry) (h : Journal) → IsUndisturbed script start (onto es h) → IsUndisturbed script start h
  base [] h u = u
  base (e ∷ es) h u = tail e h (base es (e ∷ h) u)

  pub plain_head : (e : Entry) (h : Journal) → IsUndisturbed script start (e ∷ h) → is_plain e ≡ true
  plain_head e h u = and_left (is_plain e) (list_all is_plain h) u.plain

  pub head_stepped : (e : Entry) (h : Journal) → IsUndisturbed script start (e ∷ h) → Stepped script h e
  head_stepped e h u = stepped script start h e u.legal.0 u.legal.1 (plain_head e h u)

  -- the step of an entry may come
  pub head_due : (e : Entry) (h : Journal) → IsUndisturbed script start (e ∷ h) → is_due script h (step_of e) ≡ true
  head_due e h u = entry_due script start h e u.legal.0 u.legal.1 (plain_head e h u)

  -- if it kills none, its session had a next act
  pub head_has : (e : Entry) (h : Journal) → IsUndisturbed script start (e ∷ h) → is_kill_step (step_of e) ≡ false → has_next script h (whose (step_of e)) ≡ true
  head_has e h u f = by (head_stepped e h u)
    where
      by : Stepped script h e → has_next script h (whose (step_of e)) ≡ true
      by (inl x) = let o : IsOwn script h e x.0 = x.1 in subst (λ t. has_next script h (whose t) ≡ true) (sym o.step) (rw (o.alive, o.next))
      by (inr x) = let k : IsKilling script h e x.0 = x.1 in absurd (false≢true (sym f ∙ ap is_kill_step k.step))

  -- an entry leaves the next act of another session
  pub other_has : (e : Entry) (h : Journal) (s : ℕ) → IsUndisturbed script start (e ∷ h) → (whose (step_of e) == s) ≡ false → has_next script (e ∷ h) s ≡ has_next script h s
  other_has e h s u n = by (head_stepped e h u)
    where
      by : Stepped script h e → has_next script (e ∷ h) s ≡ has_next script h s
      by (inl x) = rw (killed_same s e h o.inside, own_other s e h not_by)
        where
          o : IsOwn script h e x.0
          o = x.1

          not_by : is_by s e ≡ false
          not_by = ap (is_session s) o.session ∙ subst (λ t. (whose t == s) ≡ false) o.step n
      by (inr x) = rw (killed, own_other s e h (ap (is_session s) k.session))
        where
          k : IsKilling script h e x.0
          k = x.1

          killed : was_killed s (e ∷ h) ≡ was_killed s h
          killed = rw (ap (λ a. killed_by s a (is_open s h)) k.act ∙ subst (λ t. (whose t == s) ≡ false) k.step n) refl

  -- a session that has a next act comes later
  pub has_comes : (es : List Entry) (h : Journal) (s : ℕ) → IsUndisturbed script start (onto es h) → has_next script (onto es h) s ≡ false → has_next script h s ≡ true →
      comes s (steps_in es) ≡ true
  has_comes [] h s u o p = absurd (false≢true (sym o ∙ p))
  has_comes (e ∷ es) h s u o p = by (tested (whose (step_of e) == s)) (has_comes es (e ∷ h) s u o)
    where
      by : Tested (whose (step_of e) == s) → (has_next script (e ∷ h) s ≡ true → comes s (steps_in es) ≡ true) → ((whose (step_of e) == s) || comes s (steps_in es)) ≡ true
      by (inl q) i = rw q refl
      by (inr q) i = rw q (i (other_has e h s (base es (e ∷ h) u) q ∙ p))

  -- if none is killed from there on, it has one exactly if it comes later
  pub later : (es : List Entry) (h : Journal) (s : ℕ) → IsUndisturbed script start (onto es h) → is_free (steps_in es) ≡ true → has_next script (onto es h) s ≡ false →
      has_next script h s ≡ comes s (steps_in es)
  later [] h s u f o = o
  later (e ∷ es) h s u f o =
      by (tested (whose (step_of e) == s)) (later es (e ∷ h) s u (and_right (not (is_kill_step (step_of e))) (is_free (steps_in es)) f) o)
    where
      here : IsUndisturbed script start (e ∷ h)
      here = base es (e ∷ h) u

      own_step : is_kill_step (step_of e) ≡ false
      own_step = not_true (is_kill_step (step_of e)) (and_left (not (is_kill_step (step_of e))) (is_free (steps_in es)) f)

      by : Tested (whose (step_of e) == s) → has_next script (e ∷ h) s ≡ comes s (steps_in es) → has_next script h s ≡ ((whose (step_of e) == s) || comes s (steps_in es))
      by (inl p) i = rw p (subst (λ i. has_next script h i ≡ true) (eqb-true (whose (step_of e)) s p) (head_has e h here own_step))
      by (inr p) i = rw p (sym (other_has e h s here p) ∙ i)
