-- What a factory hands back of an undisturbed run is one.
use Rattle.std.specs.Prelude.{length, slice_get, not, ◌&&◌, reverse, None}
use Rattle.std.proofs.Common.{◌≡◌, ◌++◌, ◌<◌, ◌≤◌, arith, ◌⊎◌, ℕ, Bool, true, false, inl, inr, List, [], ◌∷◌, Some, refl, sym, ap, ◌∙◌, subst}
use Rattle.std.proofs.lemmas.List.{append_assoc, append-nil}
use Rattle.std.proofs.lemmas.Grind.{reverse_onto}
use Rattle.std.proofs.lemmas.Option.{slice_get_past}
use Rattle.std.proofs.lemmas.Bool.{cases_lt}
use Rattle.hib_base.specs.Tables.{Tables}
use Rattle.hib_journal.specs.Types.{Script, Entry}
use Rattle.hib_journal.specs.Kept.{Kept, past}
use Rattle.hib_journal.specs.Sessions.{Journal, own, was_killed}
use Rattle.hib_journal.specs.Plan.{Plan, first_act, left_of, after}
use Rattle.hib_journal.specs.Next.{next}
use Rattle.hib_journal.specs.Legal.{IsLegal}
use Rattle.hib_journal.specs.Runs.{IsNumbered, fault_count}
use Rattle.hib_journal.specs.Played.{has_next}
use Rattle.hib_core.specs.Factory.{AreOver}
use Rattle.hib_core.specs.Standing.{Origin, RoseBy}
use Rattle.hib_order_law.specs.Orders.{IsRun, IsUndisturbed, begins, is_unkilled, kills, onto, steps_in}
use Rattle.hib_order_law.specs.declared.step.Step.{Step}
use Rattle.hib_order_plays.proofs.Due.{kills_are}
use Rattle.hib_order_plays.proofs.Steps.{plain_all}
use Rattle.hib_order_plays.specs.Starts.{are_steps}

onto_is : (es h : List Entry) → onto es h ≡ reverse es ++ h
onto_is [] h = refl
onto_is (e ∷ es) h = onto_is es (e ∷ h) ∙ sym (ap (λ l. l ++ h) (reverse_onto es e []) ∙ append_assoc (reverse es) (e ∷ []) h)

past_is : (j : Kept) → past j ≡ onto j.list []
unfolding past
past_is j = sym (onto_is j.list [] ∙ append-nil (reverse j.list))

left_over : (m : Journal) → left_of Plan.Over m ≡ Plan.Over
left_over [] = refl
left_over (e ∷ m) = ap (λ x. after x e) (left_over m)

-- a session that isn't there has no act
none_there : (script : Script) (s : ℕ) (m : Journal) → slice_get script.sessions s ≡ None → next script s m ≡ None
unfolding next
none_there script s m p = rw p (ap first_act (left_over m))

over_all : (script : Script) (h : Journal) → AreOver script h → (s : ℕ) → has_next script h s ≡ false
over_all script h o s = by (cases_lt s (length script.sessions))
  where
    no : (b : Bool) → (not b && false) ≡ false
    no true = refl
    no false = refl

    by : (s < length script.sessions) ⊎ (length script.sessions ≤ s) → has_next script h s ≡ false
    by (inl l) = o s l
    by (inr l) = rw (none_there script s (own s h) (slice_get_past script.sessions s l)) (no (was_killed s h))

-- a count that has not risen
none_rose : (n : ℕ) → RoseBy 0 n 0 → n ≡ 0
none_rose n p = omega (arith, p)

-- a journal of steps, over a keeper that never fails
pub undisturbed_is : (script : Script) (start : Tables) (from : Origin) (j k : Kept) → from.tables ≡ Some start → from.faults ≡ 0 →
    IsLegal script from.tables (past j) → IsNumbered (past j) → RoseBy from.faults (fault_count (past j)) 0 → j ≡ k → are_steps (past k) ≡ true →
    IsUndisturbed script start (past j)
undisturbed_is script start from j k t f l n r e o = record {
  legal = subst (λ x. IsLegal script x (past j)) t l;
  numbered = n;
  plain = plain_all (past j) (subst (λ x. are_steps (past x) ≡ true) (sym e) o)
      (none_rose (fault_count (past j)) (subst (λ x. RoseBy x (fault_count (past j)) 0) f r));
}

pub run_is : (script : Script) (start : Tables) (steps : List Step) (j : Kept) → IsUndisturbed script start (past j) → AreOver script (past j) →
    begins steps (steps_in j.list) ≡ true → is_unkilled (length steps) (steps_in j.list) ≡ true → IsRun script start (kills steps) j.list
run_is script start steps j u o b a = record {
  undisturbed = subst (IsUndisturbed script start) (past_is j) u;
  over = subst (λ h. (s : ℕ) → has_next script h s ≡ false) (past_is j) (over_all script (past j) o);
  few_kills = let e : kills (steps_in j.list) ≡ kills steps = kills_are steps (steps_in j.list) b a in omega (arith, e);
}

-- what was played to its end from such a beginning
pub record IsPlayed (script : Script) (start : Tables) (steps : List Step) (j : Kept) : Type 0 where
  pub run : IsRun script start (kills steps) j.list
  pub first : begins steps (steps_in j.list) ≡ true
  pub rest : is_unkilled (length steps) (steps_in j.list) ≡ true

pub played_is : (script : Script) (start : Tables) (from : Origin) (steps : List Step) (j k : Kept) (h : Journal) → from.tables ≡ Some start → from.faults ≡ 0 →
    IsLegal script from.tables (past j) → IsNumbered (past j) → RoseBy from.faults (fault_count (past j)) 0 → j ≡ k → h ≡ [] →
    (are_steps h ≡ true → are_steps (past k) ≡ true) → AreOver script (past k) → (IsUndisturbed script start (past k) → begins steps (steps_in k.list) ≡ true) →
    (IsUndisturbed script start (past k) → is_unkilled (length steps) (steps_in k.list) ≡ true) → IsPlayed script start steps j
played_is script start from steps j k h t f l n r e p a o b c =
    record { run = run_is script start steps j u (subst (λ x. AreOver script (past x)) (sym e) o) first rest; first = first; rest = rest }
  where
    u : IsUndisturbed script start (past j)
    u = undisturbed_is script start from j k t f l n r e (a (subst (λ x. are_steps x ≡ true) (sym p) refl))

    v : IsUndisturbed script start (past k)
    v = subst (λ x. IsUndisturbed script start (past x)) e u

    first : begins steps (steps_in j.list) ≡ true
    first = subst (λ x. begins steps (steps_in x.list) ≡ true) (sym e) (b v)

    rest : is_unkilled (length steps) (steps_in j.list) ≡ true
    rest = subst (λ x. is_unkilled (length steps) (steps_in x.list) ≡ true) (sym e) (c v)
