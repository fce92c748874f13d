-- A run has few steps beside its kills.
use Rattle.std.specs.Prelude.{length, is_some, not, ◌&&◌, ◌||◌}
use Rattle.std.proofs.Common.{◌≡◌, ◌+◌, ◌≤◌, ℕ, suc, Bool, true, false, cond, List, [], ◌∷◌, Some, None, Option, sym, ap, ◌∙◌, arith}
use Rattle.std.proofs.lemmas.Bool.{false≢true}
use Rattle.hib_base.specs.Tables.{Tables}
use Rattle.hib_core.specs.Bound.{most_in, one_if_none, outside_count}
use Rattle.hib_journal.specs.Types.{Script, Act, Entry}
use Rattle.hib_journal.specs.Sessions.{Journal}
use Rattle.hib_journal.specs.Legal.{IsLegal}
use Rattle.hib_order_law.specs.Orders.{IsRun, IsUndisturbed, is_kill_step, is_killing, is_plain, kills, onto, step_by, step_of, steps_in}
use Rattle.hib_order_law.specs.declared.step.Step.{Step}
use Rattle.hib_order_law.proofs.Begun.{and_left}
use Rattle.hib_order_law.proofs.Later.{base, plain_head}
use Rattle.hib_order_law.proofs.Made.{not_true}

abbrev ShortLaw : Type 0
ShortLaw = (script : Script) (told : Option Tables) (h : Journal) → IsLegal script told h → length h ≤ most_in script.sessions + outside_count h

-- an entry of no session is a kill
outside_kill : (by : Option ℕ) (a : Act) → (is_some by || is_killing a) ≡ true → one_if_none by ≤ cond (is_kill_step (step_by by a)) 1 0
outside_kill (Some s) a p = omega arith
outside_kill None (Act.Kill s) p = omega arith
outside_kill None _ p = absurd (false≢true p)

module _ (script : Script) (start : Tables) where
  outside_few : (es : List Entry) (h : Journal) → IsUndisturbed script start (onto es h) → outside_count (onto es h) ≤ outside_count h + kills (steps_in es)
  outside_few [] h u = omega arith
  outside_few (e ∷ es) h u =
      let here : IsUndisturbed script start (e ∷ h) = base script start es (e ∷ h) u in
      let k : one_if_none e.session ≤ cond (is_kill_step (step_of e)) 1 0 = outside_kill e.session e.act (and_left (is_some e.session || is_killing e.act) _ (plain_head script start e h here)) in
      let i : outside_count (onto es (e ∷ h)) ≤ outside_count h + one_if_none e.session + kills (steps_in es) = outside_few es (e ∷ h) u in
      plain (outside_count (onto es (e ∷ h))) (outside_count h) (one_if_none e.session) (cond (is_kill_step (step_of e)) 1 0) (kills (steps_in es)) i k
    where
      plain : (n o a b k : ℕ) → n ≤ o + a + k → a ≤ b → n ≤ o + (b + k)
      plain n o a b k p q = omega arith

onto_long : (es : List Entry) (h : Journal) → length (onto es h) ≡ length (steps_in es) + length h
onto_long [] h = omega arith
onto_long (e ∷ es) h = let i : length (onto es (e ∷ h)) ≡ length (steps_in es) + suc (length h) = onto_long es (e ∷ h) in omega (arith, i)

pub run_short : ShortLaw → (script : Script) (start : Tables) (most_kills : ℕ) (es : List Entry) (order : List Step) → IsRun script start most_kills es → order ≡ steps_in es →
    length order ≤ most_in script.sessions + most_kills
run_short law script start most_kills es order r e =
    let long : length (onto es []) ≡ length (steps_in es) + 0 = onto_long es [] in
    let short : length (onto es []) ≤ most_in script.sessions + outside_count (onto es []) = law script (Some start) (onto es []) r.undisturbed.legal in
    let few : outside_count (onto es []) ≤ 0 + kills (steps_in es) = outside_few script start es [] r.undisturbed in
    plain (length order) (length (steps_in es)) (length (onto es [])) (most_in script.sessions) (outside_count (onto es [])) (kills (steps_in es)) (ap (λ x. length x) e) long short few r.few_kills
  where
    plain : (n m l s o k : ℕ) → n ≡ m → l ≡ m + 0 → l ≤ s + o → o ≤ 0 + k → k ≤ most_kills → n ≤ s + most_kills
    plain n m l s o k p q r t u = omega arith
