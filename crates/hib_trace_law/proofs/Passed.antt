-- One commit more of those that the judge goes over.
use Rattle.std.proofs.Common.{◌≡◌, ◌≤◌, ◌<◌, ◌+◌, ◌-◌, ℕ, zero, suc, false, nat_le, List, ◌∷◌, length, drop, get_or, ap, ◌∙◌, arith}
use Rattle.std.specs.Prelude.{◌&&◌}
use Rattle.std.proofs.lemmas.List.{drop_more}
use Rattle.std.proofs.lemmas.Bool.Decides.{nat_tests}
use Rattle.hib_trace_law.specs.declared.calls.Call.{Call}
use Rattle.hib_trace_law.specs.declared.calls.Sighting.{Sighting}
use Rattle.hib_trace_law.specs.Placings.{may_be}
use Rattle.hib_trace_law.proofs.Placed.{le_test}

module _ (cs : List Call) (a : Sighting) (at : ℕ) (d : Call) (p : at < length cs) where
  made : at < a.place → may_be (a.place - at) (drop at cs) a ≡ (nat_le (get_or cs at d).begin a.end && may_be (a.place - (at + 1)) (drop (at + 1) cs) a)
  made q =
      ap (λ xs. may_be (a.place - at) xs a) (drop_more cs at d p)
      ∙ ap (λ n. may_be n (get_or cs at d ∷ drop (at + 1) cs) a) (let e : a.place - at ≡ suc (a.place - (at + 1)) = omega (arith, q) in e)

  later : a.place ≤ at → may_be (a.place - at) (drop at cs) a ≡ (nat_le a.since (get_or cs at d).end && may_be (a.place - (at + 1)) (drop (at + 1) cs) a)
  later q =
      ap (λ xs. may_be (a.place - at) xs a) (drop_more cs at d p)
      ∙ ap (λ n. may_be n (get_or cs at d ∷ drop (at + 1) cs) a) (let e : a.place - at ≡ zero = omega (arith, q) in e)
      ∙ ap (λ n. nat_le a.since (get_or cs at d).end && may_be n (drop (at + 1) cs) a) (let e : zero ≡ a.place - (at + 1) = omega (arith, q) in e)

  pub too_early : at < a.place → a.end < (get_or cs at d).begin → may_be (a.place - at) (drop at cs) a ≡ false
  too_early q r = made q ∙ ap (λ b. b && may_be (a.place - (at + 1)) (drop (at + 1) cs) a) (let e : nat_le (get_or cs at d).begin a.end ≡ false = grind (arith, nat_tests) in e)

  pub too_late : a.place ≤ at → (get_or cs at d).end < a.since → may_be (a.place - at) (drop at cs) a ≡ false
  too_late q r = later q ∙ ap (λ b. b && may_be (a.place - (at + 1)) (drop (at + 1) cs) a) (let e : nat_le a.since (get_or cs at d).end ≡ false = grind (arith, nat_tests) in e)

  pub made_more : at < a.place → (get_or cs at d).begin ≤ a.end → may_be (a.place - at) (drop at cs) a ≡ may_be (a.place - (at + 1)) (drop (at + 1) cs) a
  made_more q r = made q ∙ ap (λ b. b && may_be (a.place - (at + 1)) (drop (at + 1) cs) a) (le_test (get_or cs at d).begin a.end r)

  pub later_more : a.place ≤ at → a.since ≤ (get_or cs at d).end → may_be (a.place - at) (drop at cs) a ≡ may_be (a.place - (at + 1)) (drop (at + 1) cs) a
  later_more q r = later q ∙ ap (λ b. b && may_be (a.place - (at + 1)) (drop (at + 1) cs) a) (le_test a.since (get_or cs at d).end r)
