-- Places of commits, one after the other.
use Rattle.std.proofs.Common.{◌≡◌, ◌≤◌, ◌<◌, ◌+◌, inl, inr, ℕ, Bool, true, false, List, [], ◌∷◌, ◌++◌, length, get_or, take, refl, sym, ◌∙◌, ap, subst, arith}
use Rattle.std.specs.Prelude.{◌&&◌, ◌||◌, not, nat_eq, nat_lt, nat_le}
use Rattle.std.specs.List.{list_any}
use Rattle.std.proofs.lemmas.Bool.{le-leb, lt-ltb, leb-true, le-ltb, cases_lt}
use Rattle.std.proofs.lemmas.List.{take_more}
use Rattle.std.proofs.lemmas.List.Folds.{list_any-append}
use Rattle.hib_trace_law.specs.declared.commits.Commit.{Commit}
use Rattle.hib_trace_law.specs.Certain.{ended_before, is_old, is_new}
use Rattle.hib_traces.specs.Making.{IsPlaceOf}
use Rattle.hib_traces.specs.Places.{Tell}
use Rattle.hib_traces.specs.declared.places.Place.{Place}
use Rattle.hib_traces.proofs.Stood.{stands_one}

turned : (m n : ℕ) → nat_le m n ≡ not (nat_lt n m)
turned m n = elim (cases_lt n m) [
  | inl q ↦ late q
  | inr q ↦ le-leb m n q ∙ sym (ap not (le-ltb n m q))
]
  where
    late : n < m → nat_le m n ≡ not (nat_lt n m)
    late q = no (nat_le m n) refl ∙ sym (ap not (lt-ltb n m q))
      where
        no : (b : Bool) → nat_le m n ≡ b → b ≡ false
        no true h = absurd (let l : m ≤ n = leb-true m n h in omega (arith, l, q))
        no false h = refl

turn_and : (a b c : Bool) → ((a && b) && c) ≡ ((a && c) && b)
turn_and false b c = refl
turn_and true true true = refl
turn_and true true false = refl
turn_and true false true = refl
turn_and true false false = refl

-- what a commit's place answers
one_told : (cs : List Commit) (c : Commit) (p : Place) (r e t : ℕ) → IsPlaceOf cs c p →
    stands_one r e t p ≡ (nat_eq c.row r && not (is_old cs c t) && not (is_new cs c e))
one_told cs c p r e t i =
    ap (λ n. nat_eq n r && nat_le p.ready e && not (ended_before p.gone t)) i.row
    ∙ ap (λ b. nat_eq c.row r && b && not (ended_before p.gone t)) (turned p.ready e ∙ sym (ap not (i.ready e)))
    ∙ ap (λ b. nat_eq c.row r && not (is_new cs c e) && not b) (sym (i.gone t))
    ∙ turn_and (nat_eq c.row r) (not (is_new cs c e)) (not (is_old cs c t))

or_false : (b : Bool) → (b || false) ≡ b
or_false true = refl
or_false false = refl

pub any_more : {X : Type 0} (p : X → Bool) (xs : List X) (x : X) → list_any p (xs ++ x ∷ []) ≡ (list_any p xs || p x)
any_more p xs x = list_any-append p xs (x ∷ []) ∙ ap (λ b. list_any p xs || b) (or_false (p x))

told_more : (cs ss : List Commit) (ps : List Place) (c : Commit) (p : Place) → Tell cs ss ps → IsPlaceOf cs c p → Tell cs (ss ++ c ∷ []) (ps ++ p ∷ [])
told_more cs ss ps c p t i = record {
  stands = λ r e u. any_more (stands_one r e u) ps p ∙ ap (λ b. b || stands_one r e u p) (t.stands r e u)
      ∙ ap (λ b. list_any (λ d. nat_eq d.row r && not (is_old cs d u) && not (is_new cs d e)) ss || b) (one_told cs c p r e u i)
      ∙ sym (any_more (λ d. nat_eq d.row r && not (is_old cs d u) && not (is_new cs d e)) ss c);
  rows = λ r. any_more (λ q. nat_eq q.row r) ps p ∙ ap (λ b. b || nat_eq p.row r) (t.rows r)
      ∙ ap (λ n. list_any (λ d. nat_eq d.row r) ss || nat_eq n r) i.row ∙ sym (any_more (λ d. nat_eq d.row r) ss c);
}

pub told_step : (cs ss : List Commit) (i : ℕ) (d : Commit) (ps qs : List Place) (p : Place) → i < length ss → Tell cs (take i ss) ps →
    IsPlaceOf cs (get_or ss i d) p → qs ≡ ps ++ p ∷ [] → Tell cs (take (i + 1) ss) qs
told_step cs ss i d ps qs p l t o e =
    subst (λ us. Tell cs us qs) (sym (take_more ss i d l)) (subst (Tell cs (take i ss ++ get_or ss i d ∷ [])) (sym e) (told_more cs (take i ss) ps (get_or ss i d) p t o))
