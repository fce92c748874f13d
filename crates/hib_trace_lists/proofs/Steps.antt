-- Loads of lists, one call after the other.
use Rattle.std.proofs.Common.{◌≡◌, ◌≤◌, ◌<◌, ◌+◌, inl, inr, ℕ, zero, suc, Bool, Option, None, Some, List, [], ◌∷◌, length, get_or, take, refl, ◌∙◌, ap, arith}
use Rattle.std.specs.Prelude.{◌||◌, Vec}
use Rattle.std.specs.List.{AllZip, list_any}
use Rattle.std.specs.declared.alloc.Global.{Global}
use Rattle.std.proofs.lemmas.Bool.{le-ltb, lt-ltb, not_from_false, not_from_true}
use Rattle.std.proofs.lemmas.List.{take_more}
use Rattle.hib_trace_law.specs.declared.commits.Commit.{Commit}
use Rattle.hib_trace_law.specs.Certain.{ended_before}
use Rattle.hib_trace_calls.specs.declared.calls.Call.{Call}
use Rattle.hib_traces.specs.Places.{stands_by}
use Rattle.hib_traces.specs.declared.marks.Mark.{Mark}
use Rattle.hib_traces.specs.declared.places.Place.{Place}
use Rattle.hib_traces.proofs.Told.{any_more}
use Rattle.hib_trace_lists.specs.Lists.{IsOldList, IsOpenList, changed_on, may_be_fresh}
use Rattle.hib_trace_lists.specs.Loads.{AreAllInOrder, AreStairs, IsChanges, IsOrdered, TellChanges, TellLoads}

-- ---- one element more

pub any_step : {X : Type 0} (p : X → Bool) (xs : List X) (i : ℕ) (d : X) → i < length xs →
    list_any p (take (i + 1) xs) ≡ (list_any p (take i xs) || p (get_or xs i d))
any_step p xs i d l = ap (list_any p) (take_more xs i d l) ∙ any_more p (take i xs) (get_or xs i d)

-- ---- pairs of lists

zip_at : {A B : Type 0} (R : A → B → Type 0) (xs : List A) (ys : List B) (k : ℕ) (d : A) (e : B) → AllZip R xs ys → k < length ys →
    R (get_or xs k d) (get_or ys k e)
zip_at R xs [] k d e p l = absurd (omega (arith, l))
zip_at R [] (w ∷ ys) k d e p l = absurd p
zip_at R (v ∷ xs) (w ∷ ys) zero d e p l = p.0
zip_at R (v ∷ xs) (w ∷ ys) (suc k) d e p l = zip_at R xs ys k d e p.1 (omega (arith, l))

pub zip_count : {A B : Type 0} (R : A → B → Type 0) (xs : List A) (ys : List B) → AllZip R xs ys → length ys ≡ length xs
zip_count R [] [] p = refl
zip_count R [] (w ∷ ys) p = absurd p
zip_count R (v ∷ xs) [] p = absurd p
zip_count R (v ∷ xs) (w ∷ ys) p = ap suc (zip_count R xs ys p.1)

some_of : {X : Type 0} (xs : List X) (k : ℕ) → k < length xs → X
some_of [] k l = absurd (omega (arith, l))
some_of (x ∷ xs) k l = x

abbrev pub Changes : Vec Commit Global → Vec Mark Global → Type 0
Changes f m = IsChanges f.items m.items

module _ (fs : List (Vec Commit Global)) (ms : List (Vec Mark Global)) (z : AllZip Changes fs ms) where
  pub are_stairs : AreStairs ms
  are_stairs k d l =
      (zip_at Changes fs ms k (some_of fs k (omega (arith, l, zip_count Changes fs ms z))) d z l).stairs

  pub tell_changes : (of : ℕ → List Commit) → ((k : ℕ) (d : Vec Commit Global) → k < length fs → (get_or fs k d).items ≡ of k) → TellChanges of ms
  tell_changes of f k s t d l =
      let m : k < length fs = omega (arith, l, zip_count Changes fs ms z) in
      let v : Vec Commit Global = some_of fs k m in
      (zip_at Changes fs ms k v d z l).tell s t ∙ ap (λ (cs : List Commit). changed_on cs s t) (f k v m)

abbrev pub Ordered : Vec Place Global → Vec Place Global → Type 0
Ordered f p = IsOrdered f.items p.items

module _ (fs vs : List (Vec Place Global)) (z : AllZip Ordered fs vs) where
  pub all_in_order : AreAllInOrder vs
  all_in_order k d l = (zip_at Ordered fs vs k (some_of fs k (omega (arith, l, zip_count Ordered fs vs z))) d z l).order

  pub tell_loads : (clock : ℕ) (of : ℕ → List Commit) (cs : List Call) → TellLoads clock of cs fs → TellLoads clock of cs vs
  tell_loads clock of cs t k r e u d l =
      let m : k < length fs = omega (arith, l, zip_count Ordered fs vs z) in
      let v : Vec Place Global = some_of fs k m in
      (zip_at Ordered fs vs k v d z l).alike.stands r e u ∙ t k r e u v m

-- ---- what is told of a list

module _ (clock : ℕ) (of : ℕ → List Commit) (cs : List Call) (k r since e : ℕ) (o : Option (Option ℕ))
    (f : (t : ℕ) → may_be_fresh clock of cs k r e t ≡ stands_by o t) where
  pub never_loaded : o ≡ None → IsOpenList clock of cs k r since e
  never_loaded p = inr (f 0 ∙ ap (λ x. stands_by x 0) p)

  pub never_gone : o ≡ Some None → IsOpenList clock of cs k r since e
  never_gone p = inl (f since ∙ ap (λ x. stands_by x since) p)

  pub gone_later : (g : ℕ) → o ≡ Some (Some g) → since ≤ g → IsOpenList clock of cs k r since e
  gone_later g p l = inl (f since ∙ ap (λ x. stands_by x since) p ∙ not_from_false (ended_before (Some g) since) (le-ltb g since l))

  pub gone_before : (g : ℕ) → o ≡ Some (Some g) → g < since → IsOldList clock of cs k r since e g
  gone_before g p l = record {
    before = l;
    until = f g ∙ ap (λ x. stands_by x g) p ∙ not_from_false (ended_before (Some g) g) (le-ltb g g (omega arith));
    gone = f (g + 1) ∙ ap (λ x. stands_by x (g + 1)) p ∙ not_from_true (ended_before (Some g) (g + 1)) (lt-ltb g (g + 1) (omega arith));
  }
