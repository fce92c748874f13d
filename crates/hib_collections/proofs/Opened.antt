-- Sessions that have done nothing, one after the other.
use Rattle.std.specs.Prelude.{slice_get}
use Rattle.std.proofs.Common.{◌≡◌, ◌⊎◌, ℕ, ◌+◌, ◌≤◌, List, [], ◌∷◌, ◌++◌, length, Some, sym, ap, ◌∙◌, subst, arith, inl, inr}
use Rattle.std.proofs.lemmas.List.{length-append}
use Rattle.hib_journal.specs.Types.{Script}
use Rattle.hib_session.specs.Session.{Follows, number_of}
use Rattle.hib_collections.specs.declared.members.Gatherer.{Gatherer}
use Rattle.hib_collections.specs.Notes.{AreNoted}
use Rattle.hib_collections.specs.Gatherers.{IsGatherer, AreGatherers}
use Rattle.hib_collections.proofs.Lists.{at_end}

-- n sessions that have done nothing, by their numbers
pub record AreOpened (n : ℕ) (script : Script) (ys : List Gatherer) : Type 0 where
  pub all : length ys ≡ n
  pub each : (s : ℕ) (y : Gatherer) → slice_get ys s ≡ Some y → IsGatherer script [] s y

pub opened_more : (n : ℕ) (script : Script) (xs : List Gatherer) (y : Gatherer) → AreOpened n script xs → number_of y.session ≡ n → Follows script y.session [] → AreNoted y.notes [] →
    AreOpened (n + 1) script (xs ++ y ∷ [])
opened_more n script xs y w e f v = record {
  all = length-append xs (y ∷ []) ∙ ap (λ m. m + 1) w.all;
  each = λ s z p. by_place s z (at_end xs y s z p);
}
  where
    by_place : (s : ℕ) (z : Gatherer) → (slice_get xs s ≡ Some z) ⊎ ((s ≡ length xs) × (z ≡ y)) → IsGatherer script [] s z
    by_place s z (inl q) = w.each s z q
    by_place s z (inr q) = subst (λ u. IsGatherer script [] s u) (sym q.1) (record { number = e ∙ sym (q.0 ∙ w.all); follows = f; noted = v })

pub all_opened : (n m : ℕ) (script : Script) (ys : List Gatherer) → n ≤ m → m ≤ n → m ≡ length script.sessions → AreOpened n script ys → AreGatherers script [] ys
all_opened n m script ys k l e w = record { all = omega (arith, w.all, k, l, e); each = w.each }
