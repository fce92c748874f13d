-- The queries that a session asks are there.
use Rattle.std.proofs.Common.{◌≡◌, ℕ, ◌<◌, Bool, true, false, ◌||◌, List, [], ◌∷◌, Some, None, Option, refl, subst}
use Rattle.std.specs.Prelude.{slice_get}
use Rattle.std.specs.Option.{option_map_or}
use Rattle.std.specs.List.{list_all, list_any}
use Rattle.std.proofs.lemmas.Bool.{and_parts, ltb-true, eqb-true, false≢true}
use Rattle.hib_base.specs.Scripts.{is_known, lists_known}
use Rattle.hib_base.proofs.Lists.{all_at}
use Rattle.hib_journal.specs.Types.{Statement, SessionDef}
use Rattle.hib_journal.specs.Due.{asks}

known_one : (n q : ℕ) (t : Statement) → is_known n t ≡ true → asks q t ≡ true → q < n
known_one n q (Statement.List r) p a = subst (λ m. m < n) (eqb-true r q a) (ltb-true r n p)
known_one n q _ p a = absurd (false≢true a)

known_in : (n q : ℕ) (ts : List Statement) → list_all (λ t. is_known n t) ts ≡ true → list_any (λ t. asks q t) ts ≡ true → q < n
known_in n q [] p a = absurd (false≢true a)
known_in n q (t ∷ ts) p a =
    let both : (is_known n t ≡ true) × (list_all (λ u. is_known n u) ts ≡ true) = and_parts (is_known n t) (list_all (λ u. is_known n u) ts) p in
    by_test (asks q t) refl a both.0 (λ w. known_in n q ts both.1 w)
  where
    by_test : (b : Bool) → asks q t ≡ b → (b || list_any (λ u. asks q u) ts) ≡ true → is_known n t ≡ true → (list_any (λ u. asks q u) ts ≡ true → q < n) → q < n
    by_test true e w k f = known_one n q t k e
    by_test false e w k f = f w

pub known_by : (n q s : ℕ) (ds : List SessionDef) → list_all (λ d. lists_known n d) ds ≡ true → list_any (λ t. asks q t) (option_map_or (λ d. d.statements) (slice_get ds s) []) ≡ true → q < n
known_by n q s ds p a = by_slot (slice_get ds s) refl a
  where
    by_slot : (o : Option SessionDef) → slice_get ds s ≡ o → list_any (λ t. asks q t) (option_map_or (λ d. d.statements) o []) ≡ true → q < n
    by_slot None e w = absurd (false≢true w)
    by_slot (Some d) e w = known_in n q d.statements (all_at (λ d. lists_known n d) ds s d p e) w
