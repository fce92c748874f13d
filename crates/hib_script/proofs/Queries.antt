-- Queries and what they say: their names, how many there are, and one more.
use Rattle.std.proofs.Common.{◌≡◌, ℕ, List, [], ◌∷◌, ◌++◌, length, map, bytes_eq, refl, ap}
use Rattle.std.specs.List.{list_any}
use Rattle.std.proofs.lemmas.List.{length-map}
use Rattle.hib_base.specs.declared.scripts.Query.{Query}
use Rattle.hib_criteria.specs.Query.{said}
use Rattle.hib_statements.specs.Statements.{names_of}
use Rattle.hib_base.specs.Words.{has_name}
use Rattle.hib_script.specs.Outline.{query_names}

pub names_of_said : (qs : List Query) → query_names (map said qs) ≡ names_of qs
names_of_said [] = refl
names_of_said (q ∷ qs) = ap (λ names. q.name ∷ names) (names_of_said qs)

pub has_said : (qs : List Query) (w : List ℕ) → has_name (query_names (map said qs)) w ≡ list_any (λ q. bytes_eq q.name w) qs
has_said [] w = refl
has_said (q ∷ qs) w = rw (has_said qs w) refl

pub one_more_said : (qs : List Query) (q : Query) → map said (qs ++ q ∷ []) ≡ map said qs ++ said q ∷ []
one_more_said [] q = refl
one_more_said (p ∷ qs) q = ap (λ rest. said p ∷ rest) (one_more_said qs q)

pub as_many_said : (qs : List Query) → length (map said qs) ≡ length qs
as_many_said qs = simp length-map
