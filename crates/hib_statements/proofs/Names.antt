-- The place of a query by its name among the names of queries.
use Rattle.std.proofs.Common.{◌≡◌, ℕ, not, List, [], ◌∷◌, position, bytes_eq, refl}
use Rattle.std.specs.List.{prefix_len}
use Rattle.std.proofs.lemmas.List.{length-map}
use Rattle.hib_base.specs.declared.scripts.Query.{Query}
use Rattle.hib_statements.specs.Statements.{names_of}

prefix_of_names : (qs : List Query) (w : List ℕ) → prefix_len (λ v. not (bytes_eq v w)) (names_of qs) ≡ prefix_len (λ q. not (bytes_eq q.name w)) qs
prefix_of_names [] w = refl
prefix_of_names (q ∷ qs) w = rw (prefix_of_names qs w) refl

pub position_of_names : (qs : List Query) (w : List ℕ) → position (λ v. bytes_eq v w) (names_of qs) ≡ position (λ q. bytes_eq q.name w) qs
position_of_names qs w = rw (prefix_of_names qs w, length-map) refl
