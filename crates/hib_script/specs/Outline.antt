-- What a script says, with each query's condition as its parts, so that no place in memory is spoken of.
use Rattle.std.specs.Prelude.{ℕ, List, map}
use Rattle.hib_base.specs.declared.numbers.Key.{Key}
use Rattle.hib_base.specs.declared.rows.Row.{Row}
use Rattle.hib_base.specs.declared.scripts.EntityDef.{EntityDef}
use Rattle.hib_base.specs.declared.scripts.Order.{Order}
use Rattle.hib_base.specs.declared.scripts.Script.{Script}
use Rattle.hib_base.specs.declared.scripts.SessionDef.{SessionDef}
use Rattle.hib_criteria.specs.Query.{Said, said}

pub record Outline : Type 0 where
  pub timeout : ℕ
  pub results : ℕ
  pub mapping : List EntityDef
  pub rows : List (Key × Row)
  pub queries : List Said
  pub sessions : List SessionDef
  pub schedule : List Order

-- what a script says; of two scripts that say the same each part is the same
abbrev pub outline_of : Script → Outline
outline_of s = record {
  timeout = s.timeout;
  results = s.results;
  mapping = s.mapping;
  rows = s.rows;
  queries = map said s.queries;
  sessions = s.sessions;
  schedule = s.schedule;
}

abbrev pub query_names : List Said → List (List ℕ)
query_names qs = map (λ q. q.name) qs
