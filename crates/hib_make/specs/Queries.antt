-- The queries of a made script.
use Rattle.std.specs.Prelude.{ℕ, Bool, true, false, List, [], ◌∷◌, Option, Some, None, codes}
use Rattle.hib_base.specs.declared.rows.Cell.{Cell}
use Rattle.hib_base.specs.declared.scripts.Op.{Op}
use Rattle.hib_base.specs.declared.scripts.Path.{Path}
use Rattle.hib_base.specs.declared.scripts.Cond.{Cond}
use Rattle.hib_base.specs.declared.scripts.Sort.{Sort}
use Rattle.hib_base.specs.declared.scripts.Select.{Select}
use Rattle.hib_base.specs.declared.scripts.Query.{Query}
use Rattle.hib_make.specs.Entities.{author, book, customer, order}
use Rattle.hib_make.specs.Rows.{number}

-- a column of the query's own entity
abbrev pub own : ℕ → Path
own c = record { column = c; target = None }

-- a column after a reference
abbrev pub behind : ℕ → ℕ → ℕ → Path
behind c entity column = record { column = c; target = Some (record { entity = entity; column = column }) }

-- the limits are those of a query that names none
abbrev pub query : List ℕ → Bool → ℕ → Option Cond → List Sort → Select → Query
query name cached entity condition order select =
    record { name = name; cached = cached; entity = entity; condition = condition; order = order; offset = 0; limit = 200; select = select }

-- by the column at place 2, stock
abbrev pub low : Query
low = query (codes "low") true book (Some (Cond.Test Op.Lt (own 2) (number 10))) (record { column = 2; desc = false } ∷ []) Select.Ids

-- by the column at place 1, credit
abbrev pub rich : Query
rich = query (codes "rich") true customer (Some (Cond.Test Op.Ge (own 1) (number 1500))) [] Select.Count

-- by the name of the author; title is at place 0
abbrev pub first : Query
first =
    query (codes "first") true book (Some (Cond.Test Op.Eq (behind 1 author 0) (Cell.Text (codes "author 1")))) [] (Select.Column 0)

abbrev pub orders : Query
orders = query (codes "orders") false order None [] Select.Count

abbrev pub made_queries : List Query
made_queries = low ∷ rich ∷ first ∷ orders ∷ []
