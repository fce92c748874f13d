-- What a query says, so that no place in memory is spoken of.
use Rattle.std.specs.Prelude.{ℕ, Bool, List, [], ◌∷◌, ◌++◌, Option, Some, None}
use Rattle.hib_base.specs.declared.scripts.Cond.{Cond}
use Rattle.hib_base.specs.declared.scripts.Node.{Node}
use Rattle.hib_base.specs.declared.scripts.Query.{Query}
use Rattle.hib_base.specs.declared.scripts.Select.{Select}
use Rattle.hib_base.specs.declared.scripts.Sort.{Sort}

-- ---- conditions, as their parts in the order in which they are written
abbrev pub parts_of : Cond → List Node
parts_of (Cond.And' p a q b) = Node.And ∷ (parts_of a ++ parts_of b)
parts_of (Cond.Or' p a q b) = Node.Or ∷ (parts_of a ++ parts_of b)
parts_of (Cond.Not' p a) = Node.Not ∷ parts_of a
parts_of (Cond.Test op path cell) = Node.Test op path cell ∷ []
parts_of (Cond.Among path cells) = Node.Among path cells ∷ []

abbrev pub parts_in : Option Cond → List Node
parts_in None = []
parts_in (Some c) = parts_of c

-- ---- what a query says, with its condition as its parts
pub record Said : Type 0 where
  pub name : List ℕ
  pub cached : Bool
  pub entity : ℕ
  pub parts : List Node
  pub order : List Sort
  pub offset : ℕ
  pub limit : ℕ
  pub select : Select

abbrev pub said : Query → Said
said q = record {
  name = q.name;
  cached = q.cached;
  entity = q.entity;
  parts = parts_in q.condition;
  order = q.order;
  offset = q.offset;
  limit = q.limit;
  select = q.select;
}
