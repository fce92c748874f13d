-- Keys: when two are the same, and which comes first.
use Rattle.std.specs.Prelude.{Bool, ◌&&◌, ◌||◌, ◌==◌, nat_lt}
use Rattle.hib_base.specs.Types.{Key}

abbrev pub same_key : Key → Key → Bool
same_key a b = (a.entity == b.entity) && (a.id == b.id)

-- a comes before b: by entity, then by identifier
abbrev pub is_before : Key → Key → Bool
is_before a b = nat_lt a.entity b.entity || ((a.entity == b.entity) && nat_lt a.id b.id)
