-- A closure may be shared among threads if all that it captures may.
use mathlib.Core.List.{[], ◌∷◌}
use mir.Syntax.{Sym}
use denote.RattleType.{RattleType}
use denote.Struct.Field.{row_field}
use denote.Struct.Tuple.{type_at, TupleAt}
use denote.Param.Send.{IsSync}
use denote.Param.SendFields.{as_row_sync, declared_sync}

pub five_sync : (ν : Sym) (A B C D E : RattleType) → IsSync A → IsSync B → IsSync C → IsSync D → IsSync E → IsSync (TupleAt ν (A ∷ B ∷ C ∷ D ∷ E ∷ []))
five_sync ν A B C D E a b c d e = declared_sync (type_at ν (A ∷ B ∷ C ∷ D ∷ E ∷ [])) (
  as_row_sync (row_field A) a,
  (as_row_sync (row_field B) b, (as_row_sync (row_field C) c, (as_row_sync (row_field D) d, (as_row_sync (row_field E) e, tt)))),
)
