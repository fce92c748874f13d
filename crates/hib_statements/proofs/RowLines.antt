-- The tokens of a row line from the fourth on.
use Rattle.std.proofs.Common.{◌≡◌, ◌-◌, ◌≤◌, List, [], ◌∷◌, length, take, drop, get_or, refl, ap, sym, ◌∙◌, arith}
use Rattle.hib_base.specs.declared.numbers.Key.{Key}
use Rattle.hib_base.specs.declared.rows.Row.{Row}
use Rattle.hib_base.specs.declared.scripts.EntityDef.{EntityDef}
use Rattle.hib_lex.specs.declared.lexer.Token.{Token}
use Rattle.hib_statements.proofs.Cells.{from_fourth}
use Rattle.hib_statements.specs.Rows.{row_of, row_parts}

row_split : (m : List EntityDef) (rows : List (Key × Row)) (ts : List Token) (a b : Token) → 3 ≤ length ts → a ≡ get_or ts 1 a → b ≡ get_or ts 2 b → row_of m rows ts ≡ row_parts m rows a b (drop 3 ts)
row_split m rows [] a b h e f = absurd (omega (arith, h))
row_split m rows (x ∷ []) a b h e f = absurd (omega (arith, h))
row_split m rows (x ∷ y ∷ []) a b h e f = absurd (omega (arith, h))
row_split m rows (x ∷ y ∷ z ∷ ts) a b h e f = rw (e, f) refl

pub row_long : (m : List EntityDef) (rows : List (Key × Row)) (ts : List Token) (a b : Token) → 3 ≤ length ts → a ≡ get_or ts 1 a → b ≡ get_or ts 2 b → row_of m rows ts ≡ row_parts m rows a b (take (length ts - 3) (drop 3 ts))
row_long m rows ts a b h e f = row_split m rows ts a b h e f ∙ ap (row_parts m rows a b) (sym (from_fourth ts))
