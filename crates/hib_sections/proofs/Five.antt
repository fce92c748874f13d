-- A line of five tokens.
use Rattle.std.proofs.Common.{◌≡◌, ◌<◌, ◌≤◌, List, [], ◌∷◌, length, slice_index_or, refl, arith}
use Rattle.hib_base.specs.declared.scripts.EntityDef.{EntityDef}
use Rattle.hib_lex.specs.declared.lexer.Token.{Token}
use Rattle.hib_collections_law.specs.declared.entries.Def.{Def}
use Rattle.hib_sections.specs.Collections.{declared_by, declared_in}

pub five : (m : List EntityDef) (ds : List Def) (ts : List Token) (n e c k : Token) → 5 ≤ length ts → length ts < 6 →
    n ≡ slice_index_or ts 1 n → e ≡ slice_index_or ts 2 e → c ≡ slice_index_or ts 3 c → k ≡ slice_index_or ts 4 k → declared_by m ds n e c k ≡ declared_in m ds ts
five m ds [] n e c k h b p q r s = absurd (omega (arith, h))
five m ds (t ∷ []) n e c k h b p q r s = absurd (omega (arith, h))
five m ds (t ∷ u ∷ []) n e c k h b p q r s = absurd (omega (arith, h))
five m ds (t ∷ u ∷ v ∷ []) n e c k h b p q r s = absurd (omega (arith, h))
five m ds (t ∷ u ∷ v ∷ w ∷ []) n e c k h b p q r s = absurd (omega (arith, h))
five m ds (t ∷ u ∷ v ∷ w ∷ x ∷ []) n e c k h b p q r s =
    let name : n ≡ u = p in
    let entity : e ≡ v = q in
    let column : c ≡ w = r in
    let capacity : k ≡ x = s in
    rw (name, entity, column, capacity) refl
five m ds (t ∷ u ∷ v ∷ w ∷ x ∷ y ∷ ts) n e c k h b p q r s = absurd (omega (arith, b))
