-- One token more of cells and of pairs.
use Rattle.std.proofs.Common.{◌≡◌, ℕ, suc, ◌+◌, ◌-◌, ◌<◌, ◌≤◌, true, ◌&&◌, List, [], ◌∷◌, ◌++◌, length, take, drop, get_or, Option, Some, None, option_map, refl, ap, sym, ◌∙◌, arith, add-one, drop-cons, append_assoc}
use Rattle.std.proofs.lemmas.List.{drop_all, append-nil, take_all, length-drop}
use Rattle.hib_base.specs.declared.rows.Cell.{Cell}
use Rattle.hib_base.specs.declared.scripts.ColumnDef.{ColumnDef}
use Rattle.hib_lex.specs.declared.lexer.Token.{Token}
use Rattle.hib_mapping.specs.Cells.{cell_of, has_type}
use Rattle.hib_statements.specs.declared.parts.Draft.{Draft}
use Rattle.hib_base.specs.declared.scripts.EntityDef.{EntityDef}
use Rattle.hib_statements.specs.Statements.{persist_of, persist_parts, set_of, set_parts}
use Rattle.hib_statements.specs.Parts.{cells_of, before_cells, are_typed, pairs_from, with_token, ended}

-- the cells of the tokens that are left, after those so far
abbrev pub cells_behind : List Cell → Option (List Cell) → Option (List Cell)
cells_behind done rest = option_map (λ cs. done ++ cs) rest

joined : (done : List Cell) (c : Cell) (rest : Option (List Cell)) → cells_behind done (before_cells (Some c) rest) ≡ cells_behind (done ++ c ∷ []) rest
joined done c None = refl
joined done c (Some cs) = ap Some (rw append_assoc refl)

pub cells_more : (ts : List Token) (i : ℕ) (t : Token) (c : Cell) (done : List Cell) → i < length ts → Some c ≡ cell_of (get_or ts i t) → cells_behind done (cells_of (drop i ts)) ≡ cells_behind (done ++ c ∷ []) (cells_of (drop (i + 1) ts))
cells_more ts i t c done h e = rw (add-one, drop-cons ts i t) (rw (← e) (joined done c (cells_of (drop (suc i) ts))))

pub cells_bad : (ts : List Token) (i : ℕ) (t : Token) (done : List Cell) → i < length ts → None ≡ cell_of (get_or ts i t) → cells_behind done (cells_of (drop i ts)) ≡ None
cells_bad ts i t done h e = rw (drop-cons ts i t) (rw (← e) refl)

pub cells_done : (ts : List Token) (i : ℕ) (done : List Cell) → length ts ≤ i → cells_behind done (cells_of (drop i ts)) ≡ Some done
cells_done ts i done h = rw (drop_all i ts h) (ap Some (append-nil done))

pub typed_next : (ds : List ColumnDef) (cs : List Cell) (i : ℕ) (d : ColumnDef) (c : Cell) → i < length ds → i < length cs → are_typed (drop i ds) (drop i cs) ≡ has_type (get_or ds i d).kind (get_or cs i c) && are_typed (drop (i + 1) ds) (drop (i + 1) cs)
typed_next ds cs i d c h k = rw (add-one, drop-cons ds i d, drop-cons cs i c) refl

pub typed_done : (ds : List ColumnDef) (cs : List Cell) (i : ℕ) → length ds ≤ i → are_typed (drop i ds) (drop i cs) ≡ true
typed_done ds cs i h = rw (drop_all i ds h) refl

pub pairs_next : (ds : List ColumnDef) (p : Draft) (ts : List Token) (i : ℕ) (t : Token) → i < length ts → pairs_from ds (Some p) (drop i ts) ≡ pairs_from ds (with_token ds p (get_or ts i t)) (drop (i + 1) ts)
pairs_next ds p ts i t h = rw (add-one, drop-cons ts i t) refl

pub pairs_done : (ds : List ColumnDef) (p : Draft) (ts : List Token) (i : ℕ) → length ts ≤ i → pairs_from ds (Some p) (drop i ts) ≡ ended p
pairs_done ds p ts i h = rw (drop_all i ts h) refl

-- the tokens of a line from the fourth on, as code takes them
pub from_fourth : (ts : List Token) → take (length ts - 3) (drop 3 ts) ≡ drop 3 ts
from_fourth ts = take_all (length ts - 3) (drop 3 ts) (simp length-drop (omega arith))

persist_split : (m : List EntityDef) (ts : List Token) (a b : Token) → 3 ≤ length ts → a ≡ get_or ts 1 a → b ≡ get_or ts 2 b → persist_of m ts ≡ persist_parts m a b (drop 3 ts)
persist_split m [] a b h e f = absurd (omega (arith, h))
persist_split m (x ∷ []) a b h e f = absurd (omega (arith, h))
persist_split m (x ∷ y ∷ []) a b h e f = absurd (omega (arith, h))
persist_split m (x ∷ y ∷ z ∷ ts) a b h e f = rw (e, f) refl

pub persist_long : (m : List EntityDef) (ts : List Token) (a b : Token) → 3 ≤ length ts → a ≡ get_or ts 1 a → b ≡ get_or ts 2 b → persist_of m ts ≡ persist_parts m a b (take (length ts - 3) (drop 3 ts))
persist_long m ts a b h e f = persist_split m ts a b h e f ∙ ap (persist_parts m a b) (sym (from_fourth ts))

set_split : (m : List EntityDef) (ts : List Token) (a b : Token) → 3 ≤ length ts → a ≡ get_or ts 1 a → b ≡ get_or ts 2 b → set_of m ts ≡ set_parts m a b (drop 3 ts)
set_split m [] a b h e f = absurd (omega (arith, h))
set_split m (x ∷ []) a b h e f = absurd (omega (arith, h))
set_split m (x ∷ y ∷ []) a b h e f = absurd (omega (arith, h))
set_split m (x ∷ y ∷ z ∷ ts) a b h e f = rw (e, f) refl

pub set_long : (m : List EntityDef) (ts : List Token) (a b : Token) → 3 ≤ length ts → a ≡ get_or ts 1 a → b ≡ get_or ts 2 b → set_of m ts ≡ set_parts m a b (take (length ts - 3) (drop 3 ts))
set_long m ts a b h e f = set_split m ts a b h e f ∙ ap (set_parts m a b) (sym (from_fourth ts))
