-- Collections that lines declare are few, and of entities whose rows have versions.
use Rattle.std.proofs.Common.{◌≡◌, ◌<◌, ℕ, Bool, true, false, not, List, [], ◌∷◌, length, Option, Some, None, Result, Ok, Err, codes, refl, arith}
use Rattle.std.specs.Prelude.{nat_le, IfOk}
use Rattle.std.proofs.lemmas.Bool.Decides.{nat_tests}
use Rattle.std.proofs.lemmas.List.{length-append}
use Rattle.hib_base.specs.declared.refusals.Kind.{Kind}
use Rattle.hib_base.specs.declared.refusals.Refused.{Refused}
use Rattle.hib_base.specs.declared.scripts.EntityDef.{EntityDef}
use Rattle.hib_base.proofs.Gives.{Gives, gives_cond, given}
use Rattle.hib_base.proofs.Lists.{all_more}
use Rattle.hib_lex.specs.Words.{begins}
use Rattle.hib_lex.specs.declared.lexer.Token.{Token}
use Rattle.hib_lex.specs.declared.lines.Line.{Line}
use Rattle.hib_mapping.specs.Parts.{is_within, word_of, is_reserved, entity_at}
use Rattle.hib_collections_law.specs.declared.entries.Def.{Def}
use Rattle.hib_sections.specs.Collections.{has_column, has_name, is_versioned, reference, at_column, if_known, declared_by, is_form, declared_in, place_of, named, if_placed, collection_of, with_collection, with_line, declaring, unless_other, collections_of, AreFit}
use Rattle.hib_sections.specs.Schedules.{other_order}
use Rattle.hib_sections.specs.declared.collections.Place.{Place}
use Rattle.hib_script.specs.declared.errors.ScriptError.{ScriptError}

-- ---- one collection
pub record IsFit (m : List EntityDef) (ds : List Def) (e : ℕ) : Type 0 where
  pub room : length ds < 64
  pub versioned : is_versioned m e ≡ true

abbrev Fits : List EntityDef → List Def → Place → Type 0
Fits m ds p = IsFit m ds p.entity

abbrev DefFits : List EntityDef → List Def → Def → Type 0
DefFits m ds d = IsFit m ds d.entity

room_left : (n : ℕ) → nat_le 64 n ≡ false → n < 64
room_left n e = grind (arith, nat_tests)

no_not : (b : Bool) → not b ≡ false → b ≡ true
no_not true e = refl
no_not false e = absurd (cc)

at_fit : (m : List EntityDef) (ds : List Def) (capacity : Token) (e c : ℕ) → Gives (at_column m ds capacity e c) (Fits m ds)
at_fit m ds capacity e c =
    gives_cond (has_column e c ds) _ _ (Fits m ds) (λ t. tt)
    (λ t. gives_cond (not (is_within 1 100000 capacity)) _ _ (Fits m ds) (λ w. tt)
    (λ w. gives_cond (not (is_versioned m e)) _ _ (Fits m ds) (λ v. tt)
    (λ v. gives_cond (nat_le 64 (length ds)) _ _ (Fits m ds) (λ r. tt)
    (λ r. record { room = room_left (length ds) r; versioned = no_not (is_versioned m e) v }))))

known_fit : (m : List EntityDef) (ds : List Def) (capacity : Token) (e c : Option ℕ) → Gives (if_known m ds capacity e c) (Fits m ds)
known_fit m ds capacity (Some e) (Some c) = at_fit m ds capacity e c
known_fit m ds capacity (Some e) None = tt
known_fit m ds capacity None c = tt

by_fit : (m : List EntityDef) (ds : List Def) (name entity column capacity : Token) → Gives (declared_by m ds name entity column capacity) (Fits m ds)
by_fit m ds name entity column capacity =
    gives_cond (not (is_form name entity column capacity)) _ _ (Fits m ds) (λ f. tt)
    (λ f. gives_cond (is_reserved (word_of name)) _ _ (Fits m ds) (λ r. tt)
    (λ r. gives_cond (has_name (word_of name) ds) _ _ (Fits m ds) (λ t. tt)
    (λ t. known_fit m ds capacity (entity_at m (word_of entity)) (reference m (entity_at m (word_of entity)) (word_of column)))))

in_fit : (m : List EntityDef) (ds : List Def) (ts : List Token) → Gives (declared_in m ds ts) (Fits m ds)
in_fit m ds (a ∷ name ∷ entity ∷ column ∷ capacity ∷ []) = by_fit m ds name entity column capacity
in_fit m ds [] = tt
in_fit m ds (a ∷ []) = tt
in_fit m ds (a ∷ b ∷ []) = tt
in_fit m ds (a ∷ b ∷ c ∷ []) = tt
in_fit m ds (a ∷ b ∷ c ∷ d ∷ []) = tt
in_fit m ds (a ∷ b ∷ c ∷ d ∷ e ∷ f ∷ ts) = tt

place_fit : (m : List EntityDef) (ds : List Def) (ts : List Token) → Gives (place_of m ds ts) (Fits m ds)
place_fit m ds ts = gives_cond (begins (codes "collection") ts) _ _ (Fits m ds) (λ b. in_fit m ds ts) (λ b. tt)

named_fit : (m : List EntityDef) (ds : List Def) (ts : List Token) (p : Place) → Fits m ds p → Gives (named ts p) (DefFits m ds)
named_fit m ds [] p f = tt
named_fit m ds (a ∷ []) p f = tt
named_fit m ds (a ∷ b ∷ ts) p f = f

placed_fit : (m : List EntityDef) (ds : List Def) (ts : List Token) (r : Result Place Kind) → Gives r (Fits m ds) → Gives (if_placed ts r) (DefFits m ds)
placed_fit m ds ts (Err k) g = tt
placed_fit m ds ts (Ok p) g = named_fit m ds ts p g

one_fit : (m : List EntityDef) (ds : List Def) (ts : List Token) → Gives (collection_of m ds ts) (DefFits m ds)
one_fit m ds ts = placed_fit m ds ts (place_of m ds ts) (place_fit m ds ts)

-- ---- all lines
more_fit : (m : List EntityDef) (ds : List Def) (n : ℕ) (r : Result Def Kind) → AreFit m ds → Gives r (DefFits m ds) → Gives (with_collection ds n r) (AreFit m)
more_fit m ds n (Err k) f g = tt
more_fit m ds n (Ok d) f g = record {
  few = omega (arith, g.room, length-append ds (d ∷ []));
  versioned = all_more (λ e. is_versioned m e.entity) ds d f.versioned g.versioned;
}

lines_fit : (m : List EntityDef) (r : Result (List Def) Refused) (ls : List Line) → Gives r (AreFit m) → Gives (declaring m r ls) (AreFit m)
lines_fit m (Err x) ls g = tt
lines_fit m (Ok ds) [] g = g
lines_fit m (Ok ds) (l ∷ ls) g = lines_fit m (with_line m ds l) ls (more_fit m ds l.line (collection_of m ds l.tokens) g (one_fit m ds l.tokens))

unless_fit : (m : List EntityDef) (o : Option ℕ) (r : Result (List Def) Refused) → Gives r (AreFit m) → Gives (unless_other o r) (AreFit m)
unless_fit m (Some n) r g = tt
unless_fit m None r g = g

pub are_fit : (m : List EntityDef) (before behind : List Line) (x : Result (List Def) ScriptError) → IfOk x (λ ds. collections_of m before behind ≡ Ok ds) → IfOk x (AreFit m)
are_fit m before behind (Err e) h = tt
are_fit m before behind (Ok ds) h =
    given (collections_of m before behind) (AreFit m) ds
    (unless_fit m (other_order before) (declaring m (Ok []) behind) (lines_fit m (Ok []) behind record { few = omega arith; versioned = refl })) h
