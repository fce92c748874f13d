-- Bulk lines that were read are few, and step to entities of the mapping alone; what is cached is cached under soft locks.
use Rattle.std.proofs.Common.{◌≡◌, ◌<◌, ◌≤◌, ◌==◌, ◌&&◌, ◌||◌, ℕ, zero, suc, Bool, true, false, not, nat_lt, List, [], ◌∷◌, length, Option, Some, None, Result, Ok, Err, codes, refl, subst, sym, ◌∙◌, ap, arith}
use Rattle.std.specs.Prelude.{nat_le, map, slice_get, IfOk, bytes_eq}
use Rattle.std.specs.Option.{option_map_or}
use Rattle.std.specs.List.{list_all}
use Rattle.std.proofs.lemmas.Bool.{and_parts, and_from, ltb-true, eqb-true, false≢true}
use Rattle.std.proofs.lemmas.Bool.Decides.{nat_tests}
use Rattle.std.proofs.lemmas.List.{length-append, length-map}
use Rattle.hib_base.specs.declared.refusals.Kind.{Kind}
use Rattle.hib_base.specs.declared.refusals.Refused.{Refused}
use Rattle.hib_base.specs.declared.scripts.Cond.{Cond}
use Rattle.hib_base.specs.declared.scripts.EntityDef.{EntityDef}
use Rattle.hib_base.specs.declared.scripts.Node.{Node}
use Rattle.hib_base.specs.declared.scripts.Order.{Order}
use Rattle.hib_base.specs.declared.scripts.Path.{Path}
use Rattle.hib_base.specs.declared.scripts.Target.{Target}
use Rattle.hib_base.specs.declared.scripts.SessionDef.{SessionDef}
use Rattle.hib_base.specs.Queries.{parts_in, parts_of}
use Rattle.hib_base.proofs.Gives.{Gives, gives_cond, given, Then}
use Rattle.hib_base.proofs.Lists.{all_at, all_more}
use Rattle.hib_journal.specs.Query.{mentions}
use Rattle.hib_lex.specs.Words.{begins}
use Rattle.hib_lex.specs.declared.lexer.Token.{Token}
use Rattle.hib_lex.specs.declared.lines.Line.{Line}
use Rattle.hib_lex.specs.declared.lines.Lines.{Lines}
use Rattle.hib_mapping.specs.Parts.{is_a_word, word_of, entity_at}
use Rattle.hib_mapping.proofs.Places.{placed}
use Rattle.hib_bulk_law.specs.declared.bulks.BulkChange.{BulkChange}
use Rattle.hib_bulk_law.specs.declared.bulks.BulkDef.{BulkDef}
use Rattle.hib_bulk_law.specs.declared.bulks.Bulks.{Bulks}
use Rattle.hib_statements.specs.Orders.{order_of}
use Rattle.hib_sections.specs.Before.{fault_before}
use Rattle.hib_sections.specs.BulkLines.{BulkSaid, said_of, bulk_of, if_changing, if_known, with_parts, changing_in, before_where, condition_in, is_taken, is_words, is_unknown, is_mistyped, is_step_within, is_within}
use Rattle.hib_sections.specs.Bulks.{Read, AreFit, after, after_at, after_lines, bulk_line_of, bulks_of, ended, ended_at, in_schedule, reading, start, with_line, with_order}
use Rattle.hib_sections.specs.Sections.{alone, at_line, unless_before}
use Rattle.hib_sections.specs.declared.bulk_lines.Changing.{Changing}
use Rattle.hib_sections.specs.declared.bulks.Place.{Place}
use Rattle.hib_script.specs.declared.errors.ScriptError.{ScriptError}
use Rattle.hib_sections.proofs.Locked.{locked}
use Rattle.hib_sections.proofs.Within.{both}

-- ---- one line
-- a line reads entities of the mapping alone
abbrev is_inside : List EntityDef → BulkSaid → Bool
is_inside m d = nat_lt d.entity (length m) && list_all (is_within (length m)) d.parts

pub record IsFit (m : List EntityDef) (count : ℕ) (d : BulkSaid) : Type 0 where
  pub room : count < 100
  pub inside : is_inside m d ≡ true

room_left : (n : ℕ) → nat_le 100 n ≡ false → n < 100
room_left n e = grind (arith, nat_tests)

no_not : (b : Bool) → not b ≡ false → b ≡ true
no_not true e = refl
no_not false e = absurd (cc)

parts_fit : (m : List EntityDef) (count : ℕ) (name : List ℕ) (e : ℕ) (change : BulkChange) (r : Result (List Node) Kind) → nat_lt e (length m) ≡ true → Gives (with_parts m count name e change r) (IsFit m count)
parts_fit m count name e change (Err k) l = tt
parts_fit m count name e change (Ok ns) l =
    gives_cond (not (list_all (is_within (length m)) ns)) _ _ (IsFit m count) (λ w. tt)
    (λ w. gives_cond (nat_le 100 count) _ _ (IsFit m count) (λ r. tt)
    (λ r. record { room = room_left count r; inside = and_from (nat_lt e (length m)) (list_all (is_within (length m)) ns) l (no_not (list_all (is_within (length m)) ns) w) }))

known_fit : (m : List EntityDef) (count : ℕ) (name : List ℕ) (e : Option ℕ) (x : Changing) (r : Result (List Node) Kind) → Then e (λ n. nat_lt n (length m) ≡ true) → Gives (if_known m count name e x r) (IsFit m count)
known_fit m count name None x r l = tt
known_fit m count name (Some e) x r l =
    gives_cond (x.is_unknown || is_unknown r) _ _ (IsFit m count) (λ u. tt)
    (λ u. gives_cond (x.is_mistyped || is_mistyped r) _ _ (IsFit m count) (λ t. tt)
    (λ t. parts_fit m count name e x.change r l))

changing_fit : (m : List EntityDef) (named : List SessionDef) (count : ℕ) (name : List ℕ) (e : Option ℕ) (x : Option Changing) (r : Result (List Node) Kind) → Then e (λ n. nat_lt n (length m) ≡ true) →
    Gives (if_changing m named count name e x r) (IsFit m count)
changing_fit m named count name e None r l = tt
changing_fit m named count name e (Some x) r l =
    gives_cond (is_words r) _ _ (IsFit m count) (λ w. tt)
    (λ w. gives_cond (is_taken named name x) _ _ (IsFit m count) (λ t. tt)
    (λ t. known_fit m count name e x r l))

one_fit : (sets : Bool) (m : List EntityDef) (named : List SessionDef) (count : ℕ) (ts : List Token) → Gives (bulk_of sets m named count ts) (IsFit m count)
one_fit sets m named count [] = tt
one_fit sets m named count (a ∷ []) = tt
one_fit sets m named count (a ∷ b ∷ []) = tt
one_fit sets m named count (a ∷ name ∷ entity ∷ ts) =
    gives_cond (is_a_word name && is_a_word entity) _ _ (IsFit m count)
    (λ w. changing_fit m named count (word_of name) (entity_at m (word_of entity)) (changing_in sets m (entity_at m (word_of entity)) (before_where ts)) (condition_in m (entity_at m (word_of entity)) ts)
    (placed (λ e. bytes_eq e.name (word_of entity)) m))
    (λ w. tt)

-- ---- all lines
record AreInside (m : List EntityDef) (r : Read) : Type 0 where
  few : length r.lines ≤ 100
  inside : list_all (is_inside m) r.lines ≡ true

line_fit : (m : List EntityDef) (r : Read) (d : Result BulkSaid Kind) → AreInside m r → Gives d (IsFit m (length r.lines)) → Gives (with_line r d) (AreInside m)
line_fit m r (Err k) f g = tt
line_fit m r (Ok d) f g = record { few = omega (arith, g.room, length-append r.lines (d ∷ [])); inside = all_more (is_inside m) r.lines d f.inside g.inside }

alone_fit : (m : List EntityDef) (ts : List Token) (r : Read) → AreInside m r → Gives (alone ts r) (AreInside m)
alone_fit m [] r f = tt
alone_fit m (t ∷ []) r f = f
alone_fit m (t ∷ u ∷ ts) r f = tt

moved : (m : List EntityDef) (r : Read) (p : Place) → AreInside m r → AreInside m (record r { place = p })
moved m r p f = record { few = f.few; inside = f.inside }

lines_fit : (m : List EntityDef) (r : Read) (ts : List Token) → AreInside m r → Gives (after_lines m r ts) (AreInside m)
lines_fit m r ts f =
    gives_cond (begins (codes "update") ts) _ _ (AreInside m) (λ u. line_fit m r (bulk_line_of true m r ts) f (one_fit true m r.named (length r.lines) ts))
    (λ u. gives_cond (begins (codes "delete") ts) _ _ (AreInside m) (λ d. line_fit m r (bulk_line_of false m r ts) f (one_fit false m r.named (length r.lines) ts))
    (λ d. gives_cond (begins (codes "schedule") ts) _ _ (AreInside m) (λ s. alone_fit m ts (record r { place = Place.Schedule }) (moved m r Place.Schedule f)) (λ s. tt)))

order_fit : (m : List EntityDef) (r : Read) (o : Result Order Kind) → AreInside m r → Gives (with_order r o) (AreInside m)
order_fit m r (Err k) f = tt
order_fit m r (Ok o) f = gives_cond (nat_le 20000 (length r.orders)) _ _ (AreInside m) (λ n. tt) (λ n. record { few = f.few; inside = f.inside })

schedule_fit : (m : List EntityDef) (r : Read) (ts : List Token) → AreInside m r → Gives (in_schedule m r ts) (AreInside m)
schedule_fit m r ts f =
    gives_cond (begins (codes "end") ts) _ _ (AreInside m) (λ e. alone_fit m ts (record r { place = Place.Over }) (moved m r Place.Over f))
    (λ e. gives_cond (begins (codes "run") ts) _ _ (AreInside m) (λ n. order_fit m r (order_of m r.named ts) f) (λ n. tt))

after_fit : (m : List EntityDef) (r : Read) (ts : List Token) (p : Place) → AreInside m r → Gives (after_at m r ts p) (AreInside m)
after_fit m r ts Place.Lines f = lines_fit m r ts f
after_fit m r ts Place.Schedule f = schedule_fit m r ts f
after_fit m r ts Place.Over f = tt

at_fit : (m : List EntityDef) (n : ℕ) (r : Result Read Kind) → Gives r (AreInside m) → Gives (at_line n r) (AreInside m)
at_fit m n (Err k) g = tt
at_fit m n (Ok r) g = g

reading_fit : (m : List EntityDef) (r : Result Read Refused) (ls : List Line) → Gives r (AreInside m) → Gives (reading m r ls) (AreInside m)
reading_fit m (Err x) ls g = tt
reading_fit m (Ok r) [] g = g
reading_fit m (Ok r) (l ∷ ls) g = reading_fit m (at_line l.line (after m r l.tokens)) ls (at_fit m l.line (after m r l.tokens) (after_fit m r l.tokens r.place g))

record AreSaid (m : List EntityDef) (p : List BulkSaid × List Order) : Type 0 where
  few : length p.0 ≤ 100
  inside : list_all (is_inside m) p.0 ≡ true

ended_fit : (m : List EntityDef) (n : ℕ) (r : Result Read Refused) → Gives r (AreInside m) → Gives (ended n r) (AreSaid m)
ended_fit m n (Err x) g = tt
ended_fit m n (Ok r) g = by_place r.place
  where
    by_place : (p : Place) → Gives (ended_at n r p) (AreSaid m)
    by_place Place.Schedule = tt
    by_place Place.Lines = record { few = g.few; inside = g.inside }
    by_place Place.Over = record { few = g.few; inside = g.inside }

unless_fit : (m : List EntityDef) (o : Option Refused) (r : Result (List BulkSaid × List Order) Refused) → Gives r (AreSaid m) → Gives (unless_before o r) (λ p. AreSaid m p × (o ≡ None))
unless_fit m (Some x) r g = tt
unless_fit m None (Err x) g = tt
unless_fit m None (Ok p) g = (g, refl)

-- ---- a condition whose parts step within the mapping
target_below : (n k : ℕ) (p : Path) → is_step_within n p ≡ true → option_map_or (λ g. g.entity == k) p.target false ≡ true → k < n
target_below n k p w e = by_target p.target w e
  where
    by_target : (o : Option Target) → option_map_or (λ t. nat_lt t.entity n) o true ≡ true → option_map_or (λ g. g.entity == k) o false ≡ true → k < n
    by_target None w e = absurd (false≢true e)
    by_target (Some t) w e = subst (λ j. j < n) (eqb-true t.entity k e) (ltb-true t.entity n w)

either : (a b : Bool) (T : Type 0) → (a || b) ≡ true → (a ≡ true → T) → (b ≡ true → T) → T
either true b T e f g = f refl
either false b T e f g = g e

mentions_below : (n k : ℕ) (c : Cond) → list_all (is_within n) (parts_of c) ≡ true → mentions k c ≡ true → k < n
mentions_below n k (Cond.And' p a q b) w e =
    let ws : (list_all (is_within n) (parts_of a) ≡ true) × (list_all (is_within n) (parts_of b) ≡ true) = and_parts _ _ (sym (both n (parts_of a) (parts_of b)) ∙ w) in
    either (mentions k a) (mentions k b) (k < n) e (mentions_below n k a ws.0) (mentions_below n k b ws.1)
mentions_below n k (Cond.Or' p a q b) w e =
    let ws : (list_all (is_within n) (parts_of a) ≡ true) × (list_all (is_within n) (parts_of b) ≡ true) = and_parts _ _ (sym (both n (parts_of a) (parts_of b)) ∙ w) in
    either (mentions k a) (mentions k b) (k < n) e (mentions_below n k a ws.0) (mentions_below n k b ws.1)
mentions_below n k (Cond.Not' p a) w e = mentions_below n k a w e
mentions_below n k (Cond.Test op p c) w e = target_below n k p (and_parts (is_step_within n p) true w).0 e
mentions_below n k (Cond.Among p cs) w e = target_below n k p (and_parts (is_step_within n p) true w).0 e

some_below : (n k : ℕ) (o : Option Cond) → list_all (is_within n) (parts_in o) ≡ true → option_map_or (mentions k) o false ≡ true → k < n
some_below n k None w e = absurd (false≢true e)
some_below n k (Some c) w e = mentions_below n k c w e

line_below : (m : List EntityDef) (d : BulkDef) → is_inside m (said_of d) ≡ true → (k : ℕ) → ((d.entity == k) || option_map_or (mentions k) d.condition false) ≡ true → k < length m
line_below m d f k e =
    let ins : (nat_lt d.entity (length m) ≡ true) × (list_all (is_within (length m)) (parts_in d.condition) ≡ true) = and_parts _ _ f in
    either (d.entity == k) (option_map_or (mentions k) d.condition false) (k < length m) e
    (λ s. subst (λ j. j < length m) (eqb-true d.entity k s) (ltb-true d.entity (length m) ins.0))
    (some_below (length m) k d.condition ins.1)

get_said : (ds : List BulkDef) (i : ℕ) (d : BulkDef) → slice_get ds i ≡ Some d → slice_get (map said_of ds) i ≡ Some (said_of d)
get_said [] i d e = absurd (cc)
get_said (x ∷ ds) zero d e = let s : x ≡ d = cc in ap (λ y. Some (said_of y)) s
get_said (x ∷ ds) (suc i) d e = get_said ds i d e

-- ---- what was read
pub are_fit : (m : List EntityDef) (sessions : List SessionDef) (before : List Line) (behind : Lines) (ds : List BulkDef) (os : List Order) → bulks_of m sessions before behind ≡ Ok (map said_of ds, os) → AreFit m ds
are_fit m sessions before behind ds os e =
    let g : AreSaid m (map said_of ds, os) × (fault_before m before ≡ None) =
    given (bulks_of m sessions before behind) (λ p. AreSaid m p × (fault_before m before ≡ None)) (map said_of ds, os)
    (unless_fit m (fault_before m before) (ended behind.count (reading m (Ok (start sessions)) behind.lines))
    (ended_fit m behind.count (reading m (Ok (start sessions)) behind.lines) (reading_fit m (Ok (start sessions)) behind.lines record { few = omega arith; inside = refl }))) e in
    record {
      few = subst (λ n. n ≤ 100) (length-map ds said_of) g.0.few;
      below = λ i d at k. line_below m d (all_at (is_inside m) (map said_of ds) i (said_of d) g.0.inside (get_said ds i d at)) k;
      strategies = locked m before g.1;
    }

pub are_fit_if : (m : List EntityDef) (sessions : List SessionDef) (before : List Line) (behind : Lines) (x : Result Bulks ScriptError) → IfOk x (λ b. bulks_of m sessions before behind ≡ Ok (map said_of b.lines, b.orders)) →
    IfOk x (λ b. AreFit m b.lines)
are_fit_if m sessions before behind (Err x) e = tt
are_fit_if m sessions before behind (Ok b) e = are_fit m sessions before behind b.lines b.orders e
