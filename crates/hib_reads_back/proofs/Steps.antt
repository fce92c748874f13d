-- Lines that are read one after another.
use Rattle.std.proofs.Common.{◌≡◌, ℕ, ◌+◌, ◌≤◌, Bool, true, false, cond, List, [], ◌∷◌, ◌++◌, codes, Some, None, Ok, Err, refl, sym, ap, subst, ◌∙◌, arith}
use Rattle.hib_base.specs.declared.refusals.Kind.{Kind}
use Rattle.hib_lex.specs.Words.{begins}
use Rattle.hib_lex.specs.declared.lexer.Token.{Token}
use Rattle.hib_lex.specs.declared.lines.Line.{Line}
use Rattle.hib_script.specs.Lines.{Reader, column_line, part_line, next_part, line_at, after_line, closed}
use Rattle.hib_script.specs.Outline.{Outline}
use Rattle.hib_script.specs.Places.{rank, may_follow, part_of}
use Rattle.hib_script.specs.Script.{at_line, step, begins_column, reading}
use Rattle.hib_script.specs.declared.places.Part.{Part}
use Rattle.hib_script.specs.declared.places.Place.{Place}
use Rattle.hib_reads_back.proofs.Lexed.{numbered}

-- whether the first of some lines is a column's; of none, whether the line after them is
abbrev pub leads : Bool → List (List Token) → Bool
leads b [] = b
leads b (ts ∷ ls) = begins (codes "column") ts

-- lines lead from one reader to another
abbrev pub Goes : Reader → List (List Token) → Bool → Reader → Type 0
Goes r [] b s = r ≡ s
Goes r (ts ∷ ls) b s = (m : Reader) × ((after_line r (leads b ls) ts ≡ Ok m) × Goes m ls b s)

leads_both : (b : Bool) (xs ys : List (List Token)) → leads (leads b ys) xs ≡ leads b (xs ++ ys)
leads_both b [] ys = refl
leads_both b (x ∷ xs) ys = refl

pub goes_both : (r m s : Reader) (xs ys : List (List Token)) (b : Bool) → Goes r xs (leads b ys) m → Goes m ys b s → Goes r (xs ++ ys) b s
goes_both r m s [] ys b g h = subst (λ x. Goes x ys b s) (sym g) h
goes_both r m s (x ∷ xs) ys b g h = (g.0, (ap (λ f. after_line r f x) (sym (leads_both b xs ys)) ∙ g.1.0, goes_both g.0 m s xs ys b g.1.1 h))

column_behind : (n : ℕ) (ls : List (List Token)) → begins_column (numbered n ls) ≡ leads false ls
column_behind n [] = refl
column_behind n (ts ∷ ls) = refl

-- so they do when they are read with their numbers
pub goes_read : (r s : Reader) (ls : List (List Token)) (n : ℕ) → Goes r ls false s → reading (Ok r) (numbered n ls) ≡ Ok s
goes_read r s [] n g = ap (λ x. Ok x) g
goes_read r s (ts ∷ ls) n g =
    let l : Line = record { line = n + 1; tokens = ts } in
    ap (λ f. reading (step r f l) (numbered (n + 1) ls)) (column_behind (n + 1) ls)
    ∙ (ap (λ a. reading (at_line l a) (numbered (n + 1) ls)) g.1.0 ∙ goes_read g.0 s ls (n + 1) g.1.1)

-- ---- readers between parts
abbrev pub between : Outline → ℕ → Part → Reader
between o n last = record { outline = o; entity = None; statements = n; place = Place.Behind last }

-- a reader that has read this much, and no part of a higher rank
pub record Reached (r : Reader) (o : Outline) (n top : ℕ) : Type 0 where
  pub last : Part
  pub place : r.place ≡ Place.Behind last
  pub whole : closed r ≡ between o n last
  pub low : rank last ≤ top

pub reached : (o : Outline) (n : ℕ) (last : Part) (top : ℕ) → rank last ≤ top → Reached (between o n last) o n top
reached o n last top h = record { last = last; place = refl; whole = refl; low = h }

pub higher : {r : Reader} {o : Outline} {n : ℕ} (low top : ℕ) → low ≤ top → Reached r o n low → Reached r o n top
higher low top h g = let l : rank g.last ≤ low = g.low in record { last = g.last; place = g.place; whole = g.whole; low = omega (arith, h) }

-- a line that begins a part
pub part_read : (r m : Reader) (o : Outline) (n top : ℕ) (p : Part) (f : Bool) (ts : List Token) → (g : Reached r o n top) → begins (codes "column") ts ≡ false → part_of ts ≡ Some p →
    may_follow g.last p ≡ true → part_line (between o n g.last) p f ts ≡ Ok m → after_line r f ts ≡ Ok m
part_read r m o n top p f ts g no_column part follows e =
    ap (λ x. line_at r x f ts) g.place
    ∙ (ap (λ b. cond b (column_line r r.entity ts) (next_part r g.last (part_of ts) f ts)) no_column
    ∙ (ap (λ x. next_part r g.last x f ts) part
    ∙ (ap (λ b. cond b (part_line (closed r) p f ts) (Err Kind.Line)) follows ∙ (ap (λ x. part_line x p f ts) g.whole ∙ e))))

-- ---- which parts may follow
pub rows_follow : (last : Part) → rank last ≤ 4 → may_follow last Part.Rows ≡ true
rows_follow Part.Header h = refl
rows_follow Part.Timeout h = refl
rows_follow Part.Results h = refl
rows_follow Part.Entities h = refl
rows_follow Part.Rows h = refl
rows_follow Part.Queries h = absurd (omega (arith, h))
rows_follow Part.Sessions h = absurd (omega (arith, h))
rows_follow Part.Schedule h = absurd (omega (arith, h))

pub queries_follow : (last : Part) → rank last ≤ 5 → may_follow last Part.Queries ≡ true
queries_follow Part.Header h = refl
queries_follow Part.Timeout h = refl
queries_follow Part.Results h = refl
queries_follow Part.Entities h = refl
queries_follow Part.Rows h = refl
queries_follow Part.Queries h = refl
queries_follow Part.Sessions h = absurd (omega (arith, h))
queries_follow Part.Schedule h = absurd (omega (arith, h))

pub sessions_follow : (last : Part) → rank last ≤ 6 → may_follow last Part.Sessions ≡ true
sessions_follow Part.Header h = refl
sessions_follow Part.Timeout h = refl
sessions_follow Part.Results h = refl
sessions_follow Part.Entities h = refl
sessions_follow Part.Rows h = refl
sessions_follow Part.Queries h = refl
sessions_follow Part.Sessions h = refl
sessions_follow Part.Schedule h = absurd (omega (arith, h))

pub schedule_follows : (last : Part) → rank last ≤ 6 → may_follow last Part.Schedule ≡ true
schedule_follows Part.Header h = refl
schedule_follows Part.Timeout h = refl
schedule_follows Part.Results h = refl
schedule_follows Part.Entities h = refl
schedule_follows Part.Rows h = refl
schedule_follows Part.Queries h = refl
schedule_follows Part.Sessions h = refl
schedule_follows Part.Schedule h = absurd (omega (arith, h))
