-- One line more of a script, up to its schedule and in it.
use Rattle.std.proofs.Common.{◌≡◌, ℕ, suc, ◌+◌, ◌<◌, ◌≤◌, Bool, true, false, cond, ◌&&◌, ◌||◌, List, [], ◌∷◌, length, drop, get_or, Option, Some, None, codes, refl, add-one, drop-cons}
use Rattle.std.proofs.lemmas.List.{drop_all}
use Rattle.hib_lex.specs.Words.{begins}
use Rattle.hib_lex.specs.declared.lines.Line.{Line}
use Rattle.hib_sections.specs.Schedules.{is_other, first_other, other_order}

-- what is found in the lines that are left, by whether the schedule has begun
abbrev pub rest_of : Bool → List Line → Option ℕ
rest_of b ls = cond b (first_other ls) (other_order ls)

next_line : (b o s : Bool) (l : Line) (ls : List Line) → is_other l ≡ o → begins (codes "schedule") l.tokens ≡ s → (b && o) ≡ false → rest_of b (l ∷ ls) ≡ rest_of (b || s) ls
next_line true true s l ls e f h = absurd (cc)
next_line true false s l ls e f h = rw e refl
next_line false o true l ls e f h = rw f refl
next_line false o false l ls e f h = rw f refl

here_line : (b o : Bool) (l : Line) (ls : List Line) → is_other l ≡ o → (b && o) ≡ true → rest_of b (l ∷ ls) ≡ Some l.line
here_line true true l ls e h = rw e refl
here_line true false l ls e h = absurd (cc)
here_line false o l ls e h = absurd (cc)

pub next : (b : Bool) (ls : List Line) (i : ℕ) (l : Line) → i < length ls → (b && is_other (get_or ls i l)) ≡ false →
    rest_of b (drop i ls) ≡ rest_of (b || begins (codes "schedule") (get_or ls i l).tokens) (drop (i + 1) ls)
next b ls i l h e = rw (add-one, drop-cons ls i l) (next_line b (is_other (get_or ls i l)) (begins (codes "schedule") (get_or ls i l).tokens) (get_or ls i l) (drop (suc i) ls) refl refl e)

pub here : (b : Bool) (ls : List Line) (i : ℕ) (l : Line) → i < length ls → (b && is_other (get_or ls i l)) ≡ true → rest_of b (drop i ls) ≡ Some (get_or ls i l).line
here b ls i l h e = rw (drop-cons ls i l) (here_line b (is_other (get_or ls i l)) (get_or ls i l) (drop (suc i) ls) refl e)

over_none : (b : Bool) → rest_of b [] ≡ None
over_none true = refl
over_none false = refl

pub over : (b : Bool) (ls : List Line) (i : ℕ) → length ls ≤ i → rest_of b (drop i ls) ≡ None
over b ls i h = rw (drop_all i ls h) (over_none b)
