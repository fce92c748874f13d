-- Tables that are stamped, one after another.
use Rattle.std.proofs.Common.{◌≡◌, ℕ, ◌+◌, ◌<◌, ◌==◌, ◌||◌, Bool, true, false, cond, List, [], ◌∷◌, ◌++◌, length, get_or, take, Option, sym, ap, ◌∙◌}
use Rattle.std.proofs.Math.Bool.{or-false}
use Rattle.std.proofs.lemmas.List.{take_more}
use Rattle.std.proofs.lemmas.List.Folds.{list_any-append}
use Rattle.hib_journal.specs.Stamps.{names}
use Rattle.hib_follow.specs.declared.marks.Stamped.{Stamped}

named_more : (t n : ℕ) (ts : List ℕ) (i : ℕ) → i < length ts → n ≡ get_or ts i n → names t (take (i + 1) ts) ≡ (names t (take i ts) || (n == t))
named_more t n ts i l is =
    ap (names t) (take_more ts i n l ∙ ap (λ (m : ℕ). take i ts ++ m ∷ []) (sym is)) ∙ list_any-append (λ m. m == t) (take i ts) (n ∷ [])
    ∙ ap (λ b. names t (take i ts) || b) (or-false (n == t))

either : (a b : Bool) (s old mid new : Option Stamped) → mid ≡ cond a s old → new ≡ cond b s mid → new ≡ cond (a || b) s old
either true true s old mid new m n = n
either true false s old mid new m n = n ∙ m
either false true s old mid new m n = n
either false false s old mid new m n = n ∙ m

pub stamp_step : (t n : ℕ) (ts : List ℕ) (i : ℕ) (s old mid new : Option Stamped) → i < length ts → n ≡ get_or ts i n → mid ≡ cond (names t (take i ts)) s old →
    new ≡ cond (n == t) s mid → new ≡ cond (names t (take (i + 1) ts)) s old
stamp_step t n ts i s old mid new l is m e =
    either (names t (take i ts)) (n == t) s old mid new m e ∙ ap (λ b. cond b s old) (sym (named_more t n ts i l is))
