-- A journal up to a place.
use Rattle.std.proofs.Common.{◌≡◌, ℕ, ◌+◌, ◌<◌, List, [], ◌∷◌, ◌++◌, length, get_or, take, drop, reverse, Option, sym, ap, ◌∙◌, subst, arith}
use Rattle.std.proofs.lemmas.List.{take_more, reverse-append, length-reverse, length-take, take-append-drop}
use Rattle.hib_base.specs.Tables.{Tables}
use Rattle.hib_journal.specs.Legal.{IsLegal}
use Rattle.hib_journal.specs.Sessions.{Journal}
use Rattle.hib_journal.specs.Types.{Script, Entry}

legal_behind : (script : Script) (told : Option Tables) (later h : Journal) → IsLegal script told (later ++ h) → IsLegal script told h
legal_behind script told [] h l = l
legal_behind script told (e ∷ later) h l = legal_behind script told later h (l.0)

-- the journal up to a place, and one entry more
pub next_is : (es : List Entry) (i : ℕ) (e : Entry) → i < length es → e ≡ get_or es i e → reverse (take (i + 1) es) ≡ e ∷ reverse (take i es)
next_is es i e low is =
    ap reverse (take_more es i e low ∙ ap (λ (x : Entry). take i es ++ x ∷ []) (sym is)) ∙ reverse-append (take i es) (e ∷ [])

pub count_is : (es : List Entry) (i : ℕ) → i < length es → length (reverse (take i es)) ≡ i
count_is es i low = let k : length (take i es) ≡ i = omega (arith, length-take i es, low) in length-reverse (take i es) ∙ k

-- it is legal up to each place, if it is as a whole
pub legal_up_to : (script : Script) (told : Option Tables) (es : List Entry) (i : ℕ) → IsLegal script told (reverse es) → IsLegal script told (reverse (take i es))
legal_up_to script told es i l =
    legal_behind script told (reverse (drop i es)) (reverse (take i es))
    (subst (IsLegal script told) (sym (ap reverse (take-append-drop i es)) ∙ reverse-append (take i es) (drop i es)) l)
