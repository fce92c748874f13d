-- What listeners have heard, after a step and if none was taken.
use Rattle.std.proofs.Common.{◌≡◌, suc, Bool, false, not, is_ok, is_err, List, [], ◌∷◌, ◌++◌, length, reverse, Result, Ok, Err, refl, sym, ◌∙◌, ap, subst, arith}
use Rattle.std.proofs.lemmas.List.{reverse-append, reverse-reverse}
use Rattle.hib_journal.specs.Types.{Entry}
use Rattle.hib_journal.specs.Kept.{Kept, past}
use Rattle.hib_journal.specs.Sessions.{Journal}
use Rattle.hib_listeners.specs.Told.{Told, AreTold}
use Rattle.hib_listeners.specs.Heard.{HaveHeard}
use Rattle.hib_core.specs.Factory.{HasGrown, Hears}
use Rattle.hib_core.specs.Playing as Playing

pub longer : (h : Journal) (e : Entry) → h ≡ e ∷ h → ⊥
longer h e g = let l : length h ≡ suc (length h) = ap length g in absurd (omega (arith, l))

-- no entry was added, and nobody told
pub heard_none : (h new : Journal) (whole : Bool) (told now : List Told) → new ≡ h → now ≡ told → Hears h new whole told now
heard_none h new whole told now q r = (λ e g. absurd (longer h e (sym q ∙ g)), λ _. r)

same_head : (e f : Entry) (g h : Journal) → e ∷ g ≡ f ∷ h → e ≡ f
same_head e f g h p = cc

-- one was added, and told
pub heard_one : (h new : Journal) (e : Entry) (whole : Bool) (told now : List Told) → new ≡ e ∷ h → AreTold e whole told now → Hears h new whole told now
heard_one h new e whole told now q a = (
  λ f g. subst (λ (x : Entry). AreTold x whole told now) (same_head e f h h (sym q ∙ g)) a,
  λ g. absurd (longer h e (sym g ∙ q)),
)

-- ---- the entries of a journal, the oldest first
pub list_same : (old new : Kept) → past new ≡ past old → new.list ≡ old.list
unfolding past
list_same old new q = sym (reverse-reverse new.list) ∙ (ap reverse q ∙ reverse-reverse old.list)

pub list_grown : (old new : Kept) (e : Entry) → past new ≡ e ∷ past old → new.list ≡ old.list ++ e ∷ []
unfolding past
list_grown old new e q = sym (reverse-reverse new.list) ∙ (ap reverse q ∙ (reverse-append (e ∷ []) (past old) ∙ ap (λ (l : List Entry). l ++ e ∷ []) (reverse-reverse old.list)))

-- what was heard of a journal that stays
pub heard_same : (deaf : Bool) (old new : Kept) (start told : List Told) → past new ≡ past old → HaveHeard deaf old.list start told → HaveHeard deaf new.list start told
heard_same deaf old new start told q h = subst (λ (es : List Entry). HaveHeard deaf es start told) (sym (list_same old new q)) h

-- ---- one entry more
err_not_ok : {T E : Type 0} (r : Result T E) → not (is_ok r) ≡ is_err r
err_not_ok (Ok t) = refl
err_not_ok (Err e) = refl

abbrev Carries : Type 0
Carries = (e : Entry) (whole : Bool) (es : List Entry) (start now next : List Told) → HaveHeard false es start now → AreTold e whole now next → HaveHeard (not whole) (es ++ e ∷ []) start next

pub told_on : {T E : Type 0} (law : Carries) (r : Result T E) (start now next : List Told) (e f : Entry) (h g : Journal) (es list : List Entry) (whole : Journal) → whole ≡ e ∷ h → list ≡ es ++ e ∷ [] → whole ≡ f ∷ g →
    HaveHeard false es start now → AreTold f (is_ok r) now next → HaveHeard (is_err r) list start next
told_on law r start now next e f h g es list whole p q v heard told =
    subst (λ b. HaveHeard b list start next) (err_not_ok r)
    (subst (λ (l : List Entry). HaveHeard (not (is_ok r)) l start next) (sym q)
    (law e (is_ok r) es start now next heard (subst (λ (x : Entry). AreTold x (is_ok r) now next) (sym (same_head e f h g (sym p ∙ v))) told)))

-- what is heard of a journal that has grown, by what telling its newest entry ensures
pub heard_more : (j old new : Kept) (deaf was : Bool) (start now next : List Told) →
    ((from : List Told) (e : Entry) (h : Journal) (es : List Entry) → past j ≡ e ∷ h → j.list ≡ es ++ e ∷ [] → HaveHeard false es from now → HaveHeard deaf j.list from next) →
    j ≡ new → HasGrown (past old) (past new) → was ≡ false → HaveHeard was old.list start now → HaveHeard deaf new.list start next
heard_more j old new deaf was start now next f q g w heard =
    subst (λ (k : Kept). HaveHeard deaf k.list start next) q
    (f start g.0 (past old) old.list (ap past q ∙ g.1) (ap (λ (k : Kept). k.list) q ∙ list_grown old new g.0 g.1) (subst (λ b. HaveHeard b old.list start now) w heard))

pub heard_told : (j new : Kept) (h : Journal) (whole : Bool) (told now next : List Told) → ((e : Entry) (g : Journal) → past j ≡ e ∷ g → AreTold e whole now next) → j ≡ new → HasGrown h (past new) → now ≡ told →
    Hears h (past new) whole told next
heard_told j new h whole told now next f q g w =
    heard_one h (past new) g.0 whole told next g.1 (subst (λ (ts : List Told). AreTold g.0 whole ts next) w (f g.0 h (ap past q ∙ g.1)))

-- whether all heard it is said by another answer
pub heard_so : (h new : Journal) (b c : Bool) (told next : List Told) → b ≡ c → Hears h new b told next → Hears h new c told next
heard_so h new b c told next p w = subst (λ d. Hears h new d told next) p w

-- at the start
pub heard_empty : ((from : List Told) → HaveHeard false [] from from) → (j : Kept) (start told : List Told) → past j ≡ [] → told ≡ start → HaveHeard false j.list start told
unfolding past
heard_empty law j start told p q =
    let none : j.list ≡ [] = sym (reverse-reverse j.list) ∙ ap reverse p in
    subst (λ (es : List Entry). HaveHeard false es start told) (sym none) (subst (λ (ts : List Told). HaveHeard false [] start ts) (sym q) (law start))

-- a journal with one entry more has gone on
pub goes_by_one : (h new : Journal) → HasGrown h new → Playing.GoesOn h new
goes_by_one h new g = (g.0 ∷ [], g.1)
