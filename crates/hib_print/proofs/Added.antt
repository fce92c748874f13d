-- Tokens and lines that are added one after another.
use Rattle.std.proofs.Common.{◌≡◌, ℕ, ◌+◌, ◌<◌, Bool, true, List, [], ◌∷◌, ◌++◌, map, take, length, get_or, codes, flat_map, refl, sym, ap, subst, ◌∙◌, append_assoc, Result, Ok, Err}
use Rattle.std.specs.Prelude.{OnOk}
use Rattle.std.proofs.lemmas.Grind.{flat_map-append}
use Rattle.std.proofs.lemmas.List.{append-nil, take_more, map_more}
use Rattle.hib_lex.specs.declared.lexer.Token.{Token}
use Rattle.hib_print.specs.Spelling.{token_text, gap, is_left, text_from, lines_text}
use Rattle.hib_print.specs.Steps.{glued_by, Adds, Ends, AddsLines}
use Rattle.hib_print.specs.declared.printer.Printer.{Printer}

-- ---- tokens
pub text_both : (g : Bool) (ts us : List Token) → text_from g (ts ++ us) ≡ text_from g ts ++ text_from (glued_by g ts) us
text_both g [] us = refl
text_both g (t ∷ ts) us =
    ap (λ x. (gap g t ++ token_text t) ++ x) (text_both (is_left t) ts us)
    ∙ sym (append_assoc (gap g t ++ token_text t) (text_from (is_left t) ts) (text_from (glued_by (is_left t) ts) us))

pub glued_both : (g : Bool) (ts us : List Token) → glued_by g (ts ++ us) ≡ glued_by (glued_by g ts) us
glued_both g [] us = refl
glued_both g (t ∷ ts) us = glued_both (is_left t) ts us

pub adds_none : (p : Printer) → Adds p p []
adds_none p = record { text = sym (append-nil p.text.items); glued = refl }

pub adds_one : (p q : Printer) (t : Token) → q.text.items ≡ p.text.items ++ (gap p.glued t ++ token_text t) → q.glued ≡ is_left t → Adds p q (t ∷ [])
adds_one p q t e g = record { text = e ∙ ap (λ x. p.text.items ++ x) (sym (append-nil (gap p.glued t ++ token_text t))); glued = g }

pub adds_more : {p q r : Printer} {ts us : List Token} → Adds p q ts → Adds q r us → Adds p r (ts ++ us)
adds_more {p} {q} {r} {ts} {us} a b = record {
  text = b.text ∙ (ap (λ g. q.text.items ++ text_from g us) a.glued
      ∙ (ap (λ x. x ++ text_from (glued_by p.glued ts) us) a.text
      ∙ (append_assoc p.text.items (text_from p.glued ts) (text_from (glued_by p.glued ts) us) ∙ ap (λ x. p.text.items ++ x) (sym (text_both p.glued ts us)))));
  glued = b.glued ∙ (ap (λ g. glued_by g us) a.glued ∙ sym (glued_both p.glued ts us));
}

-- ---- each of a list
flat_next : {A B : Type 0} (f : A → List B) (xs : List A) (i : ℕ) (x : A) → i < length xs → x ≡ get_or xs i x → flat_map f (take (i + 1) xs) ≡ flat_map f (take i xs) ++ f x
flat_next f xs i x h e =
    ap (λ ys. flat_map f ys) (take_more xs i x h)
    ∙ (flat_map-append f (take i xs) (get_or xs i x ∷ []) ∙ ap (λ y. flat_map f (take i xs) ++ y) (append-nil (f (get_or xs i x)) ∙ ap f (sym e)))

map_next : {A B : Type 0} (f : A → B) (xs : List A) (i : ℕ) (x : A) → i < length xs → x ≡ get_or xs i x → map f (take (i + 1) xs) ≡ map f (take i xs) ++ f x ∷ []
map_next f xs i x h e = map_more f xs i x h ∙ ap (λ y. map f (take i xs) ++ f y ∷ []) (sym e)

pub adds_each : {A : Type 0} (f : A → List Token) (xs : List A) (i : ℕ) (x : A) {p q r : Printer} → i < length xs → x ≡ get_or xs i x → Adds p q (flat_map f (take i xs)) → Adds q r (f x) →
    Adds p r (flat_map f (take (i + 1) xs))
adds_each f xs i x {p} {q} {r} h e a b = subst (λ ts. Adds p r ts) (sym (flat_next f xs i x h e)) (adds_more a b)

-- the one at a place is read with whatever stands for none
pub adds_each_at : {A : Type 0} (f : A → List Token) (xs : List A) (i : ℕ) (d : A) {p q r : Printer} → i < length xs → Adds p q (flat_map f (take i xs)) → Adds q r (f (get_or xs i d)) →
    Adds p r (flat_map f (take (i + 1) xs))
adds_each_at f xs i d {p} {q} {r} h a b =
    subst (λ ts. Adds p r ts) (sym (ap (λ ys. flat_map f ys) (take_more xs i d h) ∙ (flat_map-append f (take i xs) (get_or xs i d ∷ []) ∙ ap (λ y. flat_map f (take i xs) ++ y) (append-nil (f (get_or xs i d))))))
    (adds_more a b)

pub adds_mapped : {A : Type 0} (f : A → Token) (xs : List A) (i : ℕ) (x : A) {p q r : Printer} → i < length xs → x ≡ get_or xs i x → Adds p q (map f (take i xs)) → Adds q r (f x ∷ []) →
    Adds p r (map f (take (i + 1) xs))
adds_mapped f xs i x {p} {q} {r} h e a b = subst (λ ts. Adds p r ts) (sym (map_next f xs i x h e)) (adds_more a b)

-- ---- lines
pub lines_none : (p : Printer) → AddsLines p p []
lines_none p g = record { text = sym (append-nil p.text.items); glued = g }

pub lines_one : {p q : Printer} {ts : List Token} (r : Printer) → Adds p q ts → r.text.items ≡ q.text.items ++ codes "\n" → r.glued ≡ true → AddsLines p r (ts ∷ [])
lines_one {p} {q} {ts} r a e h g = record {
  text = e ∙ (ap (λ x. x ++ codes "\n") (a.text ∙ ap (λ b. p.text.items ++ text_from b ts) g)
      ∙ (append_assoc p.text.items (text_from true ts) (codes "\n") ∙ ap (λ x. p.text.items ++ x) (sym (append-nil (text_from true ts ++ codes "\n")))));
  glued = h;
}

pub lines_more : {p q r : Printer} {ls ms : List (List Token)} → AddsLines p q ls → AddsLines q r ms → AddsLines p r (ls ++ ms)
lines_more {p} {q} {r} {ls} {ms} a b g =
    let before : Ends p q ls = a g in
    let after : Ends q r ms = b before.glued in
    record {
      text = after.text ∙ (ap (λ x. x ++ lines_text ms) before.text
          ∙ (append_assoc p.text.items (lines_text ls) (lines_text ms) ∙ ap (λ x. p.text.items ++ x) (sym (flat_map-append (λ ts. text_from true ts ++ codes "\n") ls ms))));
      glued = after.glued;
    }

pub lines_each : {A : Type 0} (f : A → List (List Token)) (xs : List A) (i : ℕ) (x : A) {p q r : Printer} → i < length xs → x ≡ get_or xs i x → AddsLines p q (flat_map f (take i xs)) → AddsLines q r (f x) →
    AddsLines p r (flat_map f (take (i + 1) xs))
lines_each f xs i x {p} {q} {r} h e a b = subst (λ ls. AddsLines p r ls) (sym (flat_next f xs i x h e)) (lines_more a b)

pub lines_mapped : {A : Type 0} (f : A → List Token) (xs : List A) (i : ℕ) (x : A) {p q r : Printer} → i < length xs → x ≡ get_or xs i x → AddsLines p q (map f (take i xs)) → AddsLines q r (f x ∷ []) →
    AddsLines p r (map f (take (i + 1) xs))
lines_mapped f xs i x {p} {q} {r} h e a b = subst (λ ls. AddsLines p r ls) (sym (map_next f xs i x h e)) (lines_more a b)

-- ---- answers
pub on_ok : {A E : Type 0} {P Q : Type 0} (r : Result A E) → OnOk r P → (P → Q) → OnOk r Q
on_ok (Ok x) h f = f h
on_ok (Err e) h f = h

pub lines_ok : {p q : Printer} {ts : List Token} {A E : Type 0} (r : Printer) (x : Result A E) → Adds p q ts → OnOk x (r.text.items ≡ q.text.items ++ codes "\n") → OnOk x (r.glued ≡ true) → OnOk x (AddsLines p r (ts ∷ []))
lines_ok r (Ok y) a e g = lines_one r a e g
lines_ok r (Err y) a e g = e
