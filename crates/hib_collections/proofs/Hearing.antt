-- What listeners have heard of a run with collections, after a step and if none was taken.
use Rattle.std.proofs.Common.{◌≡◌, ℕ, ◌≤◌, suc, Bool, true, false, not, is_ok, is_err, is_some, List, [], ◌∷◌, ◌++◌, ◌||◌, length, reverse, Result, Ok, Err, refl, sym, ◌∙◌, ap, subst, arith}
use Rattle.std.proofs.lemmas.Bool.{true≢false}
use Rattle.std.proofs.lemmas.List.{reverse-append}
use Rattle.hib_journal.specs.Types.{Entry, Script}
use Rattle.hib_journal.specs.Sessions.{Journal}
use Rattle.hib_engines.specs.Engines.{EnginesState}
use Rattle.hib_engines.specs.Origin.{Origin}
use Rattle.hib_listeners.specs.Told.{Told, AreTold}
use Rattle.hib_listeners.specs.Heard.{HaveHeard}
use Rattle.hib_outside.specs.Causes.{Rose}
use Rattle.hib_collections_law.specs.declared.entries.Def.{Def}
use Rattle.hib_collections_law.specs.declared.entries.GatherEntry.{GatherEntry}
use Rattle.hib_collections_law.specs.Types.{Gathered}
use Rattle.hib_collections_law.specs.Gathered.{plain}
use Rattle.hib_collections.specs.Gather.{AreHeard, HasStepped, Hears, IsOver, heard_in}
use Rattle.hib_playing.specs.Playing.{GoesOn}
use Rattle.hib_collections.specs.Run.{Does, HasMoved, HasRested, IsAsked, IsAskedAt, IsAskedOnceMore, is_done, says_fault, told_in}
use Rattle.hib_collections.specs.declared.turns.Turned.{Turned}

longer : (h : Journal) (e : Entry) → h ≡ e ∷ h → ⊥
longer h e g = let l : length h ≡ suc (length h) = ap length g in absurd (omega (arith, l))

pub further : (g : Gathered) (x : GatherEntry) → g ≡ x ∷ g → ⊥
further g x e = let l : length g ≡ suc (length g) = ap length e in absurd (omega (arith, l))

same_head : (e f : Entry) (g h : Journal) → e ∷ g ≡ f ∷ h → e ≡ f
same_head e f g h p = cc

same_entry : (x y : GatherEntry) (g h : Gathered) → x ∷ g ≡ y ∷ h → x ≡ y
same_entry x y g h p = cc

-- no entry was added that they hear of, and nobody told
pub heard_none : (h new : Journal) (whole : Bool) (told now : List Told) → new ≡ h → now ≡ told → Hears h new whole told now
heard_none h new whole told now q r = (λ e g. absurd (longer h e (sym q ∙ g)), λ _. r)

heard_one : (h new : Journal) (e : Entry) (whole : Bool) (told now : List Told) → new ≡ e ∷ h → AreTold e whole told now → Hears h new whole told now
heard_one h new e whole told now q a = (
  λ f g. subst (λ (x : Entry). AreTold x whole told now) (same_head e f h h (sym q ∙ g)) a,
  λ g. absurd (longer h e (sym g ∙ q)),
)

-- those of one turn are one at most
told_few : (t : Turned) (x : GatherEntry) → length (told_in t x) ≤ 1
told_few (Turned.Hit e) x = omega arith
told_few Turned.Done (GatherEntry.Plain e) = omega arith
told_few Turned.Done (GatherEntry.Member m) = omega arith
told_few Turned.Did (GatherEntry.Plain e) = omega arith
told_few Turned.Did (GatherEntry.Member m) = omega arith

no_two : (e f : Entry) (h : Journal) → length (e ∷ f ∷ h) ≤ 1 → ⊥
no_two e f h l = absurd (omega (arith, l))

hears_these : (es h new : Journal) (whole : Bool) (told now : List Told) → length es ≤ 1 → new ≡ es ++ h → AreHeard es whole told now → Hears h new whole told now
hears_these [] h new whole told now l q a = heard_none h new whole told now q a.0
hears_these (e ∷ []) h new whole told now l q a = heard_one h new e whole told now q a
hears_these (e ∷ f ∷ es) h new whole told now l q a = absurd (no_two e f es l)

abbrev pub Carries : Type 0
Carries = (e : Entry) (whole : Bool) (es : List Entry) (start now next : List Told) → HaveHeard false es start now → AreTold e whole now next → HaveHeard (not whole) (es ++ e ∷ []) start next

heard_these : Carries → (es h new : Journal) (whole : Bool) (start now next : List Told) → length es ≤ 1 → new ≡ es ++ h → AreHeard es whole now next →
    HaveHeard false (reverse h) start now → HaveHeard (not whole) (reverse new) start next
heard_these law [] h new whole start now next l q a heard =
    subst (λ b. HaveHeard (not b) (reverse new) start next) (sym a.1)
    (subst (λ (ts : List Told). HaveHeard false (reverse new) start ts) (sym a.0)
    (subst (λ (m : Journal). HaveHeard false (reverse m) start now) (sym q) heard))
heard_these law (e ∷ []) h new whole start now next l q a heard =
    subst (λ (m : List Entry). HaveHeard (not whole) m start next) (sym (ap reverse q ∙ reverse-append (e ∷ []) h))
    (law e whole (reverse h) start now next heard a)
heard_these law (e ∷ f ∷ es) h new whole start now next l q a heard = absurd (no_two e f es l)

-- ---- what a turn did
module _ (script : Script) (defs : List Def) (s : ℕ) (g new : Gathered) (x y : EnginesState) where
  pub moved : (t : Turned) → is_done t ≡ false → Does script defs s g new x y t → HasMoved script defs s g new x y t
  moved Turned.Done p w = absurd (true≢false p)
  moved Turned.Did p w = w
  moved (Turned.Hit e) p w = w

  pub rested : (t : Turned) → is_done t ≡ true → Does script defs s g new x y t → HasRested script defs s g new x y
  rested Turned.Done p w = w
  rested Turned.Did p w = absurd (true≢false (sym p))
  rested (Turned.Hit e) p w = absurd (true≢false (sym p))

  pub moved_at : (h : Gathered) (z : EnginesState) (t : Turned) → g ≡ h → x ≡ z → is_done t ≡ false → Does script defs s g new x y t → HasMoved script defs s h new z y t
  moved_at h z t q r p w = subst (λ (m : Gathered). HasMoved script defs s m new z y t) q (subst (λ (v : EnginesState). HasMoved script defs s g new v y t) r (moved t p w))

  pub stepped : (t : Turned) → HasMoved script defs s g new x y t → HasStepped script defs s g new
  stepped t m = record { entry = m.entry; grown = m.grown; by = m.by; due = m.due }

  pub is_over : HasRested script defs s g new x y → IsOver script defs s g new
  is_over r = record { same = r.same; over = ap is_some r.over }

  pub goes_one : (t : Turned) → HasMoved script defs s g new x y t → GoesOn g new
  goes_one t m = (m.entry ∷ [], m.grown)

  pub faulty : (t : Turned) → HasMoved script defs s g new x y t → (e : GatherEntry) → new ≡ e ∷ g → says_fault e ≡ true → Rose x.store.faults y.store.faults
  faulty t m e q f = m.fault (subst (λ (z : GatherEntry). says_fault z ≡ true) (sym (same_entry m.entry e g g (sym m.grown ∙ q))) f)

  pub asks_once : (t : Turned) → HasMoved script defs s g new x y t → (e : GatherEntry) → new ≡ e ∷ g → IsAskedAt script e g x y
  asks_once t m e q = subst (λ (z : GatherEntry). IsAskedAt script z g x y) (same_entry m.entry e g g (sym m.grown ∙ q)) m.asked

  pub hears_turn : (t : Turned) (whole : Bool) (told now : List Told) → HasMoved script defs s g new x y t →
      ((e : GatherEntry) (h : Gathered) → new ≡ e ∷ h → AreHeard (told_in t e) whole told now) → Hears (plain script g) (plain script new) whole told now
  hears_turn t whole told now m a = hears_these (told_in t m.entry) (plain script g) (plain script new) whole told now (told_few t m.entry) m.told (a m.entry g m.grown)

  pub heard_turn : Carries → (t : Turned) (whole : Bool) (start now next : List Told) → HasMoved script defs s g new x y t →
      ((e : GatherEntry) (h : Gathered) → new ≡ e ∷ h → AreHeard (told_in t e) whole now next) → HaveHeard false (heard_in script g) start now → HaveHeard (not whole) (heard_in script new) start next
  heard_turn law t whole start now next m a heard =
      heard_these law (told_in t m.entry) (plain script g) (plain script new) whole start now next (told_few t m.entry) m.told (a m.entry g m.grown) heard

pub hears_same : (script : Script) (g new : Gathered) (whole : Bool) (told now : List Told) → new ≡ g → now ≡ told → Hears (plain script g) (plain script new) whole told now
hears_same script g new whole told now q r = heard_none (plain script g) (plain script new) whole told now (ap (plain script) q) r

pub heard_same : (script : Script) (g new : Gathered) (deaf : Bool) (start told : List Told) → new ≡ g → HaveHeard deaf (heard_in script g) start told → HaveHeard deaf (heard_in script new) start told
heard_same script g new deaf start told q h = subst (λ (m : Gathered). HaveHeard deaf (heard_in script m) start told) (sym q) h

-- at the start
pub heard_empty : ((from : List Told) → HaveHeard false [] from from) → (script : Script) (g : Gathered) (start told : List Told) → g ≡ [] → told ≡ start → HaveHeard false (heard_in script g) start told
heard_empty law script g start told p q =
    subst (λ (m : Gathered). HaveHeard false (heard_in script m) start told) (sym p)
    (subst (λ (ts : List Told). HaveHeard false [] start ts) (sym q) (law start))

-- the keeper was asked as often as the journal says, so no more than once more
pub once_more : (script : Script) (from : Origin) (g : Gathered) (x : EnginesState) → IsAsked script from g x → IsAskedOnceMore script from g x
once_more script from g x w = let a = w.few in record { later = w.later; few = omega (arith, a) }

pub first_off : (a b : Bool) → (a || b) ≡ false → a ≡ false
first_off false b e = refl
first_off true b e = e

-- whether all heard it is said by another answer
pub heard_so : (h new : Journal) (b c : Bool) (told next : List Told) → b ≡ c → Hears h new b told next → Hears h new c told next
heard_so h new b c told next p w = subst (λ d. Hears h new d told next) p w

pub none_ok : {T E : Type 0} (r : Result T E) → is_err r ≡ true → is_ok r ≡ false
none_ok (Ok t) p = absurd (true≢false (sym p))
none_ok (Err e) p = refl
