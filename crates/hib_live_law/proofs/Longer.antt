-- Plans that go on where others are over.
use Rattle.std.proofs.Common.{◌≡◌, Bool, true, false, cond, List, [], ◌∷◌, Some, None, Option, refl, ◌∙◌, sym, ap}
use Rattle.hib_journal.specs.Types.{Act, Entry}
use Rattle.hib_journal.specs.Sessions.{Journal}
use Rattle.hib_journal.specs.Plan.{Plan, one, each, after, left_of, first_act}

-- q does what p does for as long as p is not over
abbrev pub Extends : Plan → Plan → Type 0
Extends Plan.Over q = Unit {0}
Extends (Plan.Do a f) Plan.Over = ⊥
Extends (Plan.Do a f) (Plan.Do b g) = (a ≡ b) × ((e : Entry) → Extends (f e) (g e))

-- what comes after a block goes on so
abbrev pub GoesOn : (Journal → Plan) → (Journal → Plan) → Type 0
GoesOn go on = (d : Journal) → Extends (go d) (on d)

pub one_longer : (a : Act) (done : Journal) (go on : Journal → Plan) → GoesOn go on → Extends (one a done go) (one a done on)
one_longer a done go on f = (refl, λ e. f (e ∷ done))

pub each_longer : (acts : List Act) (done : Journal) (go on : Journal → Plan) → GoesOn go on → Extends (each acts done go) (each acts done on)
each_longer [] done go on f = f done
each_longer (a ∷ acts) done go on f = (refl, λ e. each_longer acts (e ∷ done) go on f)

pub if_longer : (b : Bool) (p q x y : Plan) → Extends p x → Extends q y → Extends (cond b p q) (cond b x y)
if_longer true p q x y f g = f
if_longer false p q x y f g = g

after_longer : (p q : Plan) (e : Entry) → Extends p q → Extends (after p e) (after q e)
after_longer Plan.Over q e x = tt
after_longer (Plan.Do a f) Plan.Over e x = absurd x
after_longer (Plan.Do a f) (Plan.Do b g) e x = x.1 e

-- so it does after each entry
pub left_longer : (p q : Plan) (mine : Journal) → Extends p q → Extends (left_of p mine) (left_of q mine)
left_longer p q [] x = x
left_longer p q (e ∷ mine) x = after_longer (left_of p mine) (left_of q mine) e (left_longer p q mine x)

-- an act that is due in p is due in q
pub first_longer : (p q : Plan) (a : Act) → Extends p q → first_act p ≡ Some a → first_act q ≡ Some a
first_longer Plan.Over q a x f = absurd (no f)
  where
    no : ◌≡◌ {A = Option Act} None (Some a) → ⊥
    no p = cc
first_longer (Plan.Do b f) Plan.Over a x p = absurd x
first_longer (Plan.Do b f) (Plan.Do c g) a x p = ap (λ z. Some z) (sym x.0) ∙ p
