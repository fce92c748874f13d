-- What listeners tell, and what it comes to when they are told an entry.
use Rattle.std.specs.Prelude.{ℕ, Bool, true, false, List, [], ◌∷◌, map, Option}
use Rattle.hib_journal.specs.Types.{Entry}
use Rattle.hib_outside.specs.Hears.{heard_after, left_after, IsDue}
use Rattle.hib_outside.specs.declared.listener.Heard.{Heard}

-- what one listener tells: the entries that it heard, and how many it has still to hear
pub record Told : Type 0 where
  pub heard : Option (List Entry)
  pub left : Option ℕ

-- what each of some listeners tells
abbrev pub tells : {L : Type 0} → (L → Option (List Entry)) → (L → Option ℕ) → List L → List Told
tells heard left listeners = map (λ l. record { heard = heard l; left = left l }) listeners

-- what it tells after its answer to an entry
abbrev pub told_after : Heard → Entry → Told → Told
told_after answer entry one = record { heard = heard_after answer entry one.heard; left = left_after answer one.left }

abbrev pub MayAnswer : Heard → Told → Type 0
MayAnswer answer one = IsDue answer one.heard one.left

-- listeners before and after they are told an entry, in their order; whether all of them have heard it
pub data AreTold (entry : Entry) : Bool → List Told → List Told → Type 0 where
  -- there are no more
  All : AreTold entry true [] []
  -- one hears it and stays
  Stays : (one : Told) (whole : Bool) (before after : List Told) → MayAnswer Heard.Stay one
      → AreTold entry whole before after → AreTold entry whole (one ∷ before) (told_after Heard.Stay entry one ∷ after)
  -- one hears it and is dropped
  Leaves : (one : Told) (whole : Bool) (before after : List Told) → MayAnswer Heard.Leave one
      → AreTold entry whole before after → AreTold entry whole (one ∷ before) after
  -- one has no memory: neither it nor any after it has heard it
  Stops : (one : Told) (others : List Told) → AreTold entry false (one ∷ others) (one ∷ others)
