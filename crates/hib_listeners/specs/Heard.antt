-- What listeners have heard of a run. It speaks of those that tell.
use Rattle.std.specs.Prelude.{◌≡◌, ℕ, ◌-◌, ◌==◌, ◌||◌, nat_lt, Bool, true, false, if◌then◌else◌, List, [], ◌∷◌, ◌++◌, length, Some, None, Option}
use Rattle.std.specs.Option.{option_map}
use Rattle.std.specs.List.{flat_map}
use Rattle.hib_journal.specs.Types.{Entry}
use Rattle.hib_listeners.specs.Told.{Told}

-- one that tells: what it heard, and how many it has still to hear
abbrev pub Teller : Type 0
Teller = List Entry × Option ℕ

abbrev pub teller : Option (List Entry) → Option ℕ → List Teller
teller None left = []
teller (Some heard) left = (heard, left) ∷ []

-- those of some listeners that tell, in their order
abbrev pub tellers : List Told → List Teller
tellers listeners = flat_map (λ one. teller one.heard one.left) listeners

-- whether it stays when it hears so many entries: it never leaves, or has more still to hear; and it stays when it hears none
abbrev pub stays_for : ℕ → Option ℕ → Bool
stays_for count None = true
stays_for count (Some left) = count == 0 || nat_lt count left

abbrev pub after_hearing : List Entry → Teller → List Teller
after_hearing es one = if stays_for (length es) one.1 then (one.0 ++ es, option_map (λ n. n - length es) one.1) ∷ [] else []

-- those that stay when all hear these entries, each with these after what it had heard
abbrev pub after_entries : List Entry → List Teller → List Teller
after_entries es all = flat_map (after_hearing es) all

-- listeners at the start and now, in a run of these entries; whether one had no memory for the last of them. Each that tells
-- has heard all entries, but that from the one without memory on nobody has heard the last
abbrev pub HaveHeard : Bool → List Entry → List Told → List Told → Type 0
HaveHeard false es start now = tellers now ≡ after_entries es (tellers start)
HaveHeard true es start now =
    (before : List Entry) × (last : Entry) × (front : List Teller) × (back : List Teller)
    × (es ≡ before ++ last ∷ []) × (tellers start ≡ front ++ back) × (tellers now ≡ after_entries es front ++ after_entries before back)
