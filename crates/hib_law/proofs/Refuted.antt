-- No claim is empty: for each part of the law a journal that breaks it. None of these is legal.
use Rattle.std.proofs.Common.{◌≡◌, inl, inr, true, false, [], ◌∷◌, Some, None, Option, refl}
use Rattle.hib_journal.specs.Types.{Row, Strategy, Checked, Miss, Put, Unlocked, Script, Part, Act, Reply}
use Rattle.hib_journal.specs.Sessions.{Journal}
use Rattle.hib_journal.specs.Slot.{Slot, slot_from}
use Rattle.hib_journal.specs.Room.{key}
use Rattle.hib_journal.specs.Sound.{is_sound}
use Rattle.hib_law.specs.Law.{Coheres}
use Rattle.hib_law.proofs.Basics.{none_some}

-- one entity, no row, one session without a statement
abbrev cached : Strategy → Script
cached g = record {
  timeout = 10;
  results = 1;
  mapping = record { name = []; strategy = g; versioned = false; capacity = 1; columns = [] } ∷ [];
  rows = [];
  queries = [];
  schedule = [];
  sessions = record { name = []; statements = [] } ∷ [];
}

abbrev row : Row
row = record { version = None; cells = [] }

-- a journal of one entry
abbrev done : Act → Reply → Journal
done a r = record { tick = 1; session = Some 0; part = Part.Region 0; act = a; reply = r } ∷ []

-- a row is stored that was never committed
stored : Coheres (cached Strategy.ReadWrite) [] (done (Act.Put (key 0 1) row 0 0) (Reply.Put (Put.Stored None false))) → ⊥
unfolding slot_from is_sound
stored c = none_some ((c.rows (key 0 1) refl).item.0 refl row 1 refl)

-- a hit answers such a row
hit : Coheres (cached Strategy.ReadWrite) [] (done (Act.Get (key 0 1) 0) (Reply.Hit row)) → ⊥
unfolding slot_from is_sound
hit c = none_some ((c.rows (key 0 1) refl).hit.0 refl 0 0 row refl refl refl).0

-- and so does a load
loaded : Coheres (cached Strategy.ReadWrite) [] (done (Act.Load (key 0 1)) (Reply.Row (Some row))) → ⊥
loaded c = let p : ◌≡◌ {A = Option Row} (Some row) None = c.finds.0.load 0 (key 0 1) (Some row) refl refl refl in cc

-- a list is fresh that was never found
fresh : Coheres (cached Strategy.ReadWrite) [] (done (Act.Check 0 0) (Reply.Check Checked.Fresh)) → ⊥
fresh c = let h = c.hits.0 0 0 0 refl refl refl in none_some h.found

-- a key is said to be locked that nobody has locked
locked : Coheres (cached Strategy.ReadWrite) [] (done (Act.Get (key 0 1) 0) (Reply.Miss (Miss.Locked 1))) → ⊥
unfolding slot_from is_sound
locked c =
    let m = c.misses.0.get (key 0 1) 0 (Miss.Locked 1) refl refl in
    let p : Slot.Vacant ≡ Slot.Lock m.0 = m.1 in cc

-- the item of an unsound key, and of a weaker region, was never committed
old : Coheres (cached Strategy.ReadWrite) [] (done (Act.Put (key 0 1) row 0 0) (Reply.Put (Put.Stored None true))) → ⊥
unfolding slot_from is_sound
old c = elim ((c.items (key 0 1)).0.slot row 1 refl) [ inl p ↦ none_some p | inr p ↦ none_some p.1 ]

weak : Coheres (cached Strategy.Nonstrict) [] (done (Act.Put (key 0 1) row 0 0) (Reply.Put (Put.Stored None false))) → ⊥
weak c = elim ((c.items (key 0 1)).0.item row 1 refl) [ inl p ↦ none_some p | inr p ↦ none_some p.1 ]

-- an item of a read-only region was never given
given : Coheres (cached Strategy.ReadOnly) [] (done (Act.Put (key 0 1) row 0 0) (Reply.Put (Put.Stored None false))) → ⊥
given c = elim ((c.given (key 0 1) refl).0 row 1 refl) [ inl p ↦ p | inr p ↦ none_some p ]

-- a lock is given back that nobody holds
unlocked : Coheres (cached Strategy.ReadWrite) [] (done (Act.Unlock (key 0 1) 1) (Reply.Unlocked (Unlocked.Released 0))) → ⊥
unfolding slot_from is_sound
unlocked c = let p : false ≡ true = (((c.locks (key 0 1) refl).back.0 refl).unlock 0 1 refl refl).0 in cc

-- a session does an act that its statements don't make due
strange : Coheres (cached Strategy.ReadWrite) [] (done Act.Commit Reply.Done) → ⊥
strange c = none_some (c.steps 0).1
