-- What a region answers to a fence is due, and afterwards it stands for the list with both entries. Its second half takes no memory.
use Rattle.std.specs.Prelude.{nat_eq}
use Rattle.std.proofs.Common.{◌≡◌, ℕ, ◌+◌, ◌<◌, true, cond, ◌∷◌, Some, None, Option, refl, ap, ◌∙◌, subst, arith}
use Rattle.std.proofs.lemmas.Bool.{eq-eqb}
use Rattle.hib_journal.specs.Types.{Key, Part, Script, Strategy, Act, Reply, Locked, Unlocked}
use Rattle.hib_journal.specs.Sessions.{Journal, last_tick, same_part}
use Rattle.hib_journal.specs.Room.{has_entry}
use Rattle.hib_journal.specs.Next.{strategy}
use Rattle.hib_journal.specs.Lists.{IsLate}
use Rattle.hib_soft_lock.specs.declared.slot.Slot.{Slot as Kept}
use Rattle.hib_soft_lock.specs.Shown.{shown}
use Rattle.hib_rw_region.specs.Region.{RegionState, kept_in, slot_in, shown_in, room_in}
use Rattle.hib_rw_region.specs.Steps as Slots
use Rattle.hib_rw_region.proofs.Stands.{lookup_set}
use Rattle.hib_journal.specs.Regions as Regions
use Rattle.hib_engines.specs.declared.region.Region.{Region}
use Rattle.hib_engines.specs.Region.{lock, after_lock, unlock, after_unlock, has_slot, IsPlaced}
use Rattle.hib_engines.specs.Laws.{Laws}
use Rattle.hib_engines.specs.Served.{IsServed}
use Rattle.hib_engines.specs.Fenced.{fence_lock, IsFenced}
use Rattle.hib_engines.proofs.RegionServed.{region_served}

-- a key that is locked has a slot

is_entry : (s : Kept) → has_entry (shown s) ≡ true
is_entry (Kept.Item r t) = refl
is_entry (Kept.Lock i v t n x u) = refl

slot_set : (id : ℕ) (s : Kept) (x : RegionState) → has_entry (slot_in (Slots.with_slot id s x) id) ≡ true
slot_set id s x = ap (λ o. has_entry (shown_in o)) (lookup_set id id s x.slots ∙ ap (λ b. cond b (Some s) (kept_in x id)) (eq-eqb id id refl)) ∙ is_entry s

pub locked_slot : (x : Region) (id : ℕ) (v : Option ℕ) (floor now : ℕ) → has_slot (after_lock x id v floor now) id ≡ true
locked_slot Region.Uncached id v floor now = refl
locked_slot (Region.ReadOnly x) id v floor now = refl
locked_slot (Region.Nonstrict x) id v floor now = refl
locked_slot (Region.ReadWrite x) id v floor now =
    slot_set id (Slots.locked_by x.timeout v now (kept_in x id)) (Slots.without (Regions.lock x.timeout (slot_in x id) (room_in x floor) now).evicted x)

-- the next tick is late for the region, after its entry at this one

late_next : (l : Journal) (n now : ℕ) → cond (same_part (Part.Region n) (Part.Region n)) now (last_tick (λ d. same_part (Part.Region n) d.part) l) < now + 1
late_next l n now = subst (λ b. cond b now (last_tick (λ d. same_part (Part.Region n) d.part) l) < now + 1) (sym_true n) (omega arith)
  where
    sym_true : (n : ℕ) → true ≡ same_part (Part.Region n) (Part.Region n)
    sym_true n = Rattle.std.proofs.Common.sym (eq-eqb n n refl)

pub fenced : Laws → (script : Script) (l : Journal) (now : ℕ) (k : Key) (floor : ℕ) (p : Locked) (q : Unlocked) (x y z : Region) →
    p ≡ lock x k.id floor now → y ≡ after_lock x k.id None floor now → q ≡ unlock y k.id p.id → z ≡ after_unlock y k.id p.id (now + 1) →
    IsPlaced script k.entity l x → IsLate (Part.Region k.entity) now l → strategy script k.entity ≡ Strategy.ReadWrite →
    IsFenced (λ m. IsPlaced script k.entity m z) script l now k floor p q
fenced w script l now k floor p q x y z a b c d placed late g =
    let first : IsServed (λ m. IsPlaced script k.entity m y) script l None now (Act.Lock k None floor) (Reply.Locked p) =
    region_served w script l k.entity None now (Act.Lock k None floor) (Reply.Locked p) x y placed late refl g (ap (λ t. Reply.Locked t) a) b in
    let second : IsServed (λ m. IsPlaced script k.entity m z) script (fence_lock now k floor p ∷ l) None (now + 1) (Act.Unlock k p.id) (Reply.Unlocked q) =
    region_served w script (fence_lock now k floor p ∷ l) k.entity None (now + 1) (Act.Unlock k p.id) (Reply.Unlocked q) y z first.stands
    (late_next l k.entity now) refl g (ap (λ t. Reply.Unlocked t) c) d in
    record { lock = first.reply; unlock = second.reply; stands = second.stands }
