-- What an entry of a region, and one elsewhere, does to each of its keys.
use Rattle.std.specs.Prelude.{option_and_then, ◌==◌}
use Rattle.std.specs.Option.{option_map_or}
use Rattle.std.proofs.Common.{◌≡◌, ℕ, Bool, true, false, cond, nat_eq, ◌∷◌, Some, None, Option, refl, eq-eqb}
use Rattle.hib_journal.specs.Types.{Key, Act, Reply, Entry}
use Rattle.hib_journal.specs.Sessions.{Journal, is_restart}
use Rattle.hib_journal.specs.Slot.{Touch, history, touch_here, key_in, evicted_in, touch_at}
use Rattle.hib_journal.specs.Room.{key}
use Rattle.hib_room_laws.specs.Elsewhere.{is_of, IsElsewhere}

-- the touch of identifier i by an answer to an act on identifier x
abbrev pub touch_by : ℕ → ℕ → Act → Reply → Option Touch
touch_by x i a r = cond (nat_eq x i) (touch_here a r) (cond (option_map_or (λ v. v == i) (evicted_in r) false) (Some Touch.Leaves) None)

pub touched_by : (k : Key) (h : Journal) (e : Entry) (a : Act) (r : Reply) → e.act ≡ a → e.reply ≡ r → key_in a ≡ Some k → is_restart a ≡ false → (i : ℕ)
    → history (key k.entity i) (e ∷ h) ≡ option_map_or (λ t. (t, e.tick) ∷ (history (key k.entity i) h)) (touch_by k.id i a r) (history (key k.entity i) h)
touched_by k h e a r is_act is_reply names goes i = rw (is_act, is_reply, goes, names, eq-eqb k.entity k.entity refl)

no_touch : (b : Bool) → ◌≡◌ {A = Option Touch} (cond b None None) None
no_touch true = refl
no_touch false = refl

-- an answer that does nothing
pub quiet : (x i : ℕ) (a : Act) (r : Reply) → touch_here a r ≡ None → evicted_in r ≡ None → touch_by x i a r ≡ None
quiet x i a r p q = rw (p, q) (no_touch (nat_eq x i))

untouched : (n i : ℕ) (o : Option Key) (a : Act) (r : Reply) → is_of n o ≡ false → option_and_then (λ j. touch_at (key n i) j a r) o ≡ None
untouched n i None a r h = refl
untouched n i (Some k) a r h = rw h

pub elsewhere : (n i : ℕ) (h : Journal) (e : Entry) → IsElsewhere n e → history (key n i) (e ∷ h) ≡ history (key n i) h
elsewhere n i h e apart = rw (apart.stays, untouched n i (key_in e.act) e.act e.reply apart.key)
