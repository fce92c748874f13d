-- The keys that an entry touches.
use Rattle.std.specs.Prelude.{ℕ, Bool, false, if◌then◌else◌, ◌==◌, List, [], ◌++◌, Some, None, Option, is_some, option_to_list}
use Rattle.std.specs.Option.{option_map_or}
use Rattle.hib_base.specs.Keys.{same_key}
use Rattle.hib_journal.specs.Types.{Key, Act, Reply, Entry}
use Rattle.hib_journal.specs.Slot.{touch_here, key_in, evicted_in}

-- another key that leaves the region for this one
abbrev pub leaving : Key → Option ℕ → Option Key
leaving k None = None
leaving k (Some i) = if i == k.id then None else Some (record { entity = k.entity; id = i })

abbrev pub is_key : Key → Option Key → Bool
is_key k o = option_map_or (λ j. same_key j k) o false

abbrev pub touched_by : Act → Reply → Key → List Key
touched_by a r k = option_to_list (if is_some (touch_here a r) then Some k else None) ++ option_to_list (leaving k (evicted_in r))

-- those that an entry touches: the one that it names, and the one that leaves for it
abbrev pub touched_keys : Entry → List Key
touched_keys e = option_map_or (touched_by e.act e.reply) (key_in e.act) []
