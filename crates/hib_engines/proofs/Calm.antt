-- An answer of a part that isn't the store says nothing of a failure.
use Rattle.std.specs.Prelude.{is_some}
use Rattle.std.specs.Option.{option_map_or}
use Rattle.std.proofs.Common.{◌≡◌, ℕ, Bool, true, false, cond, ◌&&◌, Some, None, Option, refl}
use Rattle.hib_journal.specs.Types.{Row, Act, Reply, Miss}
use Rattle.hib_journal.specs.Slot.{Slot}
use Rattle.hib_journal.specs.Regions as Regions
use Rattle.hib_journal.specs.Results.{Result}
use Rattle.hib_journal.specs.Runs.{is_fault}
use Rattle.hib_other_regions.specs.Items as Items
use Rattle.hib_engines.specs.declared.region.Region.{Region}
use Rattle.hib_engines.specs.Region.{answer_in}

got_item_calm : (b : Bool) (t : ℕ) (o : Option (Row × ℕ)) → is_fault (Regions.got_item b t o) ≡ false
got_item_calm b t None = refl
got_item_calm b t (Some p) = by_test (b && Rattle.std.specs.Prelude.nat_le t p.1)
  where
    by_test : (c : Bool) → is_fault (cond c (Reply.Miss (Miss.Young p.1)) (Reply.Hit p.0)) ≡ false
    by_test true = refl
    by_test false = refl

got_calm : (x : Slot) (t : ℕ) → is_fault (Regions.got x t) ≡ false
got_calm Slot.Vacant t = refl
got_calm (Slot.Item r u) t = by_test (Rattle.std.specs.Prelude.nat_lt u t)
  where
    by_test : (c : Bool) → is_fault (cond c (Reply.Hit r) (Reply.Miss (Miss.Young u))) ≡ false
    by_test true = refl
    by_test false = refl
got_calm (Slot.Lock y) t = refl

remove_calm : (o : Option (Row × ℕ)) → is_fault (cond (is_some o) Reply.Dropped Reply.Absent) ≡ false
remove_calm None = refl
remove_calm (Some p) = refl

pub answer_calm : (x : Region) (now : ℕ) (a : Act) → is_fault (answer_in x now a) ≡ false
answer_calm Region.Uncached now (Act.Get k t) = refl
answer_calm (Region.ReadOnly y) now (Act.Get k t) = got_item_calm true t (Items.item_in y k.id)
answer_calm (Region.Nonstrict y) now (Act.Get k t) = got_item_calm false 0 (Items.item_in y k.id)
answer_calm (Region.ReadWrite y) now (Act.Get k t) = got_calm (Rattle.hib_rw_region.specs.Region.slot_in y k.id) t
answer_calm Region.Uncached now (Act.RegionRemove k) = refl
answer_calm (Region.ReadOnly y) now (Act.RegionRemove k) = remove_calm (Items.item_in y k.id)
answer_calm (Region.Nonstrict y) now (Act.RegionRemove k) = remove_calm (Items.item_in y k.id)
answer_calm (Region.ReadWrite y) now (Act.RegionRemove k) = refl
answer_calm x now _ = refl

-- of a look
pub found_calm : (o : Option Result) → is_fault (option_map_or (λ r. Reply.Found r.0 r.1) o Reply.Absent) ≡ false
found_calm None = refl
found_calm (Some r) = refl
