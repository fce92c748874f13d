-- What a region answers is the reply that is due, and afterwards it stands for the journal with the entry.
use Rattle.std.proofs.Common.{◌≡◌, ◌⊎◌, ℕ, Bool, true, false, refl, sym, ap, ◌∙◌, inl, inr}
use Rattle.std.proofs.lemmas.Bool.{true≢false, false≢true}
use Rattle.hib_base.specs.Tables.{Tables}
use Rattle.hib_journal.specs.Types.{Key, Strategy, Script, Act, Reply}
use Rattle.hib_journal.specs.Sessions.{Journal}
use Rattle.hib_journal.specs.Next.{strategy, is_cached_by}
use Rattle.hib_journal.specs.Legal.{reply_of}
use Rattle.hib_rw_region.specs.Region.{RegionState}
use Rattle.hib_rw_region.specs.Laws as SlotLaws
use Rattle.hib_engines.specs.declared.region.Region.{Region}
use Rattle.hib_engines.specs.Region.{got, put, lock, unlock, insert, update, remove, evict, answer_in, is_regional, acts_on, IsSlotsOf, IsPlaced, Suits}
use Rattle.hib_engines.specs.Laws.{Laws}

-- a strategy is not two

pub uncached_not : (g : Strategy) → g ≡ Strategy.Uncached → is_cached_by g ≡ true → ⊥
uncached_not g p q = false≢true (sym (ap is_cached_by p) ∙ q)

abbrev pub is_read_write : Strategy → Bool
is_read_write Strategy.ReadWrite = true
is_read_write _ = false

abbrev pub is_read_only : Strategy → Bool
is_read_only Strategy.ReadOnly = true
is_read_only _ = false

abbrev pub is_nonstrict : Strategy → Bool
is_nonstrict Strategy.Nonstrict = true
is_nonstrict _ = false

pub apart : (t : Strategy → Bool) (g a b : Strategy) → g ≡ a → g ≡ b → t a ≡ false → t b ≡ true → ⊥
apart t g a b p q x y = true≢false (sym y ∙ (ap t (sym q ∙ p) ∙ x))

of_script : (script : Script) (k : Key) (x : RegionState) (h : Journal) → IsSlotsOf script k.entity x h → SlotLaws.IsOfScript script x k h
of_script script k x h p = record { strategy = p.strategy; capacity = p.capacity; timeout = p.timeout; stands = p.stands }

-- ---- answers

pub answers : Laws → (script : Script) (start : Tables) (h : Journal) (s now : ℕ) (x : Region) (a : Act) → is_regional a ≡ true →
    IsPlaced script (acts_on a) h x → Suits (strategy script (acts_on a)) a → answer_in x now a ≡ reply_of script start h s now a
answers l script start h s now x (Act.Get k time) r p u = by_region x p
  where
    by_region : (x : Region) → IsPlaced script k.entity h x → got x k.id time ≡ reply_of script start h s now (Act.Get k time)
    by_region Region.Uncached p = absurd (uncached_not (strategy script k.entity) p u)
    by_region (Region.ReadOnly y) p = l.read_only_gets script start h s now y k time p.strategy p.stands
    by_region (Region.Nonstrict y) p = l.nonstrict_gets script start h s now y k time p.strategy p.stands
    by_region (Region.ReadWrite y) p = l.slot_gets script start h s now y k time (of_script script k y h p)
answers l script start h s now x (Act.Put k row time floor) r p u = by_region x p
  where
    by_region : (x : Region) → IsPlaced script k.entity h x → Reply.Put (put x k.id row time floor) ≡ reply_of script start h s now (Act.Put k row time floor)
    by_region Region.Uncached p = absurd (uncached_not (strategy script k.entity) p u)
    by_region (Region.ReadOnly y) p = l.read_only_puts script start h s now y k row time floor p.strategy p.capacity p.stands
    by_region (Region.Nonstrict y) p = l.nonstrict_puts script start h s now y k row time floor p.strategy p.capacity p.stands
    by_region (Region.ReadWrite y) p = l.slot_puts script start h s now y k row time floor (of_script script k y h p)
answers l script start h s now x (Act.Lock k version floor) r p u = by_region x p
  where
    by_region : (x : Region) → IsPlaced script k.entity h x → Reply.Locked (lock x k.id floor now) ≡ reply_of script start h s now (Act.Lock k version floor)
    by_region Region.Uncached p = absurd (apart is_read_write (strategy script k.entity) Strategy.Uncached Strategy.ReadWrite p u refl refl)
    by_region (Region.ReadOnly y) p = absurd (apart is_read_write (strategy script k.entity) Strategy.ReadOnly Strategy.ReadWrite p.strategy u refl refl)
    by_region (Region.Nonstrict y) p = absurd (apart is_read_write (strategy script k.entity) Strategy.Nonstrict Strategy.ReadWrite p.strategy u refl refl)
    by_region (Region.ReadWrite y) p = l.slot_locks script start h s now y k version floor (of_script script k y h p)
answers l script start h s now x (Act.Unlock k i) r p u = by_region x p
  where
    by_region : (x : Region) → IsPlaced script k.entity h x → Reply.Unlocked (unlock x k.id i) ≡ reply_of script start h s now (Act.Unlock k i)
    by_region Region.Uncached p = absurd (apart is_read_write (strategy script k.entity) Strategy.Uncached Strategy.ReadWrite p u refl refl)
    by_region (Region.ReadOnly y) p = absurd (apart is_read_write (strategy script k.entity) Strategy.ReadOnly Strategy.ReadWrite p.strategy u refl refl)
    by_region (Region.Nonstrict y) p = absurd (apart is_read_write (strategy script k.entity) Strategy.Nonstrict Strategy.ReadWrite p.strategy u refl refl)
    by_region (Region.ReadWrite y) p = l.slot_unlocks script start h s now y k i (of_script script k y h p)
answers l script start h s now x (Act.AfterUpdate k i row) r p u = by_region x p
  where
    by_region : (x : Region) → IsPlaced script k.entity h x → Reply.Updated (update x k.id i) ≡ reply_of script start h s now (Act.AfterUpdate k i row)
    by_region Region.Uncached p = absurd (apart is_read_write (strategy script k.entity) Strategy.Uncached Strategy.ReadWrite p u refl refl)
    by_region (Region.ReadOnly y) p = absurd (apart is_read_write (strategy script k.entity) Strategy.ReadOnly Strategy.ReadWrite p.strategy u refl refl)
    by_region (Region.Nonstrict y) p = absurd (apart is_read_write (strategy script k.entity) Strategy.Nonstrict Strategy.ReadWrite p.strategy u refl refl)
    by_region (Region.ReadWrite y) p = l.slot_updates script start h s now y k i row (of_script script k y h p)
answers l script start h s now x (Act.AfterInsert k row floor) r p u = by_region x p u
  where
    by_region : (x : Region) → IsPlaced script k.entity h x → (strategy script k.entity ≡ Strategy.ReadOnly) ⊎ (strategy script k.entity ≡ Strategy.ReadWrite) →
        Reply.Inserted (insert x k.id floor) ≡ reply_of script start h s now (Act.AfterInsert k row floor)
    by_region Region.Uncached p (inl v) = absurd (apart is_read_only (strategy script k.entity) Strategy.Uncached Strategy.ReadOnly p v refl refl)
    by_region Region.Uncached p (inr v) = absurd (apart is_read_write (strategy script k.entity) Strategy.Uncached Strategy.ReadWrite p v refl refl)
    by_region (Region.Nonstrict y) p (inl v) = absurd (apart is_read_only (strategy script k.entity) Strategy.Nonstrict Strategy.ReadOnly p.strategy v refl refl)
    by_region (Region.Nonstrict y) p (inr v) = absurd (apart is_read_write (strategy script k.entity) Strategy.Nonstrict Strategy.ReadWrite p.strategy v refl refl)
    by_region (Region.ReadOnly y) p v = l.inserts script start h s now y k row floor p.strategy p.capacity p.stands
    by_region (Region.ReadWrite y) p v = l.slot_inserts script start h s now y k row floor (of_script script k y h p)
answers l script start h s now x (Act.RegionRemove k) r p u = by_region x p u
  where
    by_region : (x : Region) → IsPlaced script k.entity h x → (strategy script k.entity ≡ Strategy.ReadOnly) ⊎ (strategy script k.entity ≡ Strategy.Nonstrict) →
        remove x k.id ≡ reply_of script start h s now (Act.RegionRemove k)
    by_region Region.Uncached p (inl v) = absurd (apart is_read_only (strategy script k.entity) Strategy.Uncached Strategy.ReadOnly p v refl refl)
    by_region Region.Uncached p (inr v) = absurd (apart is_nonstrict (strategy script k.entity) Strategy.Uncached Strategy.Nonstrict p v refl refl)
    by_region (Region.ReadOnly y) p v = l.removes script start h s now y k p.stands
    by_region (Region.Nonstrict y) p v = l.removes script start h s now y k p.stands
    by_region (Region.ReadWrite y) p (inl v) = absurd (apart is_read_only (strategy script k.entity) Strategy.ReadWrite Strategy.ReadOnly p.strategy v refl refl)
    by_region (Region.ReadWrite y) p (inr v) = absurd (apart is_nonstrict (strategy script k.entity) Strategy.ReadWrite Strategy.Nonstrict p.strategy v refl refl)
answers l script start h s now x (Act.Evict k) r p u = by_region x p
  where
    by_region : (x : Region) → IsPlaced script k.entity h x → Reply.Evicted (evict x k.id) ≡ reply_of script start h s now (Act.Evict k)
    by_region Region.Uncached p = absurd (uncached_not (strategy script k.entity) p u)
    by_region (Region.ReadOnly y) p = l.read_only_evicts script start h s now y k p.strategy p.stands
    by_region (Region.Nonstrict y) p = l.nonstrict_evicts script start h s now y k p.strategy p.stands
    by_region (Region.ReadWrite y) p = l.slot_evicts script start h s now y k (of_script script k y h p)
answers l script start h s now x _ r p u = absurd (false≢true r)
