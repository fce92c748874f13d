-- What is known stands for a legal journal with one entry more.
use Rattle.std.specs.Prelude.{nat_eq}
use Rattle.std.specs.Map.{lookup}
use Rattle.std.specs.Option.{option_map_or}
use Rattle.std.proofs.Common.{◌≡◌, ℕ, zero, suc, ◌+◌, false, cond, List, [], ◌∷◌, length, Some, None, Option, is_some, refl, sym, ap, ◌∙◌, subst, inl, inr}
use Rattle.hib_base.specs.Tables.{Tables}
use Rattle.hib_base.proofs.Tables.{Tested, tested}
use Rattle.hib_journal.specs.Types.{Key, Strategy, Script, Entry}
use Rattle.hib_journal.specs.Sessions.{Journal, is_restart}
use Rattle.hib_journal.specs.Slot.{Touch, Slot, History, touch, slot, history}
use Rattle.hib_journal.specs.Room.{item}
use Rattle.hib_journal.specs.Next.{strategy}
use Rattle.hib_journal.specs.Stamps.{names, stamp_after}
use Rattle.hib_journal.specs.Sound.{keeps_by}
use Rattle.hib_journal.specs.Legal.{IsLegal}
use Rattle.hib_journal.proofs.Slots.{touched, IsKept}
use Rattle.hib_law.proofs.Views.{history_step, slot_touched, slot_rests}
use Rattle.hib_law.proofs.Coherent.{vacant_at_first}
use Rattle.hib_law.proofs.Whole.{is_kept}
use Rattle.hib_follow.specs.Cached.{item_slot, cached_by, cached}
use Rattle.hib_follow.specs.Newest.{tables_in}
use Rattle.hib_follow.specs.Steps.{slot_after, slot_if, item_after, item_if, after}
use Rattle.hib_follow.specs.Shelves.{Shelves, kept_slot, kept_at, since_at, AreShelves}
use Rattle.hib_follow.specs.Marks.{Stamps, value_at, stamped_since, AreStamps, AreKeeps}

touched_is : (timeout : ℕ) (t : Touch) (now : ℕ) (s : Slot) → touched timeout t now s ≡ slot_after timeout now t s
touched_is timeout (Touch.Stores r late) now s = refl
touched_is timeout Touch.Evicts now s = refl
touched_is timeout Touch.Expires now s = refl
touched_is timeout Touch.Leaves now s = refl
touched_is timeout (Touch.Locks v) now Slot.Vacant = refl
touched_is timeout (Touch.Locks v) now (Slot.Item r t) = refl
touched_is timeout (Touch.Locks v) now (Slot.Lock l) = refl
touched_is timeout (Touch.Releases n) now Slot.Vacant = refl
touched_is timeout (Touch.Releases n) now (Slot.Item r t) = refl
touched_is timeout (Touch.Releases zero) now (Slot.Lock l) = refl
touched_is timeout (Touch.Releases (suc n)) now (Slot.Lock l) = refl

item_touched : (now : ℕ) (t : Touch) (s : History) → item_slot (item ((t, now) ∷ s)) ≡ item_after now t (item_slot (item s))
item_touched now (Touch.Stores r late) s = refl
item_touched now Touch.Evicts s = refl
item_touched now Touch.Expires s = refl
item_touched now Touch.Leaves s = refl
item_touched now (Touch.Locks v) s = refl
item_touched now (Touch.Releases n) s = refl

module _ (script : Script) (start : Tables) (k : Key) (e : Entry) (h : Journal) (l : IsLegal script (Some start) (e ∷ h)) where
  longer : is_restart e.act ≡ false → (t : Option Touch) → touch k e ≡ t → history k (e ∷ h) ≡ option_map_or (λ (x : Touch). (x, e.tick) ∷ history k h) t (history k h)
  longer n t p = history_step k e h n ∙ ap (λ (o : Option Touch). option_map_or (λ (x : Touch). (x, e.tick) ∷ history k h) o (history k h)) p

  slot_next : strategy script k.entity ≡ Strategy.ReadWrite →
      slot script.timeout k (e ∷ h) ≡ cond (is_restart e.act) Slot.Vacant (slot_if script.timeout e.tick (touch k e) (slot script.timeout k h))
  slot_next g = by (tested (is_restart e.act))
    where
      by : Tested (is_restart e.act) → slot script.timeout k (e ∷ h) ≡ cond (is_restart e.act) Slot.Vacant (slot_if script.timeout e.tick (touch k e) (slot script.timeout k h))
      by (inl r) = rw r (vacant_at_first script.timeout)
      by (inr n) = on (touch k e) refl ∙ sym (ap (λ b. cond b Slot.Vacant (slot_if script.timeout e.tick (touch k e) (slot script.timeout k h))) n)
        where
          on : (t : Option Touch) → touch k e ≡ t → slot script.timeout k (e ∷ h) ≡ slot_if script.timeout e.tick (touch k e) (slot script.timeout k h)
          on None p = slot_rests script k e h n p ∙ sym (ap (λ (o : Option Touch). slot_if script.timeout e.tick o (slot script.timeout k h)) p)
          on (Some t) p =
              let kept : IsKept script.timeout (history k (e ∷ h)) = is_kept script start k g (e ∷ h) l in
              let here : IsKept script.timeout ((t, e.tick) ∷ history k h) = subst (IsKept script.timeout) (longer n (Some t) p) kept in
              slot_touched script k e h t n p here ∙ touched_is script.timeout t e.tick (slot script.timeout k h)
              ∙ sym (ap (λ (o : Option Touch). slot_if script.timeout e.tick o (slot script.timeout k h)) p)

  item_next : item_slot (item (history k (e ∷ h))) ≡ cond (is_restart e.act) Slot.Vacant (item_if e.tick (touch k e) (item_slot (item (history k h))))
  item_next = by (tested (is_restart e.act))
    where
      by : Tested (is_restart e.act) → item_slot (item (history k (e ∷ h))) ≡ cond (is_restart e.act) Slot.Vacant (item_if e.tick (touch k e) (item_slot (item (history k h))))
      by (inl r) = rw r refl
      by (inr n) = on (touch k e) refl ∙ sym (ap (λ b. cond b Slot.Vacant (item_if e.tick (touch k e) (item_slot (item (history k h))))) n)
        where
          on : (t : Option Touch) → touch k e ≡ t → item_slot (item (history k (e ∷ h))) ≡ item_if e.tick (touch k e) (item_slot (item (history k h)))
          on None p = ap (λ (s : History). item_slot (item s)) (longer n None p) ∙ sym (ap (λ (o : Option Touch). item_if e.tick o (item_slot (item (history k h)))) p)
          on (Some t) p = ap (λ (s : History). item_slot (item s)) (longer n (Some t) p) ∙ item_touched e.tick t (history k h)
              ∙ sym (ap (λ (o : Option Touch). item_if e.tick o (item_slot (item (history k h)))) p)

  -- what a key has after an entry
  pub cached_next : cached script k (e ∷ h) ≡ cond (is_restart e.act) Slot.Vacant (after (strategy script k.entity) script.timeout e.tick (touch k e) (cached script k h))
  cached_next = by (strategy script k.entity) refl
    where
      by : (g : Strategy) → strategy script k.entity ≡ g →
          cached_by g script.timeout k (e ∷ h) ≡ cond (is_restart e.act) Slot.Vacant (after g script.timeout e.tick (touch k e) (cached_by g script.timeout k h))
      by Strategy.ReadWrite p = slot_next p
      by Strategy.ReadOnly p = item_next
      by Strategy.Nonstrict p = item_next
      by Strategy.Uncached p = item_next

pub shelves_more : (script : Script) (start : Tables) (es : List Entry) (e : Entry) (h : Journal) (n : ℕ) (m m2 : Shelves) → IsLegal script (Some start) (e ∷ h) → length h ≡ n →
    ((k : Key) → kept_slot es (kept_at m2 k)
    ≡ cond (is_restart e.act) Slot.Vacant (after (strategy script k.entity) script.timeout e.tick (touch k e) (kept_slot es (kept_at m k)))) →
    ((k : Key) → since_at m2 k ≡ cond (is_restart e.act) None (cond (is_some (touch k e)) (Some (n + 1)) (since_at m k))) →
    AreShelves script es h m → AreShelves script es (e ∷ h) m2
shelves_more script start es e h n m m2 l p f g a = record {
  slots = λ k. f k ∙ ap (λ s. cond (is_restart e.act) Slot.Vacant (after (strategy script k.entity) script.timeout e.tick (touch k e) s)) (a.slots k)
      ∙ sym (cached_next script start k e h l);
  since = λ k. g k ∙ ap (λ i. cond (is_restart e.act) None (cond (is_some (touch k e)) (Some (i + 1)) (since_at m k))) (sym p)
      ∙ ap (λ o. cond (is_restart e.act) None (cond (is_some (touch k e)) (Some (length h + 1)) o)) (a.since k);
}

pub stamps_more : (script : Script) (e : Entry) (h : Journal) (n : ℕ) (m m2 : Stamps) → length h + 1 ≡ n →
    ((t : ℕ) → value_at m2 t ≡ stamp_after script.timeout t e.act e.tick (value_at m t)) →
    ((t : ℕ) → stamped_since m2 t ≡ cond (is_restart e.act) None (cond (names t (tables_in e.act)) (Some n) (stamped_since m t))) →
    AreStamps script h m → AreStamps script (e ∷ h) m2
stamps_more script e h n m m2 p f g a = record {
  values = λ t. f t ∙ ap (stamp_after script.timeout t e.act e.tick) (a.values t);
  since = λ t. g t ∙ ap (λ i. cond (is_restart e.act) None (cond (names t (tables_in e.act)) (Some i) (stamped_since m t))) (sym p)
      ∙ ap (λ o. cond (is_restart e.act) None (cond (names t (tables_in e.act)) (Some (length h + 1)) o)) (a.since t);
}

pub keeps_more : (e : Entry) (h : Journal) (n : ℕ) (m m2 : List (ℕ × ℕ)) → length h + 1 ≡ n →
    ((q : ℕ) → lookup (nat_eq q) m2 ≡ cond (is_restart e.act) None (cond (keeps_by q e.act) (Some n) (lookup (nat_eq q) m))) →
    AreKeeps h m → AreKeeps (e ∷ h) m2
keeps_more e h n m m2 p f a = λ q.
    f q ∙ ap (λ i. cond (is_restart e.act) None (cond (keeps_by q e.act) (Some i) (lookup (nat_eq q) m))) (sym p)
    ∙ ap (λ o. cond (is_restart e.act) None (cond (keeps_by q e.act) (Some (length h + 1)) o)) (a q)

-- before any entry
pub shelves_first : (script : Script) (es : List Entry) → AreShelves script es [] []
shelves_first script es = record { slots = λ k. by k (strategy script k.entity); since = λ k. refl }
  where
    by : (k : Key) (g : Strategy) → Slot.Vacant ≡ cached_by g script.timeout k []
    by k Strategy.ReadWrite = sym (vacant_at_first script.timeout)
    by k Strategy.ReadOnly = refl
    by k Strategy.Nonstrict = refl
    by k Strategy.Uncached = refl

pub stamps_first : (script : Script) → AreStamps script [] []
stamps_first script = record { values = λ t. refl; since = λ t. refl }

pub keeps_first : AreKeeps [] []
keeps_first = λ q. refl
