-- What a region of items answers is the reply that is due.
use Rattle.std.specs.Prelude.{option_map}
use Rattle.std.proofs.Common.{◌≡◌, ℕ, false, nat_eq, length, Some, None, Option, is_some, refl, sym, ap, ◌∙◌}
use Rattle.std.specs.Map.{lookup}
use Rattle.hib_journal.specs.Types.{Row, Strategy}
use Rattle.hib_journal.specs.Sessions.{Journal}
use Rattle.hib_journal.specs.Slot.{history}
use Rattle.hib_journal.specs.Room.{key, named, item, items, oldest, first_placed}
use Rattle.hib_journal.specs.Regions.{got_item}
use Rattle.hib_journal.specs.Next.{capacity}
use Rattle.hib_room_laws.specs.Order.{first_key}
use Rattle.hib_room_laws.proofs.Order.{order_same}
use Rattle.hib_room_laws.proofs.First.{HaveSame, same_length, first_in_order}
use Rattle.hib_room_laws.proofs.Named.{named_distinct, filter_distinct, among_filter, left_item}
use Rattle.hib_other_regions.specs.Items.{ItemsState, oldest_in}
use Rattle.hib_other_regions.specs.Stands.{IsItems, stamp_of}
use Rattle.hib_other_regions.specs.Laws.{ReadOnlyGets, NonstrictGets, Puts, Inserts, Removes, Evicts}

module _ (state : ItemsState) (n : ℕ) (h : Journal) (stands : IsItems state n h) where
  there : (p : Option (Row × ℕ)) → is_some p ≡ is_some p
  there None = refl
  there (Some p) = refl

  same_keys : HaveSame (items n h) state.items
  same_keys i =
      among_filter n i (λ j. is_some (item (history (key n j) h))) h (λ l. ap is_some (left_item (history (key n i) h) l))
      ∙ ap is_some (sym (stands.same i)) ∙ there (lookup (nat_eq i) state.items)

  pub as_many : length (items n h) ≡ length state.items
  as_many = same_length (stamp_of state) (items n h) state.items
      (filter_distinct (λ j. is_some (item (history (key n j) h))) (named n h) (named_distinct n h)) stands.order same_keys

  pub first_of_all : first_placed (λ i. option_map (λ p. p.1) (item (history (key n i) h))) (items n h) ≡ first_key state.items
  first_of_all = first_in_order (λ i. option_map (λ p. p.1) (item (history (key n i) h))) (items n h) state.items
      (order_same (stamp_of state) (λ i. option_map (λ p. p.1) (item (history (key n i) h))) (λ i. ap (option_map (λ p. p.1)) (sym (stands.same i))) state.items stands.order) same_keys

  pub oldest_is : (c : ℕ) → state.capacity ≡ c → oldest_in state ≡ oldest c n h
  unfolding oldest
  oldest_is c e = rw (as_many, first_of_all, ← e)

pub read_only_gets : ReadOnlyGets
read_only_gets script start h s now state k time g stands = rw (g, stands.same k.id)

pub nonstrict_gets : NonstrictGets
nonstrict_gets script start h s now state k time g stands = rw (g, stands.same k.id) (free (item (history k h)))
  where
    free : (p : Option (Row × ℕ)) → got_item false 0 p ≡ got_item false time p
    free None = refl
    free (Some p) = refl

pub read_only_puts : Puts Strategy.ReadOnly
read_only_puts script start h s now state k row time floor g c stands = rw (g, stands.same k.id, oldest_is state k.entity h stands (capacity script k.entity) c)

pub nonstrict_puts : Puts Strategy.Nonstrict
nonstrict_puts script start h s now state k row time floor g c stands = rw (g, stands.same k.id, oldest_is state k.entity h stands (capacity script k.entity) c)

pub read_only_inserts : Inserts Strategy.ReadOnly
read_only_inserts script start h s now state k row floor g c stands = rw (g, stands.same k.id, oldest_is state k.entity h stands (capacity script k.entity) c)

pub removes : Removes
removes script start h s now state k stands = rw (stands.same k.id)

pub read_only_evicts : Evicts Strategy.ReadOnly
read_only_evicts script start h s now state k g stands = rw (g, stands.same k.id)

pub nonstrict_evicts : Evicts Strategy.Nonstrict
nonstrict_evicts script start h s now state k g stands = rw (g, stands.same k.id)
