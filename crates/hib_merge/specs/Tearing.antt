-- Where the lists of sessions and a merged list part, and where a tick is another than the one that is due.
use Rattle.std.specs.Prelude.{◌≡◌, ◌≢◌, ◌<◌, ◌⊎◌, ℕ, Bool, true, false, nat_lt, map, reverse, take, slice_get, slice_index_or, List, [], length, Some, None, Option}
use Rattle.std.specs.List.{list_all}
use Rattle.hib_journal.specs.Types.{Entry}
use Rattle.hib_journal.specs.Sessions.{own}
use Rattle.hib_journal.specs.Kept.{Kept, past}
use Rattle.hib_split_law.specs.Merged.{Agrees, AreDue, due_tick}
use Rattle.hib_merge.specs.declared.tearing.Torn.{Torn}

-- the entries of each list, the oldest first
abbrev pub lists_of : List Kept → List (List Entry)
lists_of kept = map (λ k. k.list) kept

-- those of session s; past the last list there are none
abbrev pub list_at : ℕ → List Kept → List Entry
list_at s kept = slice_index_or (lists_of kept) s []

-- up to a place two lists are the same, and there they aren't
pub record PartAt (xs ys : List Entry) (place : ℕ) : Type 0 where
  pub same : take place xs ≡ take place ys
  pub other : slice_get xs place ≢ slice_get ys place

-- the lists of the first n sessions are their entries
abbrev pub AreSameBelow : ℕ → List Kept → List Entry → Type 0
AreSameBelow n mine l = (s : ℕ) → s < n → list_at s mine ≡ own s l

-- the first place of the first session at which its list and its entries differ: the entry of the one, and that of the other
pub record IsSessionTorn (mine : List Kept) (l : List Entry) (m p : Option Entry) : Type 0 where
  pub session : ℕ
  pub place : ℕ
  pub there : session < length mine
  pub earlier : AreSameBelow session mine l
  pub parts : PartAt (list_at session mine) (own session l) place
  pub listed : m ≡ slice_get (list_at session mine) place
  pub merged : p ≡ slice_get (own session l) place

-- the session is one of the first n
abbrev pub is_of_first : ℕ → Option ℕ → Bool
is_of_first n None = false
is_of_first n (Some s) = nat_lt s n

abbrev pub is_known : ℕ → Entry → Bool
is_known n e = is_of_first n e.session

-- the first entry that is of none of the first n sessions
pub record IsFirstUnknown (n : ℕ) (l : List Entry) (e : Entry) : Type 0 where
  pub place : ℕ
  pub earlier : list_all (is_known n) (take place l) ≡ true
  pub there : slice_get l place ≡ Some e
  pub unknown : is_known n e ≡ false

-- each session's list is its entries, and the first entry of none of the sessions has no entry beside it
pub record IsStrange (mine : List Kept) (l : List Entry) (m p : Option Entry) : Type 0 where
  pub lists : AreSameBelow (length mine) mine l
  pub entry : Entry
  pub first : IsFirstUnknown (length mine) l entry
  pub listed : m ≡ None
  pub merged : p ≡ Some entry

abbrev pub IsListsTorn : List Kept → List Entry → Torn → Type 0
IsListsTorn mine l (Torn.Lists m p) = IsSessionTorn mine l m p ⊎ IsStrange mine l m p
IsListsTorn mine l _ = ⊥

-- the first entry with another tick than the one that is due
pub record IsUndue (l : List Entry) (e : Entry) (due : ℕ) : Type 0 where
  pub place : ℕ
  pub earlier : AreDue (reverse (take place l))
  pub there : slice_get l place ≡ Some e
  pub due_is : due ≡ due_tick e (reverse (take place l))
  pub other : e.tick ≢ due

abbrev pub IsTickTorn : List Entry → Torn → Type 0
IsTickTorn l (Torn.Tick e due) = IsUndue l e due
IsTickTorn l _ = ⊥

-- the lists of sessions agree with the merged list, and each tick is the one that is due
abbrev pub IsWhole : List Kept → Kept → Type 0
IsWhole mine merged = Agrees (map past mine) (past merged) × AreDue (past merged)

-- the lists part; or they agree, and a tick isn't the one that is due
abbrev pub IsTorn : List Kept → Kept → Torn → Type 0
IsTorn mine merged torn = IsListsTorn mine merged.list torn ⊎ (Agrees (map past mine) (past merged) × IsTickTorn merged.list torn)
