-- What a table tells: its rows now, those that a rollback goes back to, and whether a transaction is open.
use Rattle.std.specs.Prelude.{◌≡◌, ◌⊎◌, ◌==◌, ℕ, Bool, true, false, Option, filter}
use Rattle.std.specs.Option.{option_map}
use Rattle.hib_base.specs.Tables.{Tables}

pub record Told : Type 0 where
  pub now : Tables
  pub before : Tables
  pub in_transaction : Bool

-- outside a transaction
abbrev pub at_rest : Tables → Told
at_rest t = record { now = t; before = t; in_transaction = false }

-- a change of the rows within a transaction
abbrev pub changed : (Tables → Tables) → Option Told → Option Told
changed f = option_map {T = Told} (λ t. record t { now = f t.now })

abbrev pub begun : Option Told → Option Told
begun = option_map {T = Told} (λ t. record t { in_transaction = true })

abbrev pub committed : Option Told → Option Told
committed = option_map {T = Told} (λ t. at_rest t.now)

abbrev pub rolled_back : Option Told → Option Told
rolled_back = option_map {T = Told} (λ t. at_rest t.before)

-- after a call that failed: nothing is changed, or the transaction is undone
abbrev pub LeavesOrUndoes : Option Told → Option Told → Type 0
LeavesOrUndoes old new = (new ≡ old) ⊎ (new ≡ rolled_back old)

-- the rows of an entity
abbrev pub rows_in : ℕ → Tables → Tables
rows_in entity = filter (λ e. e.0.entity == entity)
