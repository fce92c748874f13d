-- Sessions by the names that the application gives them, and what they do for a request.
use Rattle.std.specs.Prelude.{◌≡◌, ◌≤◌, ◌<◌, ◌++◌, ◌&&◌, ℕ, List, length, Bool, true, false, Option, Some, None, Result, Ok, ◌⊎◌, if◌then◌else◌}
use Rattle.std.specs.List.{list_all}
use Rattle.hib_base.specs.Fits.{fits_statement, is_identifier}
use Rattle.hib_base.specs.Scripts.{is_known}
use Rattle.hib_base.specs.declared.numbers.Key.{Key}
use Rattle.hib_base.specs.declared.refusals.Kind.{Kind}
use Rattle.hib_base.specs.declared.scripts.Order.{Order}
use Rattle.hib_journal.specs.Types.{Statement, Script, Act, Entry}
use Rattle.hib_journal.specs.Next.{is_cached}
use Rattle.hib_journal.specs.Kept.{Kept, past}
use Rattle.hib_journal.specs.Played.{has_next, play_order}
use Rattle.hib_journal.specs.Sessions.{is_by, is_open, was_killed}
use Rattle.hib_core.specs.Playing.{played, Leads}
use Rattle.hib_live.specs.Asked.{name_of, with_session, with_statement}
use Rattle.hib_live.specs.Live.{LiveState}
use Rattle.hib_live.specs.declared.refusal.Refusal.{Refusal as Unasked}
use Rattle.hib_mapping.specs.Parts.{entity_at}
use Rattle.hib_serve.specs.Statements.{statement_in}
use Rattle.hib_serve_answers.specs.declared.refusals.Refusal.{Refusal}

-- ---- a name begins a session, if it has none yet: the next one

abbrev pub number_in : Script → Option ℕ → ℕ
number_in s None = length s.sessions
number_in s (Some n) = n

abbrev pub with_named : Script → Option ℕ → Script
with_named s None = with_session s (name_of (length s.sessions))
with_named s (Some n) = s

-- ---- entries

-- these entries were added
abbrev pub Adds : List Entry → Kept → Kept → Type 0
Adds es x y = y.list ≡ x.list ++ es

-- entries of session n were added, and none of others
pub record HasRun (n : ℕ) (x y : Kept) : Type 0 where
  pub added : List Entry
  pub grown : Adds added x y
  pub by : list_all (is_by n) added ≡ true

-- ---- what a statement does

-- a session, which a name has or begins, has taken the statement that a text is, and made its steps; to the end, if they are whole
pub record HasSaid (named : Option ℕ) (text : List ℕ) (x y : LiveState) (whole : Bool) : Type 0 where
  pub statement : Statement
  pub said : statement_in x.script text ≡ Ok statement
  pub asked : y.script ≡ with_statement (with_named x.script named) (number_in x.script named) statement
  pub idle : has_next (with_named x.script named) (past x.journal) (number_in x.script named) ≡ false
  pub ran : HasRun (number_in x.script named) x.journal y.journal
  pub over : whole ≡ true → has_next y.script (past y.journal) (number_in x.script named) ≡ false

-- why a statement isn't taken, as an answer says it
abbrev pub refusal_of : Unasked → Refusal
refusal_of Unasked.NoSession = Refusal.Session
refusal_of Unasked.Killed = Refusal.Killed
refusal_of Unasked.Busy = Refusal.Busy
refusal_of Unasked.Unfit = Refusal.Unfit
refusal_of Unasked.NoMemory = Refusal.Memory
refusal_of Unasked.Deaf = Refusal.Memory

-- why session n doesn't take a statement; want of memory says nothing
abbrev pub IsWhyNot : Script → Kept → ℕ → Statement → Refusal → Type 0
IsWhyNot script j n st Refusal.Session = length script.sessions ≤ n
IsWhyNot script j n st Refusal.Killed = was_killed n (past j) ≡ true
IsWhyNot script j n st Refusal.Busy = has_next script (past j) n ≡ true
IsWhyNot script j n st Refusal.Unfit = (fits_statement script.mapping st && is_known (length script.queries) st) ≡ false
IsWhyNot script j n st Refusal.Memory = Unit {0}
IsWhyNot script j n st _ = ⊥

-- why a text of a session isn't said: it is no statement, or it isn't taken
abbrev pub IsWhyUnsaid : Option ℕ → List ℕ → LiveState → Refusal → Type 0
IsWhyUnsaid named text x (Refusal.Statement kind) = statement_in x.script text ≡ Result.Err kind
IsWhyUnsaid named text x Refusal.Memory = Unit {0}
IsWhyUnsaid named text x r =
    (st : Statement) × ((statement_in x.script text ≡ Ok st)
    × IsWhyNot (with_named x.script named) x.journal (number_in x.script named) st r)

-- a request that is refused adds no entry; at most its session has begun
abbrev pub IsRefused : LiveState → LiveState → Type 0
IsRefused x y = (y.journal.list ≡ x.journal.list) × ((y.script ≡ x.script) ⊎ (y.script ≡ with_named x.script None))

-- ---- what else is done

-- each session that has begun a transaction has ended it, or was killed
abbrev pub AreClosed : LiveState → Type 0
AreClosed x = (n : ℕ) → n < length x.script.sessions → is_open n (past x.journal) ≡ false

abbrev pub is_killing : Act → Bool
is_killing (Act.Kill n) = true
is_killing _ = false

-- what was asked is the same, and the entries that were added are kills
pub record HasOnlyKilled (x y : LiveState) : Type 0 where
  pub asked : y.script ≡ x.script
  pub added : List Entry
  pub grown : Adds added x.journal y.journal
  pub kills : list_all (λ e. is_killing e.act) added ≡ true

-- the steps that were left of a named session's statement were made; to the end, if they are whole
pub record HasGoneOn (named : Option ℕ) (x y : LiveState) (whole : Bool) : Type 0 where
  pub number : ℕ
  pub is : named ≡ Some number
  pub asked : y.script ≡ x.script
  pub ran : HasRun number x.journal y.journal
  pub over : whole ≡ true → has_next y.script (past y.journal) number ≡ false

-- an order was obeyed: what was asked is the same, and the entries that were added are those that the order is played by
pub record HasObeyed (order : Order) (x y : LiveState) : Type 0 where
  pub asked : y.script ≡ x.script
  pub obeyed : Leads (play_order x.script order) played (past x.journal) (past y.journal)
  pub grown : Adds obeyed.added x.journal y.journal

abbrev pub HasKilled : Option ℕ → LiveState → LiveState → Type 0
HasKilled None x y = ⊥
HasKilled (Some n) x y = HasObeyed (Order.Kill n) x y

-- the key of an entity's name and an identifier
abbrev pub key_at : ℕ → Option ℕ → Option Key
key_at id None = None
key_at id (Some e) = if is_identifier id then Some (record { entity = e; id = id }) else None

abbrev pub key_in : Script → List ℕ → ℕ → Option Key
key_in s w id = key_at id (entity_at s.mapping w)

abbrev pub HasEvicted : Option Key → LiveState → LiveState → Type 0
HasEvicted None x y = ⊥
HasEvicted (Some k) x y = HasObeyed (Order.Evict k) x y

-- why no row is evicted: no entity has this name, it is no identifier, or the entity isn't cached
abbrev pub IsWhyKept : Option Key → Script → Refusal → Type 0
IsWhyKept None s (Refusal.Statement kind) = kind ≡ Kind.Unknown
IsWhyKept (Some k) s Refusal.Unfit = is_cached s k.entity ≡ false
IsWhyKept key s Refusal.Memory = Unit {0}
IsWhyKept key s _ = ⊥
