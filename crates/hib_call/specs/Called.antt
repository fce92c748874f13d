-- What a call promises, whatever its command is.
use Rattle.std.specs.Prelude.{◌≡◌, ◌<◌, ◌≤◌, ◌+◌, ◌⊎◌, ℕ, List, ⊤, length, IfSome, Option, Some, None}
use Rattle.std.specs.Io.KnownBytes.{IsAtEnd}
use Rattle.hib_outside.specs.Causes.{Rose}
use Rattle.hib_call.specs.declared.status.Status.{Status}
use Rattle.hib_call.specs.Command.{Command}
use Rattle.hib_call.specs.Limits.{max_piece}
use Rattle.hib_call.specs.Ends.{IsAfterRun, IsEarly}
use Rattle.hib_call.specs.Outside.{Outside}
use Rattle.hib_call.specs.Streams.{ReadsFew}

-- a text of so many bytes at most was read to the source's end
pub record HasText (most : ℕ) (left after : Option (List ℕ)) (text : List ℕ) : Type 0 where
  pub whole : IfSome left (λ bytes. bytes ≡ text)
  pub end : IsAtEnd after
  pub few : length text ≤ most

-- it is this input
abbrev pub HasRead : {I R : Type 0} → Command I R → Option (List ℕ) → Option (List ℕ) → I → Type 0
HasRead c left after input = (text : List ℕ) × HasText c.limit left after text × c.reads text input

-- no input was read, and this is how the call ends
abbrev pub HasNone : {I R : Type 0} → Command I R → Option (List ℕ) → Option (List ℕ) → Status → Type 0
HasNone c left after (Status.Refused r) = (text : List ℕ) × HasText c.limit left after text × c.refuses text r
HasNone c left after Status.ReadFault = ⊤
HasNone c left after Status.TooLong = ⊤
HasNone c left after Status.NoMemory = ⊤
HasNone c left after _ = ⊥

-- nothing was run, and nothing written
pub record IsIdle (old new : Outside) : Type 0 where
  pub shared : new.shared ≡ old.shared
  pub written : new.taken ≡ old.taken

-- a run to its end was told
abbrev pub IsTold : {I R : Type 0} → Command I R → Outside → Outside → Status → R → Type 0
IsTold {I} c old new answer run = (input : I) × HasRead c old.left new.left input × c.leaves input old.shared new.shared run × c.tells run answer old.taken new.taken × IsAfterRun answer

-- a run ended the call early, and nothing was told
abbrev pub IsStopped : {I R : Type 0} → Command I R → Outside → Outside → Status → Option R → Type 0
IsStopped {I} c old new answer run = (input : I) × HasRead c old.left new.left input × c.stops input old.shared new.shared answer run × (new.taken ≡ old.taken) × IsEarly answer

-- what stands after a call, by whether it hands back a run
abbrev pub ComesTo : {I R : Type 0} → Command I R → Outside → Outside → Status → Option R → Type 0
ComesTo c old new answer None = (HasNone c old.left new.left answer × IsIdle old new) ⊎ IsStopped c old new answer None
ComesTo c old new answer (Some run) = IsTold c old new answer run ⊎ IsStopped c old new answer (Some run)

-- the source tells a text within the limit that has the form
abbrev pub HasInput : {I R : Type 0} → Command I R → Option (List ℕ) → Type 0
HasInput c left = (text : List ℕ) × (left ≡ Some text) × (length text ≤ c.limit) × c.has_form text

pub record IsCalled {I R : Type 0} (c : Command I R) (old new : Outside) (answer : Status) (run : Option R) : Type 0 where
  -- what stands after the call, by how it ended
  pub came : ComesTo c old new answer run
  -- a fault is answered only if one came
  pub read : answer ≡ Status.ReadFault → Rose old.read_faults new.read_faults
  pub write : answer ≡ Status.WriteFault → Rose old.write_faults new.write_faults
  pub store : answer ≡ Status.StoreFault → Rose old.shared.faults new.shared.faults
  -- and an input is called too long only if it is
  pub long : answer ≡ Status.TooLong → IfSome old.left (λ bytes. c.limit < length bytes)
  -- at most one piece beyond the limit is read
  pub few : ReadsFew (c.limit + max_piece) old.left new.left
  -- the input is run if source and sink don't fail, unless memory runs out
  pub complete : HasInput c old.left → (Rose old.read_faults new.read_faults → ⊥) → (Rose old.write_faults new.write_faults → ⊥) → IsAfterRun answer ⊎ IsEarly answer
