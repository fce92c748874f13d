-- Rooms of a caller, into which the answer of a call is put.
use Rattle.std.specs.Prelude.{◌≡◌, ◌⊎◌, ℕ, ◌++◌, Bool, List, []}
use Rattle.std.specs.Prelude.{if◌then◌else◌, length, take, drop, nat_le}
use Rattle.hib_call.specs.Exits.{exit_number}
use Rattle.hib_call.specs.StatusLine.{status_text}
use Rattle.hib_call.specs.declared.status.Status.{Status}
use Rattle.hib_embed.specs.declared.answer.Answer.{Answer}

-- what a room has before and after, and how long the text is said to be
pub record Room : Type 0 where
  pub before : List ℕ
  pub after : List ℕ
  pub said : ℕ

abbrev pub room : List ℕ → List ℕ → ℕ → Room
room before after said = record { before = before; after = after; said = said }

-- as much of a text as there is room for stands in front, what is behind it stays, and the length of all of it is said
pub record IsPut (text : List ℕ) (r : Room) : Type 0 where
  pub bytes : r.after ≡ take (length r.before) text ++ drop (length text) r.before
  pub said : r.said ≡ length text

abbrev pub fits : Answer → Room → Bool
fits answer out = nat_le (length answer.text) (length out.before)

-- a text that doesn't fit is told as a sink that fails is
pub record IsTold (answer : Answer) (out line : Room) (number : ℕ) : Type 0 where
  pub text : IsPut answer.text out
  pub said : IsPut (if fits answer out then answer.line else status_text Status.WriteFault) line
  pub status : number ≡ (if fits answer out then answer.status else exit_number Status.WriteFault)

-- memory ran out
pub record IsShort (out line : Room) (number : ℕ) : Type 0 where
  pub text : IsPut [] out
  pub said : IsPut (status_text Status.NoMemory) line
  pub status : number ≡ exit_number Status.NoMemory

-- an answer of which this is known was told; or memory ran out
abbrev pub IsAnswered : (Answer → Type 0) → Room → Room → ℕ → Type 0
IsAnswered IsAnswer out line number =
    ((answer : Answer) × IsAnswer answer × IsTold answer out line number) ⊎ IsShort out line number
