-- The sessions that names have, before a line and after it.
use Rattle.std.specs.Prelude.{◌≡◌, ◌⊎◌, ℕ, List, Some, None, Result, Ok, Err, bytes_eq, if◌then◌else◌}
use Rattle.std.specs.declared.alloc.Global.{Global}
use Rattle.std.specs.declared.vec.Vec.{Vec}
use Rattle.hib_journal.specs.Types.{Script}
use Rattle.hib_live.specs.Live.{LiveState}
use Rattle.hib_statements.specs.Places.{place_of, or_place}
use Rattle.hib_serve_requests.specs.Requests.{AskedText, says, asked_text}
use Rattle.hib_serve_requests.specs.declared.requests.Asked.{Asked}
use Rattle.hib_serve_requests.specs.declared.requests.Fault.{Fault}
use Rattle.hib_serve_answers.specs.declared.refusals.Refusal.{Refusal}
use Rattle.hib_serve.specs.Sessions.{number_in, with_named}
use Rattle.hib_serve.specs.declared.answering.Done.{Done}

-- the sessions that names have begun
abbrev pub Named : Type 0
Named = List (Vec ℕ Global × ℕ)

-- a name that has a session keeps it
abbrev pub KeepsSessions : Named → Named → Type 0
KeepsSessions xs ys = (v : List ℕ) (n : ℕ) → place_of v xs ≡ Some n → place_of v ys ≡ Some n

-- each name has what it had
abbrev pub KeepsNames : Named → Named → Type 0
KeepsNames xs ys = (v : List ℕ) → place_of v ys ≡ place_of v xs

-- each name has the session that it had, and w the next one, if it had none
abbrev pub HasNamed : List ℕ → Script → Named → Named → Type 0
HasNamed w s xs ys =
    (v : List ℕ) → place_of v ys ≡ or_place (place_of v xs) (if bytes_eq v w then Some (number_in s (place_of w xs)) else None)

-- once it is done, the name of a statement has the session that took it
abbrev pub NamesDone : AskedText → Script → Named → Named → Type 0
NamesDone (says w text) s xs ys = HasNamed w s xs ys
NamesDone _ s xs ys = KeepsNames xs ys

-- once it is refused, no session has begun; or that of the statement's name, which has it
abbrev pub NamesRefused : AskedText → Script → Script → Named → Named → Type 0
NamesRefused (says w text) s t xs ys = (KeepsNames xs ys × (t ≡ s)) ⊎ (HasNamed w s xs ys × (t ≡ with_named s (place_of w xs)))
NamesRefused _ s t xs ys = KeepsNames xs ys × (t ≡ s)

-- what names have behind a line
abbrev pub NamesBehind : Result Asked Fault → Result Done Refusal → LiveState → LiveState → Named → Named → Type 0
NamesBehind (Ok a) (Ok d) x y xs ys = NamesDone (asked_text a) x.script xs ys
NamesBehind (Ok a) (Err r) x y xs ys = NamesRefused (asked_text a) x.script y.script xs ys
NamesBehind (Err f) came x y xs ys = KeepsNames xs ys
