-- What a line comes to, and the answer that it gets.
use Rattle.std.specs.Prelude.{◌≡◌, ◌⊎◌, ℕ, false, List, length, drop, not, string_bytes, Option, Some, None, option_map, Result, Ok, Err, MatchResult}
use Rattle.hib_base.specs.declared.scripts.Order.{Order}
use Rattle.hib_live.specs.Live.{LiveState}
use Rattle.hib_statements.specs.Places.{place_of}
use Rattle.hib_serve_requests.specs.Lines.{Asks, IsFault}
use Rattle.hib_serve_requests.specs.Requests.{AskedText, says, goes_on, kills, evicts, restarts, ends, id_text, asked_text}
use Rattle.hib_serve_requests.specs.declared.requests.Asked.{Asked}
use Rattle.hib_serve_requests.specs.declared.requests.Fault.{Fault}
use Rattle.hib_serve_requests.specs.declared.requests.Id.{Id}
use Rattle.hib_serve_answers.specs.Answers.{done_text, refused_text}
use Rattle.hib_serve_answers.specs.declared.refusals.Refusal.{Refusal}
use Rattle.hib_serve.specs.Sessions.{AreClosed, HasOnlyKilled, HasSaid, HasGoneOn, HasKilled, HasEvicted, HasObeyed, IsRefused, IsWhyUnsaid, IsWhyKept, key_in}
use Rattle.hib_serve.specs.Names.{Named, NamesBehind}
use Rattle.hib_serve.specs.declared.answering.Done.{Done}

-- an answer is of a session of this name, or of none
abbrev pub IsOf : Option (List ℕ) → Done → Type 0
IsOf name d = option_map string_bytes d.session ≡ name

-- what was asked is done. Steps are left only of a statement, and of a run's end
abbrev pub HasDone : AskedText → Named → LiveState → LiveState → Done → Type 0
HasDone (says w text) names x y d = HasSaid (place_of w names) text x y (not d.stopped) × IsOf (Some w) d
HasDone (goes_on w) names x y d = HasGoneOn (place_of w names) x y (not d.stopped) × IsOf (Some w) d
HasDone (kills w) names x y d = HasKilled (place_of w names) x y × IsOf (Some w) d
HasDone (evicts w id) names x y d = HasEvicted (key_in x.script w id) x y × IsOf None d
HasDone restarts names x y d = HasObeyed Order.Restart x y × IsOf None d
HasDone ends names x y d = HasOnlyKilled x y × (d.stopped ≡ false → AreClosed y) × IsOf None d

-- the name has begun no session; or memory ran out
abbrev pub IsUnknown : Option ℕ → Refusal → Type 0
IsUnknown named r = (r ≡ Refusal.Memory) ⊎ ((r ≡ Refusal.Session) × (named ≡ None))

-- why it isn't done
abbrev pub IsWhy : AskedText → Named → LiveState → Refusal → Type 0
IsWhy (says w text) names x r = IsWhyUnsaid (place_of w names) text x r
IsWhy (goes_on w) names x r = IsUnknown (place_of w names) r
IsWhy (kills w) names x r = IsUnknown (place_of w names) r
IsWhy (evicts w id) names x r = IsWhyKept (key_in x.script w id) x.script r
IsWhy restarts names x r = r ≡ Refusal.Memory
IsWhy ends names x r = ⊥

-- why a line that is no request is refused
abbrev pub refusal_for : Fault → Refusal
refusal_for Fault.Long = Refusal.Long
refusal_for Fault.NotAnObject = Refusal.Line
refusal_for (Fault.Unknown name) = Refusal.Unknown name
refusal_for Fault.Members = Refusal.Members

-- a request is done, or is refused and adds nothing; a line that is none changes nothing
abbrev pub CameTo : Result Asked Fault → Named → LiveState → LiveState → Result Done Refusal → Type 0
CameTo (Ok a) names x y (Ok d) = HasDone (asked_text a) names x y d
CameTo (Ok a) names x y (Err r) = IsRefused x y × IsWhy (asked_text a) names x r
CameTo (Err f) names x y (Ok d) = ⊥
CameTo (Err f) names x y (Err r) = (y ≡ x) × (r ≡ refusal_for f)

-- the answer lists the entries behind the first n, or says why the line is refused
abbrev pub answer_of : ℕ → LiveState → Option Id → Result Done Refusal → List ℕ
answer_of n y i (Ok d) =
    done_text y.script (option_map id_text i) (option_map string_bytes d.session) (drop n y.journal.list) d.stopped
answer_of n y i (Err r) = refused_text (option_map id_text i) r

-- a line was answered by this text, which lists the entries that were added. The names' sessions were xs, and are ys
pub record IsServed (line : List ℕ) (xs ys : Named) (x y : LiveState) (text : List ℕ) : Type 0 where
  pub id : Option Id
  pub asked : Result Asked Fault
  pub reads : MatchResult asked (Asks line id) (IsFault line id)
  pub came : Result Done Refusal
  pub came_to : CameTo asked xs x y came
  pub named : NamesBehind asked came x y xs ys
  pub answer : text ≡ answer_of (length x.journal.list) y id came
