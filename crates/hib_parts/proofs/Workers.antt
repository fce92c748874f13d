-- A worker goes on: its session follows its list, which stays legal by itself.
use Rattle.std.proofs.Common.{◌≡◌, ◌<◌, ℕ, [], ◌∷◌, Some, None, Option, IfSome, refl, sym, subst, arith}
use Rattle.hib_journal.specs.Types.{Script, Act, Reply, Entry}
use Rattle.hib_journal.specs.Sessions.{Journal}
use Rattle.hib_journal.specs.Next.{next}
use Rattle.hib_session.specs.declared.session.Session.{Session}
use Rattle.hib_session.specs.Session.{Follows, IsTaken, number_of, left_in, own_reply}
use Rattle.hib_parts.specs.Listed.{IsOwnList, IsDueEntry, IsDueAct, WorkerState}
use Rattle.hib_parts.proofs.Lists.{own_more, taken, allowed}

-- what a worker's type keeps
abbrev pub Keeps : Script → Session → Journal → ℕ → Type 0
Keeps script y l last = IsOwnList script (number_of y) l last × Follows script y l

pub worker_begins : (script : Script) (y : Session) (l : Journal) → l ≡ [] → ((told : Script) → Follows told y []) → Keeps script y l 0
worker_begins script y l e f = subst (λ k. Keeps script y k 0) (sym e) (record { legal = tt; by_session = tt; newest = refl; bounded = omega arith }, f script)

pub worker_kept : (told script : Script) (y z : Session) (l k : Journal) (last : ℕ) → told ≡ script → Keeps script y l last → k ≡ l → number_of z ≡ number_of y →
    ((mine : Journal) → Follows told y mine → Follows told z mine) → Keeps script z k last
worker_kept told script y z l k last q w e n f =
    let g : (mine : Journal) → Follows script y mine → Follows script z mine = subst (λ (s : Script). (mine : Journal) → Follows s y mine → Follows s z mine) q f in
    subst (λ j. Keeps script z j last) (sym e) (subst (λ m. IsOwnList script m l last) (sym n) w.0, g l w.1)

pub worker_more : (told script : Script) (y z : Session) (l k : Journal) (last : ℕ) (e : Entry) → told ≡ script → Keeps script y l last → IsDueEntry script (number_of y) l e → k ≡ e ∷ l → number_of z ≡ number_of y →
    ((mine : Journal) → Follows told y mine → IsTaken told (number_of y) mine e → Follows told z (e ∷ mine)) → Keeps script z k e.tick
worker_more told script y z l k last e q w d g n f =
    let more : (mine : Journal) → Follows script y mine → IsTaken script (number_of y) mine e → Follows script z (e ∷ mine) =
    subst (λ (s : Script). (mine : Journal) → Follows s y mine → IsTaken s (number_of y) mine e → Follows s z (e ∷ mine)) q f in
    subst (λ j. Keeps script z j e.tick) (sym g)
    (subst (λ m. IsOwnList script m (e ∷ l) e.tick) (sym n) (own_more script (number_of y) l last e w.0 d), more l w.1 (taken script (number_of y) l e d))

-- the act that is due, as a worker says it
pub next_of : (told script : Script) (y : Session) (l : Journal) (last : ℕ) (a : Option Act) → told ≡ script → Keeps script y l last → ((mine : Journal) → Follows told y mine → a ≡ next told (number_of y) mine) → a ≡ next script (number_of y) l
next_of told script y l last a q w f = subst (λ (s : Script). (mine : Journal) → Follows s y mine → a ≡ next s (number_of y) mine) q f l w.1

pub due_of : (script : Script) (w : WorkerState) (last : ℕ) (a : Option Act) → IsOwnList script w.number w.list last → a ≡ next script w.number w.list → IfSome a (IsDueAct script w)
due_of script w last None k e = tt
due_of script w last (Some a) k e = record { due = sym e; allowed = allowed script w.number w.list last a k (sym e) }

pub reply_of : (told script : Script) (y : Session) (l : Journal) (last : ℕ) (a : Act) (r : Option Reply) → told ≡ script → Keeps script y l last → ((mine : Journal) → Follows told y mine → r ≡ own_reply told mine a) → r ≡ own_reply script l a
reply_of told script y l last a r q w f = subst (λ (s : Script). (mine : Journal) → Follows s y mine → r ≡ own_reply s mine a) q f l w.1

pub less_of : (told script : Script) (y z : Session) (l : Journal) (last : ℕ) (e : Entry) → told ≡ script → Keeps script y l last → IsDueEntry script (number_of y) l e →
    ((mine : Journal) → Follows told y mine → IsTaken told (number_of y) mine e → left_in told z < left_in told y) → left_in script z < left_in script y
less_of told script y z l last e q w d f = subst (λ (s : Script). (mine : Journal) → Follows s y mine → IsTaken s (number_of y) mine e → left_in s z < left_in s y) q f l w.1 (taken script (number_of y) l e d)
