-- On one worker an entry at the tick that is due comes last, if sessions have come one after the other.
use Rattle.std.specs.Prelude.{unwrap_or, not}
use Rattle.std.proofs.Common.{◌≡◌, ◌<◌, ◌≤◌, ◌+◌, ℕ, true, false, cond, [], ◌∷◌, length, refl, sym, ap, ◌∙◌, inl, inr, arith}
use Rattle.std.proofs.lemmas.Bool.{true≢false}
use Rattle.hib_clock.specs.Due.{due}
use Rattle.hib_journal.specs.Types.{Script, Act, Part, Entry}
use Rattle.hib_journal.specs.Sessions.{Journal, is_begun}
use Rattle.hib_journal.specs.Held.{is_begin}
use Rattle.hib_journal.specs.Legal.{part_of}
use Rattle.hib_journal.specs.Due.{IsAllowed}
use Rattle.hib_journal.specs.Runs.{IsNumbered}
use Rattle.hib_journal.proofs.Due.{allowed_due}
use Rattle.hib_split_law.specs.Apart.{IsOwnLegal}
use Rattle.hib_split_law.specs.Merged.{due_tick, AreDue}
use Rattle.hib_split_law.proofs.Merge.{last_few}
use Rattle.hib_parts.specs.Listed.{WorkerState, IsDueOn, last_of}
use Rattle.hib_parts.specs.Run.{last_session, IsOneByOne, IsNext}
use Rattle.hib_parts.proofs.Lists.{in_order}
use Rattle.hib_parts.proofs.Placing.{earlier, put}

pub put_last : (e : Entry) (h : Journal) → last_of h < e.tick → put e h ≡ e ∷ h
put_last e [] l = refl
put_last e (d ∷ h) l = ap (λ b. cond b (e ∷ d ∷ h) (d ∷ put e h)) (earlier d e l)

numbered_last : (h : Journal) → IsNumbered h → last_of h ≡ length h
numbered_last [] n = refl
numbered_last (e ∷ h) n = omega (arith, n.0)

pub one_more : (e : Entry) (h : Journal) → IsOneByOne h → AreDue h → e.tick ≡ due_tick e h → last_of h < e.tick → last_session h ≤ unwrap_or e.session 0 → IsOneByOne (e ∷ h)
one_more e h o d u l s =
    let most : e.tick ≤ length (e ∷ h) = last_few (λ _. true) (e ∷ h) (d, u) in
    let last : last_of h ≡ length h = numbered_last h o.numbered in
    record { order = (o.order, s); numbered = (omega (arith, most, last, l), o.numbered) }

-- a session begins on the registry

begins_on : (a : Act) (s : ℕ) → not (is_begin a) ≡ false → part_of a s ≡ Part.Registry
begins_on Act.Begin s n = refl
begins_on _ s n = absurd (true≢false n)

pub first_part : (script : Script) (p : Part) (w : WorkerState) → IsDueOn script p w → IsOwnLegal script w.number w.list → w.list ≡ [] → p ≡ Part.Registry
first_part script p w d l e =
    let a : IsAllowed script w.number w.list d.act = allowed_due script w.number w.list d.act (in_order script w.number w.list l) d.due in
    sym d.part ∙ begins_on d.act w.number (sym a.begun ∙ ap is_begun e)

-- so the tick that is due is after the last one
pub later : (p : Part) (lists : Part → Journal) (m h : Journal) (now : ℕ) → now ≡ due (last_of (lists p)) (last_of m) → (m ≡ [] → p ≡ Part.Registry) → IsNext (lists Part.Registry) m h → last_of h < now
later p lists m h now t f (inl l) = omega (arith, t, l)
later p lists m h now t f (inr q) =
    let s : last_of (lists p) ≡ last_of (lists Part.Registry) = ap (λ r. last_of (lists r)) (f q.0) in
    let l : last_of h ≤ last_of (lists Part.Registry) = q.1 in
    omega (arith, t, s, l)
