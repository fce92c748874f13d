-- What is due by the last ticks.
use Rattle.std.proofs.Common.{◌≡◌, ◌≢◌, ◌<◌, ◌≤◌, ◌==◌, ◌+◌, inl, inr, ℕ, true, false, not, List, [], ◌∷◌, ◌++◌, reverse, take, length, get_or, Option, refl, sym, ap, ◌∙◌, eq-eqb, arith}
use Rattle.std.proofs.lemmas.Bool.{true≢false, false≢true, eqb-true}
use Rattle.std.proofs.lemmas.List.{take_more, reverse-append, length-reverse, length-take-le}
use Rattle.std.proofs.lemmas.Option.{slice_get_read}
use Rattle.hib_clock.specs.Due.{due}
use Rattle.hib_base.proofs.Tables.{Tested, tested}
use Rattle.hib_journal.specs.Types.{Part, Entry}
use Rattle.hib_journal.specs.Sessions.{Journal, same_part, same_session, last_tick}
use Rattle.hib_split_law.specs.Merged.{AreDue, due_tick}
use Rattle.hib_split_law.proofs.Merge.{last_few}
use Rattle.hib_clock.specs.LastTicks.{TicksState, part_last, session_last, AreLast}
use Rattle.hib_merge.specs.Tearing.{IsUndue}

-- ticks that are due are few
pub part_few : (t : TicksState) (h : Journal) (p : Part) (n : ℕ) → AreLast t h → AreDue h → length h < n → part_last t p < n
part_few t h p n l d f =
    let a : last_tick (λ x. same_part p x.part) h ≤ length h = last_few (λ x. same_part p x.part) h d in
    let b : part_last t p ≡ last_tick (λ x. same_part p x.part) h = l.parts p in
    omega (arith, a, b, f)

pub session_few : (t : TicksState) (h : Journal) (s : Option ℕ) (n : ℕ) → AreLast t h → AreDue h → length h < n → session_last t s < n
session_few t h s n l d f =
    let a : last_tick (λ x. same_session s x.session) h ≤ length h = last_few (λ x. same_session s x.session) h d in
    let b : session_last t s ≡ last_tick (λ x. same_session s x.session) h = l.sessions s in
    omega (arith, a, b, f)

-- an entry more of the list
pub back_next : (xs : List Entry) (i : ℕ) (e : Entry) → i < length xs → e ≡ get_or xs i e → reverse (take (i + 1) xs) ≡ e ∷ reverse (take i xs)
back_next xs i e there read = ap reverse (take_more xs i e there ∙ ap (λ x. take i xs ++ x ∷ []) (sym read)) ∙ reverse-append (take i xs) (e ∷ [])

pub back_few : (xs : List Entry) (i n : ℕ) → i < length xs → length xs ≤ n → length (reverse (take i xs)) < n
back_few xs i n there few =
    let a : length (reverse (take i xs)) ≡ length (take i xs) = length-reverse (take i xs) in
    let b : length (take i xs) ≡ i = length-take-le i xs (omega arith) in
    omega arith

-- what is due by the last ticks is due by the journal
pub due_of : (t : TicksState) (h : Journal) (e : Entry) → AreLast t h → due (part_last t e.part) (session_last t e.session) ≡ due_tick e h
due_of t h e l = λ i. due (l.parts e.part i) (l.sessions e.session i)

-- an entry with another tick is the first one, since those before it are due
pub undue : (t : TicksState) (xs : List Entry) (i : ℕ) (e : Entry) (d : ℕ) → i < length xs → e ≡ get_or xs i e → AreLast t (reverse (take i xs)) → AreDue (reverse (take i xs)) →
    d ≡ due (part_last t e.part) (session_last t e.session) → e.tick ≢ d → IsUndue xs e d
undue t xs i e d there read l due_before is other = record {
  place = i;
  earlier = due_before;
  there = slice_get_read xs (length xs) i e refl there read;
  due_is = is ∙ due_of t (reverse (take i xs)) e l;
  other = other;
}

pub tick_is : (a b : ℕ) → false ≡ not (a == b) → a ≡ b
tick_is a b p = by (tested (a == b))
  where
    by : Tested (a == b) → a ≡ b
    by (inl q) = eqb-true a b q
    by (inr q) = absurd (false≢true (p ∙ ap not q))

pub tick_other : (a b : ℕ) → true ≡ not (a == b) → a ≢ b
tick_other a b p e = true≢false (p ∙ ap not (eq-eqb a b e))
