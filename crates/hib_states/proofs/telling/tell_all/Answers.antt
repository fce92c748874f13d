use Rattle.std.proofs.Common.{◌≡◌, ◌+◌, ◌<◌, ◌≤◌, ◌∷◌, ◌++◌, ◌∙◌, ℕ, List, Some, take, reverse, length, refl, sym, ap, subst, arith}
use Rattle.std.proofs.lemmas.List.{take_all}
use Rattle.std.proofs.lemmas.Option.{slice_get_read}
use Rattle.hib_follow.specs.Known.{Knows}
use Rattle.hib_journal.specs.Legal.{IsLegal}
use Rattle.hib_journal.specs.Sessions.{Journal}
use Rattle.hib_journal.specs.Types.{Entry}
use Rattle.hib_states.specs.Seats.{AreSeats}
use Rattle.hib_states.specs.States.{entry_text, states_text}
use Rattle.hib_states.proofs.Prefixes.{next_is, count_is, legal_up_to}
use Rattle.hib_states.proofs.telling.tell_all.Goals as goal

pub loop-place-init : goal.loop-place-init
loop-place-init c = record {
  known = λ start l. c.new-known.ensures c.args.script.now c.args.entries.now;
  seats = λ start l. c.in_ok-seats.ensures;
  text = λ start l. c.new-out.ensures.items;
}

pub put_entry-requires : goal.put_entry-requires
put_entry-requires c =
    let es : List Entry = c.args.entries.now in
    let low : c.loop-place.place < length es = omega arith in
    slice_get_read es (length es) c.loop-place.place c.index-entries-place.result refl low c.index-entries-place.is

pub loop-place-preserved : goal.loop-place-preserved
loop-place-preserved c =
    let es : List Entry = c.args.entries.now in
    let i : ℕ = c.loop-place.place in
    let e : Entry = c.index-entries-place.result in
    let h : Journal = reverse (take i es) in
    let low : i < length es = omega arith in
    let next : reverse (take (i + 1) es) ≡ e ∷ h = next_is es i e low c.index-entries-place.is in
    record {
      known = λ start l. subst (λ (g : Journal). Knows c.args.script.now es g c.put_entry.new.known) (sym next)
          (c.in_ok-put_entry.ensures.known start h (count_is es i low)
          (subst (λ (g : Journal). IsLegal c.args.script.now (Some start) g) next (legal_up_to c.args.script.now (Some start) es (i + 1) l)) (c.loop-place.invariant.known start l));
      seats = λ start l. subst (λ (g : Journal). AreSeats c.args.script.now g c.put_entry.new.seats.sessions.items) (sym next)
          (c.in_ok-put_entry.ensures.seats start h
          (subst (λ (g : Journal). IsLegal c.args.script.now (Some start) g) next (legal_up_to c.args.script.now (Some start) es (i + 1) l)) (c.loop-place.invariant.seats start l));
      text = λ start l. c.in_ok-put_entry.ensures.text start h (count_is es i low)
          (subst (λ (g : Journal). IsLegal c.args.script.now (Some start) g) next (legal_up_to c.args.script.now (Some start) es (i + 1) l)) (c.loop-place.invariant.known start l)
          (c.loop-place.invariant.seats start l) ∙ ap (λ t. t ++ entry_text c.args.script.now start h e) (c.loop-place.invariant.text start l)
          ∙ ap (states_text c.args.script.now start) (sym next);
    }

pub returns : goal.returns
returns c =
    let es : List Entry = c.args.entries.now in
    let all : length es ≤ c.loop-place.place = omega arith in
    λ start l. c.loop-place.invariant.text start l
    ∙ ap (λ (g : List Entry). states_text c.args.script.now start (reverse g)) (take_all c.loop-place.place es all)
