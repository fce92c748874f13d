use Rattle.std.proofs.Common.{◌≡◌, ◌∙◌, ℕ, sym, ap}
use Rattle.std.specs.Prelude.{Some, Vec}
use Rattle.std.specs.declared.alloc.Global.{Global}
use Rattle.hib_traces.specs.Places.{stands_at, stands_by}
use Rattle.hib_traces.specs.declared.places.Place.{Place}
use Rattle.hib_trace_lists.specs.Lists.{may_be_fresh}
use Rattle.hib_trace_lists.proofs.Steps.{gone_before, gone_later, never_gone, never_loaded}
use Rattle.hib_trace_lists.proofs.lists.Lists.judge.Goals as goal

pub returns-in-None : goal.returns-in-None
returns-in-None c = λ clock of cs h.
    let fresh : (t : ℕ) → may_be_fresh clock of cs c.args.key c.args.row c.args.end t ≡ stands_by c.standing_at.result t =
    λ t. sym (h c.args.key c.args.row c.args.end t c.index.result.now c.requires.key)
    ∙ ap (λ (v : Vec Place Global). stands_at c.args.row c.args.end t v.items) (sym c.index.ensures)
    ∙ ap (stands_at c.args.row c.args.end t) (sym c.deref.ensures.value) ∙ c.standing_at.ensures t in
    never_loaded clock of cs c.args.key c.args.row c.args.since c.args.end c.standing_at.result fresh c.in-None.is

pub returns-in-Some-None : goal.returns-in-Some-None
returns-in-Some-None c = λ clock of cs h.
    let fresh : (t : ℕ) → may_be_fresh clock of cs c.args.key c.args.row c.args.end t ≡ stands_by c.standing_at.result t =
    λ t. sym (h c.args.key c.args.row c.args.end t c.index.result.now c.requires.key)
    ∙ ap (λ (v : Vec Place Global). stands_at c.args.row c.args.end t v.items) (sym c.index.ensures)
    ∙ ap (stands_at c.args.row c.args.end t) (sym c.deref.ensures.value) ∙ c.standing_at.ensures t in
    never_gone clock of cs c.args.key c.args.row c.args.since c.args.end c.standing_at.result fresh (c.in-Some-None.is ∙ ap Some c.in-Some-None.field-0-is)

pub returns-then-gone-since : goal.returns-then-gone-since
returns-then-gone-since c = λ clock of cs h.
    let fresh : (t : ℕ) → may_be_fresh clock of cs c.args.key c.args.row c.args.end t ≡ stands_by c.standing_at.result t =
    λ t. sym (h c.args.key c.args.row c.args.end t c.index.result.now c.requires.key)
    ∙ ap (λ (v : Vec Place Global). stands_at c.args.row c.args.end t v.items) (sym c.index.ensures)
    ∙ ap (stands_at c.args.row c.args.end t) (sym c.deref.ensures.value) ∙ c.standing_at.ensures t in
    gone_before clock of cs c.args.key c.args.row c.args.since c.args.end c.standing_at.result fresh c.in-Some-Some.gone (c.in-Some-Some.is ∙ ap Some c.in-Some-Some.field-0-is) c.if-gone-since.true

pub returns-else-gone-since : goal.returns-else-gone-since
returns-else-gone-since c = λ clock of cs h.
    let fresh : (t : ℕ) → may_be_fresh clock of cs c.args.key c.args.row c.args.end t ≡ stands_by c.standing_at.result t =
    λ t. sym (h c.args.key c.args.row c.args.end t c.index.result.now c.requires.key)
    ∙ ap (λ (v : Vec Place Global). stands_at c.args.row c.args.end t v.items) (sym c.index.ensures)
    ∙ ap (stands_at c.args.row c.args.end t) (sym c.deref.ensures.value) ∙ c.standing_at.ensures t in
    gone_later clock of cs c.args.key c.args.row c.args.since c.args.end c.standing_at.result fresh c.in-Some-Some.gone (c.in-Some-Some.is ∙ ap Some c.in-Some-Some.field-0-is) c.if-gone-since.false
