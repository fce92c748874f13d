use Rattle.std.proofs.Common.{◌≡◌, ◌||◌, ap, sym, ◌∙◌, inl, inr}
use Rattle.std.proofs.lemmas.Bool.{or_left, or_right}
use Rattle.hib_journal.specs.Query.{mentions}
use Rattle.hib_store.proofs.queries.+mentions_below.Goals as goal

pub returns-in-Not-clause-others : goal.returns-in-Not-clause-others
returns-in-Not-clause-others t c = λ f.
    c.mentions_below.ensures.others (λ n h. f n (ap (mentions n) c.in-Not.is ∙ ap (mentions n) (sym c.deref.ensures) ∙ h))

pub returns-in-Test-clause-others : goal.returns-in-Test-clause-others
returns-in-Test-clause-others t c = λ f. c.steps_below.ensures.others (λ n h. f n (ap (mentions n) c.in-Test.is ∙ h))

pub returns-in-Among-clause-others : goal.returns-in-Among-clause-others
returns-in-Among-clause-others t c = λ f. c.steps_below-in-Among.ensures.others (λ n h. f n (ap (mentions n) c.in-Among.is ∙ h))

pub returns-then-mentions_below-clause-others : goal.returns-then-mentions_below-clause-others
returns-then-mentions_below-clause-others t c = λ f.
    c.mentions_below-then-mentions_below.ensures.others
    (λ n h. let e : mentions n c.args.condition.now ≡ (mentions n c.in-And.a.value || mentions n c.in-And.b.value) =
    elim c.in-And.is [ inl e ↦ ap (mentions n) e | inr e ↦ ap (mentions n) e ] in
    f n (e ∙ or_right (mentions n c.in-And.a.value) (mentions n c.in-And.b.value) (ap (mentions n) (sym c.deref-then-mentions_below.ensures) ∙ h)))

pub returns-else-mentions_below-clause-others : goal.returns-else-mentions_below-clause-others
returns-else-mentions_below-clause-others t c = λ f.
    c.mentions_below-in-And.ensures.others
    (λ n h. let e : mentions n c.args.condition.now ≡ (mentions n c.in-And.a.value || mentions n c.in-And.b.value) =
    elim c.in-And.is [ inl e ↦ ap (mentions n) e | inr e ↦ ap (mentions n) e ] in
    f n (e ∙ or_left (mentions n c.in-And.a.value) (mentions n c.in-And.b.value) (ap (mentions n) (sym c.deref-in-And.ensures) ∙ h)))
