use Rattle.std.proofs.Common.{◌≡◌, ◌++◌, ◌∷◌, ◌+◌, ◌<◌, ◌≤◌, [], ℕ, true, false, List, length, map, refl, sym, ap, ◌∙◌, subst}
use Rattle.hib_order_law.specs.Orders.{can_begin, kills}
use Rattle.hib_order_law.specs.declared.step.Step.{Step}
use Rattle.hib_order_tries.specs.Amid.{IsAmid}
use Rattle.hib_order_tries.specs.Found.{IsPlayed}
use Rattle.hib_order_tries.proofs.Turning.{amid_due, amid_taken, played_less, played_long, told_full}
use Rattle.hib_order_tries.proofs.Unmet.{unmet}
use Rattle.hib_order_tries.proofs.trying.Searching.walk.Goals as goal

pub play-requires : goal.play-requires
play-requires g c =
    let waiting : List (List Step) = map (λ v. v.items) c.next.new.self.now.items in
    let begun : List Step = c.in-Some.begun.items in
    let amid : IsAmid g.P.Player.script g.P.Player.start g.P.Player.judged g.P.Player.ended c.args.most_kills c.next.new.self.level (waiting ++ begun ∷ []) c.next.new.self.beyond c.loop-begun.self.findings =
    amid_taken g.P.Player.script g.P.Player.start g.P.Player.judged g.P.Player.ended c.args.most_kills c.loop-begun.self.waiting.level c.next.new.self.level
    (map (λ v. v.items) c.loop-begun.self.waiting.now.items) (waiting ++ begun ∷ []) c.loop-begun.self.waiting.beyond c.next.new.self.beyond c.loop-begun.self.findings
    c.loop-begun.invariant.amid c.in-Some.ensures.level c.in-Some.ensures.some c.in-Some.ensures.beyond in
    subst (λ x. can_begin g.P.Player.script g.P.Player.start [] x ≡ true) (sym c.as_slice.ensures.value)
    (amid_due g.P.Player.script g.P.Player.start g.P.Player.judged g.P.Player.ended c.args.most_kills c.next.new.self.level waiting begun c.next.new.self.beyond c.loop-begun.self.findings amid).0

pub take-requires-clause-from : goal.take-requires-clause-from
take-requires-clause-from g c =
    let order : List Step = c.in_ok-run.run'.order.items in
    let long : length c.as_slice.result.now ≤ length order =
    played_long g.P.Player.script g.P.Player.start g.P.Player.judged g.P.Player.ended c.as_slice.result.now order c.in_ok-run.run'.turns.items c.in_ok-run.run'.verdicts c.in_ok-run.run'.ending.items
    c.in_ok-run.ensures.played in
    let from : c.len.result ≡ length c.as_slice.result.now = c.len.ensures ∙ sym c.as_slice.ensures.len in
    subst (λ n. n ≤ length order) (sym from) long

pub returns-then-not-branch-clause-cut : goal.returns-then-not-branch-clause-cut
returns-then-not-branch-clause-cut g c = λ _.
    let waiting : List (List Step) = map (λ v. v.items) c.next.new.self.now.items in
    let begun : List Step = c.in-Some.begun.items in
    let amid : IsAmid g.P.Player.script g.P.Player.start g.P.Player.judged g.P.Player.ended c.args.most_kills c.next.new.self.level (waiting ++ begun ∷ []) c.next.new.self.beyond c.loop-begun.self.findings =
    amid_taken g.P.Player.script g.P.Player.start g.P.Player.judged g.P.Player.ended c.args.most_kills c.loop-begun.self.waiting.level c.next.new.self.level
    (map (λ v. v.items) c.loop-begun.self.waiting.now.items) (waiting ++ begun ∷ []) c.loop-begun.self.waiting.beyond c.next.new.self.beyond c.loop-begun.self.findings
    c.loop-begun.invariant.amid c.in-Some.ensures.level c.in-Some.ensures.some c.in-Some.ensures.beyond in
    let played : IsPlayed g.P.Player.script g.P.Player.start g.P.Player.judged g.P.Player.ended begun c.in_ok-run.run'.order.items c.in_ok-run.run'.turns.items c.in_ok-run.run'.verdicts c.in_ok-run.run'.ending.items =
    subst (λ x. IsPlayed g.P.Player.script g.P.Player.start g.P.Player.judged g.P.Player.ended x c.in_ok-run.run'.order.items c.in_ok-run.run'.turns.items c.in_ok-run.run'.verdicts c.in_ok-run.run'.ending.items)
    c.as_slice.ensures.value c.in_ok-run.ensures.played in
    let same = (c.in_ok-take.ensures.stopped c.if-not-branch.true).0 in
    told_full g.P.Player.script g.P.Player.start g.P.Player.judged g.P.Player.ended c.args.most_kills c.next.new.self.level waiting c.next.new.self.beyond begun c.in_ok-run.run'.order.items
    c.in_ok-run.run'.turns.items c.in_ok-run.run'.verdicts c.in_ok-run.run'.ending.items c.loop-begun.self.findings amid played c.take.new.self.waiting.level false c.take.new.self.findings
    (c.in_ok-take.ensures.full c.if-not-branch.true) refl (ap (λ p. p.waiting.level) same) (ap (λ p. p.findings) same)

pub loop-begun-smaller : goal.loop-begun-smaller
loop-begun-smaller g c =
    let most : ℕ = g.P.Player.most_steps in
    let sessions : ℕ = length g.P.Player.script.sessions in
    let waiting : List (List Step) = map (λ v. v.items) c.next.new.self.now.items in
    let new : List (List Step) = map (λ v. v.items) c.take.new.self.waiting.now.items in
    let begun : List Step = c.in-Some.begun.items in
    let amid : IsAmid g.P.Player.script g.P.Player.start g.P.Player.judged g.P.Player.ended c.args.most_kills c.next.new.self.level (waiting ++ begun ∷ []) c.next.new.self.beyond c.loop-begun.self.findings =
    amid_taken g.P.Player.script g.P.Player.start g.P.Player.judged g.P.Player.ended c.args.most_kills c.loop-begun.self.waiting.level c.next.new.self.level
    (map (λ v. v.items) c.loop-begun.self.waiting.now.items) (waiting ++ begun ∷ []) c.loop-begun.self.waiting.beyond c.next.new.self.beyond c.loop-begun.self.findings
    c.loop-begun.invariant.amid c.in-Some.ensures.level c.in-Some.ensures.some c.in-Some.ensures.beyond in
    let played : IsPlayed g.P.Player.script g.P.Player.start g.P.Player.judged g.P.Player.ended begun c.in_ok-run.run'.order.items c.in_ok-run.run'.turns.items c.in_ok-run.run'.verdicts c.in_ok-run.run'.ending.items =
    subst (λ x. IsPlayed g.P.Player.script g.P.Player.start g.P.Player.judged g.P.Player.ended x c.in_ok-run.run'.order.items c.in_ok-run.run'.turns.items c.in_ok-run.run'.verdicts c.in_ok-run.run'.ending.items)
    c.as_slice.ensures.value c.in_ok-run.ensures.played in
    let short : length c.in_ok-run.run'.order.items ≤ most + kills begun = subst (λ x. length c.in_ok-run.run'.order.items ≤ most + kills x) c.as_slice.ensures.value c.in_ok-run.ensures.short in
    let from : c.len.result ≡ length begun = c.len.ensures ∙ sym c.as_slice.ensures.len ∙ ap (λ x. length x) c.as_slice.ensures.value in
    subst (λ x. unmet sessions (most + c.args.most_kills) new < unmet sessions (most + c.args.most_kills) x) (sym c.in-Some.ensures.some)
    (played_less g.P.Player.script g.P.Player.start g.P.Player.judged g.P.Player.ended c.args.most_kills c.next.new.self.level waiting c.next.new.self.beyond begun c.in_ok-run.run'.order.items
    c.in_ok-run.run'.turns.items c.in_ok-run.run'.verdicts c.in_ok-run.run'.ending.items c.loop-begun.self.findings amid played new c.take.new.self.waiting.beyond c.len.result most from
    (c.in_ok-take.ensures.turned c.if-not-branch.false) short)

pub loop-begun-preserved : goal.loop-begun-preserved
loop-begun-preserved g c =
    let waiting : List (List Step) = map (λ v. v.items) c.next.new.self.now.items in
    let begun : List Step = c.in-Some.begun.items in
    let amid : IsAmid g.P.Player.script g.P.Player.start g.P.Player.judged g.P.Player.ended c.args.most_kills c.next.new.self.level (waiting ++ begun ∷ []) c.next.new.self.beyond c.loop-begun.self.findings =
    amid_taken g.P.Player.script g.P.Player.start g.P.Player.judged g.P.Player.ended c.args.most_kills c.loop-begun.self.waiting.level c.next.new.self.level
    (map (λ v. v.items) c.loop-begun.self.waiting.now.items) (waiting ++ begun ∷ []) c.loop-begun.self.waiting.beyond c.next.new.self.beyond c.loop-begun.self.findings
    c.loop-begun.invariant.amid c.in-Some.ensures.level c.in-Some.ensures.some c.in-Some.ensures.beyond in
    let played : IsPlayed g.P.Player.script g.P.Player.start g.P.Player.judged g.P.Player.ended begun c.in_ok-run.run'.order.items c.in_ok-run.run'.turns.items c.in_ok-run.run'.verdicts c.in_ok-run.run'.ending.items =
    subst (λ x. IsPlayed g.P.Player.script g.P.Player.start g.P.Player.judged g.P.Player.ended x c.in_ok-run.run'.order.items c.in_ok-run.run'.turns.items c.in_ok-run.run'.verdicts c.in_ok-run.run'.ending.items)
    c.as_slice.ensures.value c.in_ok-run.ensures.played in
    let from : c.len.result ≡ length begun = c.len.ensures ∙ sym c.as_slice.ensures.len ∙ ap (λ x. length x) c.as_slice.ensures.value in
    record {
      amid = c.in_ok-take.ensures.taken c.if-not-branch.false g.P.Player.script g.P.Player.start g.P.Player.judged g.P.Player.ended begun amid played from;
      counts = c.in_ok-take.ensures.counts;
      limit = c.in_ok-take.ensures.limit;
      level = c.in_ok-take.ensures.level ∙ c.in-Some.ensures.level ∙ c.loop-begun.invariant.level;
    }
