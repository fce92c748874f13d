use Rattle.std.proofs.Common.{◌≡◌, ◌++◌, ◌∷◌, ◌≤◌, [], ℕ, List, map, arith, sym, ap, ◌∙◌, subst}
use Rattle.hib_order_law.specs.declared.step.Step.{Step}
use Rattle.hib_order_tries.proofs.Turning.{amid_rises, told_whole, told_wider}
use Rattle.hib_order_tries.proofs.trying.search.Goals as goal

pub returns-then-not-branch-clause-tried : goal.returns-then-not-branch-clause-tried
returns-then-not-branch-clause-tried g c =
    let over = c.in_ok-rise.ensures.over c.if-not-branch.true in
    let low : c.walk.new.self.waiting.level ≤ c.args.most = subst (λ n. n ≤ c.args.most) (sym c.in_ok-walk.ensures.level) c.loop-progress.invariant.level in
    told_whole g.P.Player.script g.P.Player.start g.P.Player.judged g.P.Player.ended c.args.most_kills c.walk.new.self.waiting.level c.args.most c.told.result.level c.walk.new.self.waiting.beyond
    c.told.result.whole c.walk.new.self.findings c.told.result.findings (c.in_ok-walk.ensures.amid c.if-branch.true) low over.1 c.told.ensures.whole
    (c.told.ensures.level ∙ ap (λ p. p.level) over.0) c.told.ensures.findings

pub loop-progress-preserved : goal.loop-progress-preserved
loop-progress-preserved g c =
    let none : List (List Step) = [] in
    let waits : map (λ v. v.items) c.rise.new.self.now.items ≡ none ++ [] ∷ [] = c.in_ok-rise.ensures.now c.if-not-branch.false ∙ ap (λ x. x ++ [] ∷ []) (c.in_ok-walk.ensures.over c.if-branch.true) in
    record {
      amid = amid_rises g.P.Player.script g.P.Player.start g.P.Player.judged g.P.Player.ended c.args.most_kills c.walk.new.self.waiting.level c.rise.new.self.level c.walk.new.self.waiting.beyond
          c.rise.new.self.beyond (map (λ v. v.items) c.rise.new.self.now.items) c.walk.new.self.findings (c.in_ok-walk.ensures.amid c.if-branch.true)
          (c.in_ok-rise.ensures.level c.if-not-branch.false) waits (c.in_ok-rise.ensures.beyond c.if-not-branch.false);
      counts = c.in_ok-walk.ensures.counts;
      limit = c.in_ok-walk.ensures.limit;
      level = omega (arith, c.in_ok-rise.ensures.level c.if-not-branch.false, c.in_ok-rise.ensures.low c.if-not-branch.false);
    }

pub returns-clause-tried : goal.returns-clause-tried
returns-clause-tried g c =
    let low : c.walk.new.self.waiting.level ≤ c.args.most = subst (λ n. n ≤ c.args.most) (sym c.in_ok-walk.ensures.level) c.loop-progress.invariant.level in
    told_wider g.P.Player.script g.P.Player.start g.P.Player.judged g.P.Player.ended c.args.most_kills c.walk.new.self.waiting.level c.args.most c.told-2.result.level c.told-2.result.whole
    c.walk.new.self.findings c.told-2.result.findings (c.in_ok-walk.ensures.cut c.if-branch.false) low c.told-2.ensures.whole c.told-2.ensures.level c.told-2.ensures.findings
