use Rattle.std.proofs.Common.{refl, sym, subst, ◌≡◌}
use Rattle.hib_bulk.specs.Types.{BulkAct}
use Rattle.hib_bulk.specs.Regions.{region_of, unlocked_all}
use Rattle.hib_bulk.specs.Standing.{IsAnswered}
use Rattle.hib_bulk.proofs.Lined.{line_unlocks}
use Rattle.hib_bulk.proofs.parts.BulkParts.unlock_line.Goals as goal

pub returns-clause-answered : goal.returns-clause-answered
returns-clause-answered g c script lines told h d m b e w =
    let s = c.args.number in
    let n = c.args.entity in
    let x = c.args.self.now in
    let y = c.unlock_all.new.self in
    subst (λ t. IsAnswered script lines told h s t (BulkAct.UnlockAll n) c.unlock_all.result y) (sym e)
    (line_unlocks script lines told h s d m b (BulkAct.UnlockAll n) x w c.stays.ensures.elsewhere c.answers.ensures.unlock_all c.grows.ensures.unlock_all n c.unlock_all.result y refl
    c.unlock_all.ensures.reply (subst (λ t. region_of y.regions n ≡ unlocked_all t (region_of x.regions n)) e c.unlock_all.ensures.here) c.unlock_all.ensures.others c.unlock_all.ensures.same)
