use Rattle.std.proofs.Common.{sym}
use Rattle.std.proofs.lemmas.Bool.{eqb-false}
use Rattle.hib_split.proofs.strange.Strange.pair.Goals as goal

pub returns : goal.returns
returns c = λ p. eqb-false c.args.self.now.found c.args.self.now.asked c.args.self.now.apart (sym p)
