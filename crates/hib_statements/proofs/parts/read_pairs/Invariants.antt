use Rattle.std.proofs.Common.{◌≡◌, drop, Some}
use Rattle.hib_statements.specs.Parts.{pairs_from, pairs_of}
use Rattle.hib_statements.proofs.parts.read_pairs.Given as goal

abbrev pub invariant-loop-token : goal.invariant-loop-token
invariant-loop-token l = pairs_from l.columns (Some l.draft) (drop l.token-index l.tokens) ≡ pairs_of l.columns l.tokens
