use Rattle.std.proofs.Common.{◌≡◌, drop, Some}
use Rattle.hib_criteria.specs.Alone.{form_in, start}
use Rattle.hib_criteria.proofs.alone.read_alone.Given as goal

abbrev pub invariant-loop-token : goal.invariant-loop-token
invariant-loop-token l = form_in l.mapping (Some l.draft) (drop l.token-index l.tokens) ≡ form_in l.mapping (start l.fn.entity) l.tokens
