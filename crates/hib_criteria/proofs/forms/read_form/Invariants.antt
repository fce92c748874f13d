use Rattle.std.proofs.Common.{◌≡◌, drop, Some}
use Rattle.hib_criteria.specs.Form.{form_from, form_of}
use Rattle.hib_criteria.proofs.forms.read_form.Given as goal

abbrev pub invariant-loop-token : goal.invariant-loop-token
invariant-loop-token l = form_from l.mapping (Some l.draft) (drop l.token-index l.tokens) ≡ form_of l.mapping l.tokens
