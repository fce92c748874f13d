use Rattle.std.proofs.Common.{◌≡◌, ◌&&◌, true, length, sym, subst}
use Rattle.std.proofs.lemmas.Bool.{and_parts}
use Rattle.hib_base.specs.Fits.{fits_statement}
use Rattle.hib_base.specs.Scripts.{is_known}
use Rattle.hib_live.specs.Live.{LiveState}
use Rattle.hib_live.proofs.Goes.{taken_or}
use Rattle.hib_live.proofs.steps.LiveCore.ask.Goals as goal

pub invariant_of-self : goal.invariant_of-self
invariant_of-self g c =
    let st = c.args.statement in
    let s = c.self.inside.script in
    let fits : (fits_statement s.mapping st && is_known (length s.queries) st) ≡ true =
    subst (λ (v : LiveState). (fits_statement v.script.mapping st && is_known (length v.script.queries) st) ≡ true) (sym c.self.view_is) c.in_ok-refusal.ensures.fits in
    let both : (fits_statement s.mapping st ≡ true) × (is_known (length s.queries) st ≡ true) = and_parts (fits_statement s.mapping st) (is_known (length s.queries) st) fits in
    taken_or c.law.ensures.obeyed g.N.Name.script g.N.Name.from s c.add_statement.new.script c.self.inside.journal c.self.inside.engines c.self.inside.sessions.items
    c.args.number st c.add_statement.result c.add_statement.ensures.ok c.add_statement.ensures.err both.1 c.self.invariant
