use Rattle.std.proofs.Common.{sym, ap, ◌∙◌}
use Rattle.std.specs.Prelude.{false, ◌≡◌}
use Rattle.std.specs.List.{list_any}
use Rattle.std.proofs.lemmas.Result.{IfOk-weaker}
use Rattle.hib_base.specs.Tables.{key_of}
use Rattle.hib_journal.specs.Query.{reads}
use Rattle.hib_journal.proofs.Untouched.{gives_after}
use Rattle.hib_query_eval.proofs.overlay.gives.Goals as goal

pub returns : goal.returns
returns c =
    let untouched : list_any (λ d. reads c.args.query.now (key_of d).entity) c.args.own.now ≡ false =
    ap (list_any (λ d. reads c.args.query.now (key_of d).entity)) (sym c.as_slice.ensures) ∙ sym c.is_touched.ensures ∙ c.if-is_touched.false in
    IfOk-weaker c.given.result _ _ (λ l e. e ∙ sym (gives_after c.args.query.now c.args.own.now c.args.rows.now untouched)) c.given.ensures
