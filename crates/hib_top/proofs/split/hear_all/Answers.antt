use Rattle.std.proofs.Common.{◌≡◌, ◌+◌, ◌∷◌, ◌++◌, [], true, sym, ap, ◌∙◌}
use Rattle.std.specs.Prelude.{not, is_ok, take}
use Rattle.std.proofs.lemmas.List.{take_more}
use Rattle.hib_listeners.specs.Told.{tells}
use Rattle.hib_top.proofs.OverParts.{heard_on}
use Rattle.hib_top.proofs.split.hear_all.Goals as goal

pub loop-entry-preserved : goal.loop-entry-preserved
loop-entry-preserved g c =
    let es = c.args.entries.now in
    let n = c.loop-entry.entry-index in
    let e = c.entry-item.result in
    let more : take (n + 1) es ≡ take n es ++ e ∷ [] = take_more es n e c.loop-entry-test.true ∙ ap (λ d. take n es ++ d ∷ []) (sym c.entry-item.is) in
    let ok : is_ok c.tell.result ≡ true = c.is_err.ensures.negation ∙ ap not c.if-is_err.false in
    record {
      heard = heard_on c.telling_goes_on.ensures c.tell.result (tells g.L.Listener.heard g.L.Listener.left c.args.listeners.now) _ _ e (take n es) (take (n + 1) es) more ok c.loop-entry.invariant.heard c.tell.ensures;
    }
