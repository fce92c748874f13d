use Rattle.std.proofs.Common.{sym, subst}
use Rattle.hib_parts.specs.Listed.{IsLater}
use Rattle.hib_parts.specs.Stored.{StoredState}
use Rattle.hib_parts.proofs.store.StorePart.serve.Goals as goal

pub serve_store-requires-clause-later : goal.serve_store-requires-clause-later
serve_store-requires-clause-later g c = subst (λ (v : StoredState). IsLater c.args.now v.list c.args.worker.now.list) (sym c.self.view_is) c.requires.later
