use Rattle.hib_query_eval.proofs.Views.{key_added}
use Rattle.hib_query_eval.proofs.own.add_key.Goals as goal

pub returns : goal.returns
returns c = key_added c.args.keys.now.keys c.insert.new.self.keys c.args.key c.in_ok-insert.ensures.updates.0
