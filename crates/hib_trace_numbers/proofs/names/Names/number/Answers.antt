use Rattle.hib_trace_numbers.proofs.Added.{named, keeps, apart}
use Rattle.hib_trace_numbers.proofs.names.Names.number.Goals as goal

pub returns-clause-named : goal.returns-clause-named
returns-clause-named c =
    named c.insert_full.new.self.keys c.in_ok-number.number c.in_ok-from_str.field-0 c.in_ok-number.ensures.stored.0 c.args.text.now c.in_ok-number.ensures.stored.1
    c.in_ok-number.ensures.stored.2 c.in_ok-from_str.ensures.ok

pub returns-clause-keeps : goal.returns-clause-keeps
returns-clause-keeps c = keeps c.args.self.now.set.keys c.insert_full.new.self.keys _ c.in_ok-number.ensures.keys

pub returns-clause-apart : goal.returns-clause-apart
returns-clause-apart c = apart c.args.self.now.set.keys c.insert_full.new.self.keys _ c.in_ok-number.ensures.keys
