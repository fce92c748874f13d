use Rattle.std.proofs.Common.{◌∙◌, reverse}
use Rattle.hib_report.specs.Unsound.{keys_in}
use Rattle.hib_report.proofs.Chosen.{none_chosen}
use Rattle.hib_report.proofs.unsound.unsound_keys.Goals as goal

pub returns-then-is_quiet : goal.returns-then-is_quiet
returns-then-is_quiet c =
    c.new.ensures.empty
    ∙ none_chosen (reverse c.args.entries.now) (keys_in c.args.script.now (reverse c.args.entries.now))
    (λ k. c.is_quiet.ensures c.if-is_quiet.true (reverse c.args.entries.now) k c.in_ok-watch.ensures)
