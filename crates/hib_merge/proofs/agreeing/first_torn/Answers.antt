use Rattle.std.specs.Prelude.{option_copied}
use Rattle.std.proofs.Common.{length, reverse}
use Rattle.std.specs.Option.{MatchOption}
use Rattle.std.proofs.lemmas.Option.{MatchOption-at_none}
use Rattle.std.proofs.lemmas.Result.{IfOk-weaker}
use Rattle.hib_split_law.specs.Merged.{AreDue}
use Rattle.hib_merge.specs.Tearing.{AreSameBelow, IsSessionTorn, IsTickTorn}
use Rattle.hib_merge.proofs.Agreed.{first_of}
use Rattle.hib_merge.proofs.agreeing.first_torn.Goals as goal

pub returns : goal.returns
returns c =
    let lists = c.as_slice-lists.result.now in
    let entries = c.as_slice-entries.result.now in
    let same : AreSameBelow (length lists) lists entries =
    MatchOption-at_none (AreSameBelow (length lists) lists entries) (λ t. IsSessionTorn lists entries (option_copied t.0) (option_copied t.1)) c.in_default.is c.in_ok-listed.ensures in
    IfOk-weaker c.torn_tick.result (λ o. MatchOption o (AreDue (reverse entries)) (IsTickTorn entries)) _
    (λ o m. first_of c.args.mine.now lists c.args.merged.now entries c.as_slice-lists.ensures c.as_slice-entries.ensures same c.in_default-first_unknown.ensures o m)
    c.torn_tick.ensures
