use Rattle.std.proofs.Common.{◌≡◌, ◌≤◌, Option, sym, subst, inl, inr}
use Rattle.hib_base.specs.Tables.{Tables}
use Rattle.hib_journal.specs.Kept.{past}
use Rattle.hib_core.specs.Standing.{RoseBy, told_start}
use Rattle.hib_joined.specs.declared.joining.Joined.{Joined}
use Rattle.hib_joined.specs.Joined.{AreApart}
use Rattle.hib_joined.specs.Run.{CameToOne, HaveParted, IsOneByOne, IsOneRun}
use Rattle.hib_top.specs.declared.telling.Played.{Played}
use Rattle.hib_top.specs.declared.turns.Turns.{Turns}
use Rattle.hib_top.specs.Running.{IsPlayed}
use Rattle.hib_call.proofs.Runs.{none_failed}
use Rattle.hib_top.proofs.Ends.{lost, over, over_not_torn, short_not_torn, torn_not_fault}
use Rattle.hib_top.proofs.OverParts.{is_finished, is_played}
use Rattle.hib_top.proofs.split.hear_joined.Goals as goal

pub returns-in-One-clause-comes : goal.returns-in-One-clause-comes
returns-in-One-clause-comes g c = λ kept q.
    let n = c.args.workers in
    let script = g.N.Name.script in
    let from = g.N.Name.from in
    let rows = g.K.Keeper.tables c.args.keeper in
    let failed = g.K.Keeper.faults c.args.keeper in
    let asked = g.K.Keeper.asked c.args.keeper in
    let h = past c.in-One.journal in
    let came : IsOneRun script from h rows failed asked × (n ≡ 1 → IsOneByOne h) = subst (λ (z : Joined). CameToOne n script from z rows failed asked) c.in-One.is c.requires.came in
    let one : IsOneRun script from h rows failed asked = came.0 in
    let played : IsPlayed (Turns.OnParts n) script from.tables rows h =
    is_played c.runs_are_short.ensures.few c.entries_are_formed.ensures.formed n script from h rows failed asked c.requires.valid one came.1 in
    let begun : IsPlayed (Turns.OnParts n) script (told_start script kept) rows h = subst (λ (t : Option Tables). IsPlayed (Turns.OnParts n) script t rows h) (sym q) played in
    let run : Played = record { script = c.args.script; journal = c.in-One.journal } in
    elim c.hear_run-outcome.ensures [
      | inl p ↦ over (Turns.OnParts n) script _ _ run _ p.0 record { of = c.requires.script; played = begun; faults = one.faults; asked = one.asked; listeners = p.1 } (is_finished n script from h rows failed asked one came.1)
      | inr e ↦ lost n script _ _ _ e (none_failed _ _ _ one.faults)
    ]

pub returns-in-One-clause-torn : goal.returns-in-One-clause-torn
returns-in-One-clause-torn g c = λ t q. elim c.hear_run-outcome.ensures [
  | inl p ↦ absurd (over_not_torn _ t _ p.0 q)
  | inr e ↦ absurd (short_not_torn t _ e q)
]

pub returns-in-Torn-clause-comes : goal.returns-in-Torn-clause-comes
returns-in-Torn-clause-comes g c = λ kept q.
    let n = c.args.workers in
    let script = g.N.Name.script in
    let from = g.N.Name.from in
    let t = c.in-Torn.torn in
    let failed = g.K.Keeper.faults c.args.keeper in
    let came : (2 ≤ n) × AreApart t × HaveParted script from.tables t × RoseBy from.faults 0 failed =
    subst (λ (z : Joined). CameToOne n script from z (g.K.Keeper.tables c.args.keeper) failed (g.K.Keeper.asked c.args.keeper)) c.in-Torn.is c.requires.came in
    let parted : HaveParted script (told_start script kept) t = subst (λ (told : Option Tables). HaveParted script told t) (sym q) came.2 in
    ((came.0, came.1, parted, came.3), tt, λ p. absurd (torn_not_fault t p))
