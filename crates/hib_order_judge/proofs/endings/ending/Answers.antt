use Rattle.std.specs.List.{range_with_len}
use Rattle.std.proofs.Common.{◌≡◌, ◌∙◌, List, [], map, length, sym, ap, zero-add, arith}
use Rattle.std.proofs.lemmas.List.{take_all}
use Rattle.hib_journal.specs.Legal.{outcome}
use Rattle.hib_journal.specs.Sessions.{Journal, own}
use Rattle.hib_order_judge.proofs.Noted.{ended, onto_reverse}
use Rattle.hib_order_law.specs.Orders.{onto}
use Rattle.hib_report.specs.declared.fates.Fate.{Fate}
use Rattle.hib_order_judge.proofs.endings.ending.Goals as goal

pub returns : goal.returns
returns c =
    let h : Journal = onto c.args.entries.now [] in
    let fates : List Fate = c.in_ok-fates.fates.fates.items in
    let all : c.loop-fate.ending.items ≡ map (λ (f : Fate). f.outcome) fates =
    c.loop-fate.invariant ∙ ap (map (λ (f : Fate). f.outcome)) (take_all c.loop-fate.fate-index c.as_slice-fate-items.result.now (omega arith) ∙ c.as_slice-fate-items.ensures.value) in
    let count : length fates ≡ length c.args.script.now.sessions = c.in_ok-fates.ensures.all ∙ c.len.ensures in
    all
    ∙ ended fates h 0 (λ s f p. (c.in_ok-fates.ensures.each s f p).last_outcome
    ∙ ap (λ l. outcome (own s l)) (sym (onto_reverse c.args.entries.now)) ∙ ap (λ m. outcome (own m h)) (sym (zero-add s)))
    ∙ ap (λ n. map (λ s. outcome (own s h)) (range_with_len 0 n)) count
