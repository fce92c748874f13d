use Rattle.std.proofs.Common.{◌≡◌, ◌∷◌, [], ◌++◌, refl, ap, ◌∙◌}
use Rattle.hib_journal.specs.Types.{Act}
use Rattle.hib_completion.specs.Completed.{completes}
use Rattle.hib_session.specs.Memory.{Remembered}
use Rattle.hib_session.proofs.Flushed.{completion_kept}
use Rattle.hib_session.proofs.memory.Memory.completion.Goals as goal

pub returns : goal.returns
returns c = λ mine r.
    let x = c.args.self.now in
    let changes : c.as_slice.result.now ≡ x.changes = c.as_slice.ensures ∙ ap (λ (m : Remembered). m.changes) c.self.view_is in
    let locks : c.self.inside.locks.entries ≡ x.locks = ap (λ (m : Remembered). m.locks) c.self.view_is in
    let floor : c.self.inside.floor ≡ x.floor = ap (λ (m : Remembered). m.floor) c.self.view_is in
    let same : completes c.args.script.now.mapping c.as_slice.result.now c.self.inside.locks.entries c.args.committed c.args.mode c.self.inside.floor
    ≡ completes c.args.script.now.mapping x.changes x.locks c.args.committed c.args.mode x.floor = rw (changes, locks, floor) refl in
    c.in_ok-push.ensures.ok ∙ (ap (λ q. q ++ Act.End ∷ []) (c.in_ok-acts.ensures ∙ same) ∙ completion_kept c.args.script.now x mine r c.args.mode c.args.committed)
