use Rattle.std.proofs.Common.{◌≡◌, ◌∙◌, ap, sym, cond, true, take, ◌+◌, ◌||◌}
use Rattle.hib_base.specs.Keys.{same_key}
use Rattle.hib_journal.specs.Types.{Key}
use Rattle.hib_report.specs.declared.watch.Course.{Course}
use Rattle.hib_report.specs.Watch.{Courses, course_at, reused_if, names_key}
use Rattle.hib_report.proofs.Watched.{named_more, insert_step, same_course}
use Rattle.hib_report.proofs.watch.insert_all.Goals as goal

pub loop-key-preserved : goal.loop-key-preserved
loop-key-preserved c = λ k.
    let j : Key = c.key-item.result in
    let before : Courses = c.loop-key.courses.entries in
    let first : Course = course_at c.args.courses.now.entries k in
    let e : c.inserted-course.result ≡ reused_if true (course_at before j) = c.inserted-course.ensures ∙ ap (reused_if true) c.course_of.ensures in
    let n : course_at c.set_course.new.courses.entries k ≡ cond (same_key j k) (reused_if true (course_at before j)) (course_at before k) =
    c.in_ok-set_course.ensures k ∙ ap (λ (x : Course). cond (same_key j k) x (course_at before k)) e in
    let m : names_key k (take (c.loop-key.key-index + 1) c.args.keys.now) ≡ (names_key k (take c.loop-key.key-index c.args.keys.now) || same_key j k) =
    named_more k j c.args.keys.now c.loop-key.key-index c.loop-key-test.true
    ∙ ap (λ (i : Key). names_key k (take c.loop-key.key-index c.args.keys.now) || same_key i k) (sym c.key-item.is) in
    insert_step j k (names_key k (take c.loop-key.key-index c.args.keys.now)) (course_at before j) (course_at before k) first
    (course_at c.set_course.new.courses.entries k) (same_course before j k) (c.loop-key.invariant k) n
    ∙ ap (λ b. reused_if b first) (sym m)
