use Rattle.std.proofs.Common.{◌≡◌, ◌∙◌, ◌++◌, ℕ, None, ap, get_or, length, arith}
use Rattle.std.specs.Prelude.{if◌then◌else◌, nat_eq}
use Rattle.std.specs.Option.{option_to_list}
use Rattle.hib_trace_filed.specs.Keys.{filed_as}
use Rattle.hib_trace_filed.proofs.Filing.{file_step}
use Rattle.hib_trace_filed.proofs.commits.file_part.Goals as goal

pub loop-write-preserved : goal.loop-write-preserved
loop-write-preserved c =
    let t = c.loop-write.files in
    let u = c.file.new.files in
    let n : length u.items ≡ length t.items = omega (arith, u.ok.0, t.ok.0, c.in_ok-file.ensures.count) in
    record {
      count = c.in_ok-file.ensures.count ∙ c.loop-write.invariant.count;
      filed = file_step c.args.by (filed_as c.args.part c.args.limits.now) c.args.writes.now c.loop-write.write-index _ t.items u.items c.filed_as.result c.loop-write-test.true n
          c.loop-write.invariant.filed c.filed_as.ensures (λ k e l. c.in_ok-file.ensures.each k e (omega (arith, l, t.ok.0))
          ∙ ap (λ (n : ℕ). (get_or t.items k e).items ++ option_to_list (if nat_eq n k then c.filed_as.result else None)) c.number_by.ensures);
    }
