use Rattle.std.proofs.Common.{◌≡◌, ◌≤◌, ◌∙◌, ap, sym, subst, map, refl, length, arith}
use Rattle.std.proofs.Common.{◌++◌, None, vec_len}
use Rattle.std.specs.Option.{option_map, option_to_list}
use Rattle.std.specs.List.{filter_map, range_with_len}
use Rattle.std.proofs.lemmas.List.{get_or_read_under}
use Rattle.hib_trace_before.specs.Before.{write_before}
use Rattle.hib_trace_before.specs.Tables.{AreRows}
use Rattle.hib_trace_before.proofs.Steps.{put_of, put_step, put_is}
use Rattle.hib_trace_before.proofs.before.rows_before.Goals as goal

pub loop-key-smaller : goal.loop-key-smaller
loop-key-smaller c = omega (arith, c.loop-key-test.true)

pub loop-key-preserved : goal.loop-key-preserved
loop-key-preserved c = record {
  bound = omega (arith, c.loop-key-test.true);
  out = put_step (put_of c.in_ok-rows.rows.items) c.loop-key.key c.loop-key.out.items c.put_before.new.out.items c.loop-key.invariant.out
      (c.in_ok-put_before.ensures ∙ ap (λ o. c.loop-key.out.items ++ option_to_list (option_map (write_before c.loop-key.key) o))
      (get_or_read_under c.in_ok-rows.rows.items c.loop-key.key (vec_len c.in_ok-rows.rows) c.index.result.now None c.index.ensures
      (omega (arith, c.loop-key-test.true, c.len.ensures)) c.in_ok-rows.rows.ok.0));
}

pub returns : goal.returns
returns c =
    let n : length c.in_ok-begins.begins.items ≡ c.args.count =
    omega (arith, c.in_ok-begins.begins.ok.0, c.in_ok-begins.ensures.count) in
    let k : c.loop-key.key ≡ c.args.count =
    omega (arith, c.loop-key-test.false, c.loop-key.invariant.bound, c.in_ok-rows.ensures.count, ap length c.deref.ensures.value, n) in
    c.loop-key.invariant.out
    ∙ ap (λ m. filter_map (λ o. o) (map (put_of c.in_ok-rows.rows.items) (range_with_len 0 m))) k
    ∙ put_is c.args.calls.now c.args.writes.now c.in_ok-begins.begins.items c.in_ok-rows.rows.items c.args.clock c.args.count n
    c.in_ok-begins.ensures.begins
    (subst (λ b. AreRows c.args.calls.now b c.args.clock c.in_ok-rows.rows.items) c.deref.ensures.value c.in_ok-rows.ensures.rows)
