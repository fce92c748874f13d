use Rattle.std.proofs.Common.{◌≡◌, ◌≤◌, ◌-◌, map, vec_len}
use Rattle.std.specs.List.{filter_map, range_with_len}
use Rattle.hib_trace_before.proofs.Steps.{put_of}
use Rattle.hib_trace_before.proofs.before.rows_before.Given as goal

abbrev pub invariant-loop-key : goal.invariant-loop-key
invariant-loop-key l = record {
  bound : l.key ≤ vec_len l.rows;
  out : l.out.items ≡ filter_map (λ o. o) (map (put_of l.rows.items) (range_with_len 0 l.key));
}

abbrev pub decreases-loop-key : goal.decreases-loop-key
decreases-loop-key l = vec_len l.rows - l.key
