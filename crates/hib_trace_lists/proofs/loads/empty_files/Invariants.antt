use Rattle.std.proofs.Common.{◌≡◌, ◌<◌, ℕ, [], vec_len, get_or}
use Rattle.std.specs.Prelude.{Vec}
use Rattle.std.specs.declared.alloc.Global.{Global}
use Rattle.hib_traces.specs.declared.places.Place.{Place}
use Rattle.hib_trace_lists.proofs.loads.empty_files.Given as goal

abbrev pub invariant-loop-at : goal.invariant-loop-at
invariant-loop-at l = record {
  count : vec_len l.files ≡ l._at;
  empty : (k : ℕ) (d : Vec Place Global) → k < l._at → (get_or l.files.items k d).items ≡ [];
}
