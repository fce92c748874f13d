use Rattle.std.proofs.Common.{◌≡◌, ◌+◌, ◌-◌, ◌<◌, ◌≤◌, ℕ, Bool, List, ◌++◌, length, slice_get, Some, Vec, Global, sym, ap, subst, ◌∙◌}
use Rattle.std.specs.List.{filter, range_with_len}
use Rattle.hib_base.specs.declared.numbers.EntityNo.{EntityNo}
use Rattle.hib_outside.specs.Keeps.{is_listed}
use Rattle.hib_engines.proofs.QueryTables.{tables_more, tables_skip, tables_done, looked_up}
use Rattle.hib_engines.proofs.queries.tables_of.Goals as goal
use Rattle.hib_engines.proofs.queries.tables_of.Goals.{then-is_among+in_ok-push, else-is_among}

pub loop-number-preserved : goal.loop-number-preserved
loop-number-preserved c =
    let i = c.loop-number.number in
    let n = length c.args.script.now.mapping in
    let read : ℕ → Bool = λ m. is_listed m c.in_ok-read.read.items in
    let whole : List ℕ = filter read (range_with_len 0 n) in
    let below : i < n = subst (λ (m : ℕ). i < m) c.len-number-end.ensures c.loop-number-test.true in
    let told = c.is_among.ensures ∙ ap (λ (es : List ℕ). is_listed i es) c.as_slice-in-loop-number.ensures.value in
    elim c.if-is_among.branch [
      | then-is_among+in_ok-push w ↦ subst (λ (ts : List ℕ). ts ++ filter read (range_with_len (i + 1) (n - (i + 1))) ≡ whole)
          (sym (ap (λ (v : Vec EntityNo Global). v.items) w.tables-is ∙ w.in_ok-push.ensures.items))
          (tables_more read i n c.loop-number.tables.items whole below c.loop-number.invariant (sym told ∙ w.if-is_among.true))
      | else-is_among w ↦ subst (λ (ts : List ℕ). ts ++ filter read (range_with_len (i + 1) (n - (i + 1))) ≡ whole)
          (sym (ap (λ (v : Vec EntityNo Global). v.items) w.tables-is))
          (tables_skip read i n c.loop-number.tables.items whole below c.loop-number.invariant (sym told ∙ w.if-is_among.false))
    ]

pub returns : goal.returns
returns c =
    let there : slice_get c.args.script.now.queries c.args.query ≡ Some c.in-Some.query.now =
    looked_up c.as_slice.result.now c.args.script.now.queries c.query.inside.0 c.args.query c.in-Some.query.now c.in-Some.ensures.lookup.3.0 c.in-Some.ensures.lookup.1 c.as_slice.ensures c.query.view_is in
    tables_done c.args.script.now c.args.query c.in-Some.query.now (λ m. is_listed m c.in_ok-read.read.items) c.loop-number.number c.loop-number.tables.items
    (subst (λ (m : ℕ). m ≤ c.loop-number.number) c.len-number-end.ensures c.loop-number-test.false) c.loop-number.invariant c.in_ok-read.ensures there
