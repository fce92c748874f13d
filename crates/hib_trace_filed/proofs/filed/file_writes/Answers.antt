use Rattle.std.proofs.Common.{List, Vec, Global, ◌∙◌, sym, subst}
use Rattle.std.specs.List.{All}
use Rattle.hib_trace_calls.proofs.Grown.{zip_all}
use Rattle.hib_trace_law.specs.declared.commits.Commit.{Commit}
use Rattle.hib_traces.specs.Stands.{Stands}
use Rattle.hib_traces.specs.declared.order.Order.{Order}
use Rattle.hib_trace_filed.specs.Orders.{IsOrderOf}
use Rattle.hib_trace_filed.specs.declared.commits.By.{By}
use Rattle.hib_trace_filed.specs.Keys.{commit_of, undone_of}
use Rattle.hib_trace_filed.proofs.Filing.{orders_filed}
use Rattle.hib_trace_filed.proofs.filed.file_writes.Goals as goal

pub all_lives-requires : goal.all_lives-requires
all_lives-requires c =
    subst (λ (os : List Order). All Stands os) (sym c.deref.ensures.value)
    (zip_all (λ (f : Vec Commit Global) (o : Order). IsOrderOf f.items o) Stands (λ f o i. i.stands) c.in_ok-file_part.field-0.items
    c.in_ok-commits.commits.items c.in_ok-commits.ensures)

pub returns-clause-commits : goal.returns-clause-commits
returns-clause-commits c =
    orders_filed By.Key (commit_of c.args.limits.now) c.args.writes.now c.args.count c.in_ok-file_part.field-0.items c.in_ok-commits.commits.items
    (sym c.in_ok-file_part.field-0.ok.0 ∙ c.in_ok-file_part.ensures.count) c.in_ok-file_part.ensures.filed
    c.in_ok-commits.ensures

pub returns-clause-undone : goal.returns-clause-undone
returns-clause-undone c =
    orders_filed By.Key (undone_of c.args.limits.now) c.args.writes.now c.args.count c.in_ok-file_part-2.field-0.items c.in_ok-undone.undone.items
    (sym c.in_ok-file_part-2.field-0.ok.0 ∙ c.in_ok-file_part-2.ensures.count) c.in_ok-file_part-2.ensures.filed
    c.in_ok-undone.ensures
