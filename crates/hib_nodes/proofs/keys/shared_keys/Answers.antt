use Rattle.std.proofs.Common.{◌≡◌, Bool, List, Vec, Global, sym, ap, ◌∙◌}
use Rattle.std.proofs.lemmas.List.{take_all}
use Rattle.std.specs.List.{filter}
use Rattle.hib_journal.specs.Types.{Key}
use Rattle.hib_journal.specs.Next.{keys_of, strategy}
use Rattle.hib_nodes_law.specs.Nodes.{is_read_write}
use Rattle.hib_nodes.proofs.Chosen.{chosen, passed_over}
use Rattle.hib_nodes.proofs.keys.shared_keys.Goals as goal
use Rattle.hib_nodes.proofs.keys.shared_keys.Goals.{then-is_shared+in_ok-push, else-is_shared}

pub loop-key-preserved : goal.loop-key-preserved
loop-key-preserved c =
    let p : Key → Bool = λ k. is_read_write (strategy c.args.script.now k.entity) in
    let ks : List Key = c.as_slice-key-items.result.now in
    let i = c.loop-key.key-index in
    let k = c.key-item.result in
    let old : List Key = c.loop-key.shared.items in
    elim c.if-is_shared.branch [
      | then-is_shared+in_ok-push w ↦ chosen p ks i k old c.if-is_shared.shared.items c.loop-key-test.true c.key-item.is c.loop-key.invariant (sym c.is_shared.ensures ∙ w.if-is_shared.true)
          (ap (λ (v : Vec Key Global). v.items) w.shared-is ∙ w.in_ok-push.ensures.items)
      | else-is_shared w ↦ passed_over p ks i k old c.if-is_shared.shared.items c.loop-key-test.true c.key-item.is c.loop-key.invariant (sym c.is_shared.ensures ∙ w.if-is_shared.false)
          (ap (λ (v : Vec Key Global). v.items) w.shared-is)
    ]

pub returns : goal.returns
returns c =
    let p : Key → Bool = λ k. is_read_write (strategy c.args.script.now k.entity) in
    let ks : List Key = c.as_slice-key-items.result.now in
    let all : ks ≡ keys_of c.args.changes.now = c.as_slice-key-items.ensures ∙ (c.keys-2.ensures.rest ∙ c.in_ok-keys.ensures) in
    c.loop-key.invariant ∙ ap (filter p) (take_all c.loop-key.key-index ks c.loop-key-test.false ∙ all)
