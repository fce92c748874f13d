use Rattle.std.proofs.Common.{◌≡◌, ◌+◌, ◌<◌, ◌≤◌, ℕ, Bool, true, false, List, Some, None, Option, arith}
use Rattle.std.specs.List.{Contains}
use Rattle.std.specs.Prelude.{IfSome, IfNone}
use Rattle.hib_base.specs.Tables.{Tables}
use Rattle.hib_journal.specs.Types.{Script, Entry}
use Rattle.hib_order_law.specs.Orders.{IsRun, IsWithin, steps_in, switches}
use Rattle.hib_order_law.specs.Search.{AreTried}
use Rattle.hib_order_tries.specs.Found.{IsFirst}
use Rattle.hib_order_tries.specs.declared.found.First.{First}
use Rattle.hib_order_tries.proofs.laws.what_is_told_is_so.Goals as goal

tried : (script : Script) (start : Tables) (most_kills most : ℕ) (runs : List (List Entry)) → AreTried script start most_kills most (most + 1) runs → (es : List Entry) → IsWithin script start most_kills most es → Contains runs es
tried script start most_kills most runs t es w = t.none_left es w.run (below (switches (steps_in es)) w.within)
  where
    below : (n : ℕ) → n ≤ most → n < most + 1
    below n l = omega arith

none_has : (script : Script) (start : Tables) (has : List Entry → Bool) (most_kills most : ℕ) (runs : List (List Entry)) → AreTried script start most_kills most (most + 1) runs → (o : Option First) →
    IfNone o ((es : List Entry) → Contains runs es → has es ≡ false) → IfNone o ((es : List Entry) → IsWithin script start most_kills most es → has es ≡ false)
none_has script start has most_kills most runs t None n = λ es w. n es (tried script start most_kills most runs t es w)
none_has script start has most_kills most runs t (Some f) n = n

first_has : (script : Script) (start : Tables) (has : List Entry → Bool) (most_kills most done : ℕ) (runs : List (List Entry)) → AreTried script start most_kills most done runs → (o : Option First) →
    IfSome o (λ f. IsFirst has runs f.order.items f.switches) → IfSome o (λ f. (es : List Entry) × IsRun script start most_kills es × (f.order.items ≡ steps_in es) × (has es ≡ true))
first_has script start has most_kills most done runs t None x = x
first_has script start has most_kills most done runs t (Some f) x = let w : IsWithin script start most_kills most x.0 = t.within x.0 x.1 in (x.0, w.run, x.3, x.2)

pub returns : goal.returns
returns c = record {
  none = λ script start has most_kills most runs found t f. none_has script start has most_kills most runs t found.first f.none;
  first = λ script start has most_kills most done runs found t f. first_has script start has most_kills most done runs t found.first f.first;
}
