use Rattle.hib_print.proofs.Added.{adds_more, on_ok}
use Rattle.hib_print.proofs.conditions.+print_condition.Goals as goal

pub returns-in_ok-print_condition-in-And-2 : goal.returns-in_ok-print_condition-in-And-2
returns-in_ok-print_condition-in-And-2 t c =
    let first = rw c.deref.ensures at c.in_ok-print_condition-in-And.ensures in
    let second = rw c.deref-in-And.ensures at c.in_ok-print_condition-in-And-2.ensures in
    rw c.in-And.is (on_ok c.right.result c.right.ensures (λ r. adds_more (adds_more (adds_more c.in_ok-print_joint-in-And.ensures first) second) r))

pub returns-in_ok-print_condition-in-Or-2 : goal.returns-in_ok-print_condition-in-Or-2
returns-in_ok-print_condition-in-Or-2 t c =
    let first = rw c.deref-in-Or.ensures at c.in_ok-print_condition-in-Or.ensures in
    let second = rw c.deref-in-Or-2.ensures at c.in_ok-print_condition-in-Or-2.ensures in
    rw c.in-Or.is (on_ok c.right-in-Or.result c.right-in-Or.ensures (λ r. adds_more (adds_more (adds_more c.in_ok-print_joint-in-Or.ensures first) second) r))

pub returns-in_ok-print_condition-in-Not : goal.returns-in_ok-print_condition-in-Not
returns-in_ok-print_condition-in-Not t c =
    let only = rw c.deref-in-Not.ensures at c.in_ok-print_condition-in-Not.ensures in
    rw c.in-Not.is (on_ok c.right-in-Not.result c.right-in-Not.ensures (λ r. adds_more (adds_more c.in_ok-print_joint-in-Not.ensures only) r))
