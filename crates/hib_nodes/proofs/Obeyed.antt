-- The journal of a run obeys the law of two nodes.
use Rattle.std.proofs.Common.{◌≡◌, ℕ, Some, Option, subst}
use Rattle.hib_base.specs.Tables.{Tables}
use Rattle.hib_journal.specs.Types.{Key, Script, Strategy}
use Rattle.hib_journal.specs.Sessions.{own}
use Rattle.hib_journal.specs.Next.{plan_of, strategy}
use Rattle.hib_journal.specs.Plan.{InOrder}
use Rattle.hib_engines.specs.Origin.{Origin}
use Rattle.hib_nodes_law.specs.Types.{Noded, Nodings}
use Rattle.hib_nodes_law.specs.Nodes.{entries}
use Rattle.hib_nodes_law.specs.Legal.{AreNodesLegal}
use Rattle.hib_nodes_law.specs.Apart.{AreInTurn, AreNodesApart}
use Rattle.hib_nodes_law.specs.Law.{NodesCohere}
use Rattle.hib_nodes.specs.Standing.{NodesPartsState}
use Rattle.hib_nodes.specs.Run.{IsRun, Obeys}

pub obeyed : (script : Script) (places : Nodings) (from : Origin) (h : Noded) (x : NodesPartsState) → IsRun script places from h x →
    ((s : Script) (told : Option Tables) (ps : Nodings) (g : Noded) → AreInTurn s ps g → AreNodesApart s told g → AreNodesLegal s told ps g) →
    ((s : Script) (start : Tables) (ps : Nodings) (n : ℕ) (k : Key) → strategy s k.entity ≡ Strategy.ReadWrite → (g : Noded) → AreNodesLegal s (Some start) ps g → NodesCohere s start n k g) →
    ((s : Script) (told : Option Tables) (ps : Nodings) (i : ℕ) (g : Noded) → AreNodesLegal s told ps g → InOrder (plan_of s i) (own i (entries g))) →
    Obeys script places from.tables h
obeyed script places from h x run together cohere ordered =
    let legal : AreNodesLegal script from.tables places h = together script from.tables places h run.turns run.apart in
    record {
      legal = legal;
      items = λ start e n k g. cohere script start places n k g h (subst (λ t. AreNodesLegal script t places h) e legal);
      order = λ s. ordered script from.tables places s h legal;
    }
