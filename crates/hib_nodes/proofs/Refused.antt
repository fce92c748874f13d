-- What an act leaves of the parts that was refused for want of memory, or whose answer is let go.
use Rattle.std.proofs.Common.{◌≡◌, ℕ, true, cond, List, Some, None, Option, refl, sym, ap, ◌∙◌, subst, arith}
use Rattle.hib_base.specs.Tables.{Tables}
use Rattle.hib_journal.specs.Types.{Change, Script, Act}
use Rattle.hib_journal.specs.Sessions.{own}
use Rattle.hib_journal.specs.Legal.{is_told}
use Rattle.hib_journal.specs.Next.{next}
use Rattle.hib_journal.specs.Runs.{asks}
use Rattle.hib_store.specs.Stores.{StoreState, changes_of}
use Rattle.hib_query_cache.specs.Ranked.{Ranked}
use Rattle.hib_session.specs.Memory.{brings}
use Rattle.hib_engines.specs.Counts.{RoseWithin}
use Rattle.hib_engines.specs.Registry.{own_after}
use Rattle.hib_engines.specs.Store.{IsLeft}
use Rattle.hib_engines.proofs.Still.{brings_own}
use Rattle.hib_nodes_law.specs.Types.{Noded}
use Rattle.hib_nodes_law.specs.Nodes.{entries}
use Rattle.hib_nodes.specs.Parts.{with_node}
use Rattle.hib_nodes.specs.Standing.{NodeState, NodesPartsState, IsReady, IsRefused, IsRefusedAt, IsStepRefused, IsStill, node_in}
use Rattle.hib_nodes.proofs.Sides.{same_with}
use Rattle.hib_nodes.proofs.Still.{still_same}

parts_same : (x y : NodesPartsState) → y.store ≡ x.store → y.stamps ≡ x.stamps → y.results ≡ x.results → y.first ≡ x.first → y.second ≡ x.second → y ≡ x
parts_same x y a b c d e =
    let of : StoreState → List (Option ℕ) → Ranked → NodeState → NodeState → NodesPartsState = λ s t u f g. record { store = s; stamps = t; results = u; first = f; second = g } in
    ap (λ s. of s y.stamps y.results y.first y.second) a ∙ (ap (λ t. of x.store t y.results y.first y.second) b ∙ (ap (λ u. of x.store x.stamps u y.first y.second) c ∙
    (ap (λ f. of x.store x.stamps x.results f y.second) d ∙ ap (λ g. of x.store x.stamps x.results x.first g) e)))

-- nothing has changed
pub refused_same : (h : Noded) (s : ℕ) (a : Act) (x y : NodesPartsState) → y ≡ x → IsRefused h s a x y
refused_same h s a x y e = subst (λ v. IsRefused h s a x v) (sym e) (record {
  still = still_same x x refl;
  asked = record { later = omega arith; few = omega arith };
  same = λ _. refl;
})

-- an act of the store
pub store_refused : (script : Script) (told : Option Tables) (h : Noded) (n s now : ℕ) (a : Act) (x y : NodesPartsState) → IsReady script told h n s now a x → IsLeft (changes_of x.store s) a x.store y.store →
    y.stamps ≡ x.stamps → y.results ≡ x.results → y.first ≡ x.first → y.second ≡ x.second → IsRefused h s a x y
store_refused script told h n s now a x y k w b c d e = record {
  still = record { store = w.counted; stamps = b; results = c; first = d; second = e };
  asked = subst (λ (cs : List Change). RoseWithin x.store.asked (cond (asks cs a) 1 0) y.store.asked) (k.standing.store.changes s) w.asked;
  same = λ t. parts_same x y (w.same (ap (λ (cs : List Change). is_told cs a) (k.standing.store.changes s) ∙ t)) b c d e;
}

-- an own act that brings something to the session
pub own_refused : (h : Noded) (n s m : ℕ) (a : Act) (x y : NodesPartsState) → y ≡ with_node n (record (node_in x n) { registry = own_after m a (node_in x n).registry }) x → brings a ≡ true → IsRefused h s a x y
own_refused h n s m a x y q b =
    refused_same h s a x y (q ∙ (ap (λ ps. with_node n (record (node_in x n) { registry = ps }) x) (brings_own m a (node_in x n).registry b) ∙ same_with n x))

-- ---- whatever was due

refused_any : (h : Noded) (s : ℕ) (x : NodesPartsState) (o : Option Act) → IsRefusedAt h s x x o
refused_any h s x None = refl
refused_any h s x (Some a) = refused_same h s a x x refl

pub refused_none : (script : Script) (h : Noded) (s : ℕ) (x y : NodesPartsState) → y ≡ x → IsStepRefused script h s x y
refused_none script h s x y e = subst (λ v. IsStepRefused script h s x v) (sym e) (refused_any h s x (next script s (own s (entries h))))

pub refused_at : (script : Script) (h : Noded) (s : ℕ) (a : Act) (x y : NodesPartsState) → next script s (own s (entries h)) ≡ Some a → IsRefused h s a x y → IsStepRefused script h s x y
refused_at script h s a x y e r = subst (λ o. IsRefusedAt h s x y o) (sym e) r

still_at : (h : Noded) (s : ℕ) (x y : NodesPartsState) (o : Option Act) → IsRefusedAt h s x y o → IsStill x y
still_at h s x y None e = still_same x y e
still_at h s x y (Some a) r = r.still

pub still_of : (script : Script) (h : Noded) (s : ℕ) (x y : NodesPartsState) → IsStepRefused script h s x y → IsStill x y
still_of script h s x y r = still_at h s x y (next script s (own s (entries h))) r
