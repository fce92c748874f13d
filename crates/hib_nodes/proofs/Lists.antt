-- What a part of a node sees, with one entry more; and ticks that come after those of all entries.
use Rattle.std.proofs.Common.{◌≡◌, ◌<◌, ℕ, Bool, true, false, ◌==◌, [], ◌∷◌, length, refl, sym, subst, arith, inl, inr}
use Rattle.hib_base.proofs.Tables.{Tested, tested}
use Rattle.hib_journal.specs.Types.{Part, Script, Entry}
use Rattle.hib_journal.specs.Sessions.{Journal, last_tick, same_part}
use Rattle.hib_journal.specs.Lists.{of_part, IsLate}
use Rattle.hib_nodes_law.specs.declared.nodes.NodeEntry.{NodeEntry}
use Rattle.hib_nodes_law.specs.Types.{Noded, Nodings}
use Rattle.hib_nodes_law.specs.Nodes.{entries, of_node}
use Rattle.hib_nodes_law.specs.Legal.{is_of_node, seen_at}
use Rattle.hib_nodes_law.specs.Apart.{AreInTurn}
use Rattle.hib_nodes.specs.Standing.{AreBefore}

-- ---- ticks

pub before_all : (now : ℕ) (h : Noded) (f : Entry → Bool) → AreBefore now h → last_tick f (entries h) < now
before_all now [] f b = b
before_all now (e ∷ h) f b = by_test (tested (f e.entry)) (before_all now h f b.0)
  where
    by_test : Tested (f e.entry) → last_tick f (entries h) < now → last_tick f (entries (e ∷ h)) < now
    by_test (inl p) i = rw p b.1
    by_test (inr p) i = rw p i

pub before_node : (now : ℕ) (n : ℕ) (h : Noded) (f : Entry → Bool) → AreBefore now h → last_tick f (of_node n h) < now
before_node now n [] f b = b
before_node now n (e ∷ h) f b = by_test (tested (e.node == n)) (tested (f e.entry)) (before_node now n h f b.0)
  where
    by_test : Tested (e.node == n) → Tested (f e.entry) → last_tick f (of_node n h) < now → last_tick f (of_node n (e ∷ h)) < now
    by_test (inl q) (inl p) i = rw (q, p) b.1
    by_test (inl q) (inr p) i = rw (q, p) i
    by_test (inr q) p i = rw q i

-- a part's own entries and all that it sees have the same last tick in the part
pub last_own : (p : Part) (g : Journal) → last_tick (λ d. same_part p d.part) (of_part p g) ≡ last_tick (λ d. same_part p d.part) g
last_own p [] = refl
last_own p (e ∷ g) = by_test (tested (same_part p e.part)) (last_own p g)
  where
    by_test : Tested (same_part p e.part) → last_tick (λ d. same_part p d.part) (of_part p g) ≡ last_tick (λ d. same_part p d.part) g →
        last_tick (λ d. same_part p d.part) (of_part p (e ∷ g)) ≡ last_tick (λ d. same_part p d.part) (e ∷ g)
    by_test (inl t) i = rw t (rw t refl)
    by_test (inr t) i = rw t i

pub last_any : (p : Part) (g : Journal) → last_tick (λ _. true) (of_part p g) ≡ last_tick (λ d. same_part p d.part) g
last_any p [] = refl
last_any p (e ∷ g) = by_test (tested (same_part p e.part)) (last_any p g)
  where
    by_test : Tested (same_part p e.part) → last_tick (λ _. true) (of_part p g) ≡ last_tick (λ d. same_part p d.part) g →
        last_tick (λ _. true) (of_part p (e ∷ g)) ≡ last_tick (λ d. same_part p d.part) (e ∷ g)
    by_test (inl t) i = rw t refl
    by_test (inr t) i = rw t i

pub late_own : (p : Part) (now : ℕ) (g : Journal) → IsLate p now g → IsLate p now (of_part p g)
late_own p now g l = subst (λ t. t < now) (sym (last_own p g)) l

pub late_any : (p : Part) (now : ℕ) (g : Journal) → IsLate p now g → last_tick (λ _. true) (of_part p g) < now
late_any p now g l = subst (λ t. t < now) (sym (last_any p g)) l

pub late_seen : (p : Part) (n now : ℕ) (h : Noded) → AreBefore now h → IsLate p now (seen_at p n h)
late_seen p n now h b = by_test (tested (is_of_node p))
  where
    by_test : Tested (is_of_node p) → IsLate p now (seen_at p n h)
    by_test (inl q) = rw q (before_node now n h (λ d. same_part p d.part) b)
    by_test (inr q) = rw q (before_all now h (λ d. same_part p d.part) b)

-- the next tick comes after those of all entries
pub turns_before : (script : Script) (places : Nodings) (h : Noded) (now : ℕ) → AreInTurn script places h → length h < now → AreBefore now h
turns_before script places [] now t l = omega arith
turns_before script places (e ∷ h) now t l = (turns_before script places h now t.0 (omega (arith, l)), omega (arith, t.1.tick, l))

-- ---- lists

pub other_part : (p : Part) (e : Entry) (g : Journal) → same_part p e.part ≡ false → of_part p (e ∷ g) ≡ of_part p g
other_part p e g q = rw q refl

pub same_list : (p : Part) (e : Entry) (g : Journal) → same_part p e.part ≡ true → of_part p (e ∷ g) ≡ e ∷ of_part p g
same_list p e g q = rw q refl

pub at_other : (n : ℕ) (e : NodeEntry) (h : Noded) → (e.node == n) ≡ false → of_node n (e ∷ h) ≡ of_node n h
at_other n e h q = rw q refl

pub at_node : (n : ℕ) (e : NodeEntry) (h : Noded) → (e.node == n) ≡ true → of_node n (e ∷ h) ≡ e.entry ∷ of_node n h
at_node n e h q = rw q refl
