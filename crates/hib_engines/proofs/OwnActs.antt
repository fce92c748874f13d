-- An act that a session answers itself is of no engine but the registry, and of that only at an End.
use Rattle.std.proofs.Common.{◌≡◌, ℕ, Bool, true, false, ◌∷◌, Some, refl}
use Rattle.std.proofs.lemmas.Bool.{false≢true}
use Rattle.hib_journal.specs.Types.{Part, Act, Reply}
use Rattle.hib_journal.specs.Sessions.{Journal}
use Rattle.hib_journal.specs.Legal.{part_of}
use Rattle.hib_journal.specs.Lists.{entry_at, IsLate}
use Rattle.hib_engines.specs.Registry.{Opened, without, IsRegistry, own_after}
use Rattle.hib_engines.specs.Region.{is_regional}
use Rattle.hib_engines.specs.Served.{is_for}
use Rattle.hib_engines.proofs.RegistryServed.{end_stands}
use Rattle.hib_engines.proofs.Elsewhere.{registry_kept}

-- the acts that a session answers itself
abbrev pub is_own : Act → Bool
is_own Act.End = true
is_own (Act.Find k) = true
is_own (Act.Persist k r) = true
is_own (Act.Set k cells) = true
is_own (Act.Remove k) = true
is_own Act.Clear = true
is_own _ = false

pub record IsOwnAct (a : Act) (s : ℕ) : Type 0 where
  pub store : is_for Part.Store a s ≡ false
  pub stamps : is_for Part.Stamps a s ≡ false
  pub results : is_for Part.Results a s ≡ false
  pub region : is_regional a ≡ true → ⊥

pub own_act : (a : Act) (s : ℕ) → is_own a ≡ true → IsOwnAct a s
own_act Act.End s p = record { store = refl; stamps = refl; results = refl; region = λ g. false≢true g }
own_act (Act.Find k) s p = record { store = refl; stamps = refl; results = refl; region = λ g. false≢true g }
own_act (Act.Persist k r) s p = record { store = refl; stamps = refl; results = refl; region = λ g. false≢true g }
own_act (Act.Set k cells) s p = record { store = refl; stamps = refl; results = refl; region = λ g. false≢true g }
own_act (Act.Remove k) s p = record { store = refl; stamps = refl; results = refl; region = λ g. false≢true g }
own_act Act.Clear s p = record { store = refl; stamps = refl; results = refl; region = λ g. false≢true g }
own_act _ s p = absurd (false≢true p)

pub registry_own : (h : Journal) (s now : ℕ) (a : Act) (r : Reply) (x : Opened) → is_own a ≡ true → IsRegistry x h → IsLate (part_of a s) now h → IsRegistry (own_after s a x) (entry_at now (Some s) a r ∷ h)
registry_own h s now Act.End r x p k t = end_stands h s now r x (without s x) k t refl
registry_own h s now (Act.Find j) r x p k t = registry_kept h (Some s) now (Act.Find j) r x k refl
registry_own h s now (Act.Persist j row) r x p k t = registry_kept h (Some s) now (Act.Persist j row) r x k refl
registry_own h s now (Act.Set j cells) r x p k t = registry_kept h (Some s) now (Act.Set j cells) r x k refl
registry_own h s now (Act.Remove j) r x p k t = registry_kept h (Some s) now (Act.Remove j) r x k refl
registry_own h s now Act.Clear r x p k t = registry_kept h (Some s) now Act.Clear r x k refl
registry_own h s now _ r x p k t = absurd (false≢true p)
