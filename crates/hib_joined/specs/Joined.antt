-- What the lists of a run come to, when they are joined.
use Rattle.std.specs.Prelude.{◌≡◌, ◌≢◌, ◌≤◌, ◌^◌, ℕ, ⊤, Bool, true, false, List, length, Some, None, Option}
use Rattle.hib_journal.specs.Sessions.{Journal}
use Rattle.hib_journal.specs.Kept.{Kept, past}
use Rattle.hib_split_law.specs.Merged.{IsMerged}
use Rattle.hib_merge.specs.declared.tearing.Torn.{Torn}
use Rattle.hib_merge.specs.Tearing.{IsWhole, IsTorn}
use Rattle.hib_joined.specs.declared.joining.Joined.{Joined}

-- two entities, two entries or two ticks that differ
abbrev pub AreApart : Torn → Type 0
AreApart (Torn.Lists m p) = m ≢ p
AreApart (Torn.Region asked found) = asked ≢ found
AreApart (Torn.Tick e due) = e.tick ≢ due

-- the lists of parts are merged into the journal, and those of sessions agree with it; or they don't
abbrev pub AreJoined : List Journal → List Kept → Joined → Type 0
AreJoined lists mine (Joined.One j) = IsMerged lists (past j) × IsWhole mine j × (length (past j) ≤ 2 ^ 62)
AreJoined lists mine (Joined.Torn t) = (j : Kept) × IsMerged lists (past j) × IsTorn mine j t × (IsWhole mine j → ⊥)
AreJoined lists mine Joined.NoMemory = ⊤

-- unless two regions were taken for each other, or memory ran out
abbrev pub AreJoinedUnless : Option (ℕ × ℕ) → Bool → List Journal → List Kept → Joined → Type 0
AreJoinedUnless (Some p) out_of_memory lists mine joined = (joined ≡ Joined.Torn (Torn.Region p.0 p.1)) × (p.0 ≢ p.1)
AreJoinedUnless None true lists mine joined = joined ≡ Joined.NoMemory
AreJoinedUnless None false lists mine joined = AreJoined lists mine joined
