-- What a trace of one key can mean. Each commit of the key took effect at one instant of its call, and these instants stand in the order of
-- the rows. Nothing else is known of them.
use Rattle.std.specs.Prelude.{◌≡◌, ◌≤◌, ◌&&◌, ℕ, zero, suc, Bool, true, false, List, [], ◌∷◌, nat_le}
use Rattle.hib_trace_law.specs.declared.calls.Call.{Call}
use Rattle.hib_trace_law.specs.declared.calls.Sighting.{Sighting}

-- an instant for each commit, within its call, and none before the one before it
abbrev pub IsPlaced : ℕ → List Call → List ℕ → Type 0
IsPlaced least [] [] = Unit {0}
IsPlaced least [] (p ∷ ps) = ⊥
IsPlaced least (c ∷ cs) [] = ⊥
IsPlaced least (c ∷ cs) (p ∷ ps) = (least ≤ p) × (c.begin ≤ p) × (p ≤ c.end) × IsPlaced p cs ps

-- the row that so many commits have made is the committed one at an instant: from that of the last of these to that of the next, both counted
abbrev pub IsCommittedAt : ℕ → List ℕ → ℕ → Type 0
IsCommittedAt zero [] t = Unit {0}
IsCommittedAt zero (p ∷ ps) t = t ≤ p
IsCommittedAt (suc i) [] t = ⊥
IsCommittedAt (suc i) (p ∷ ps) t = (p ≤ t) × IsCommittedAt i ps t

-- an answer is explained: its row was the committed one at an instant of its own
pub record IsExplained (ps : List ℕ) (a : Sighting) : Type 0 where
  pub at : ℕ
  pub since : a.since ≤ at
  pub until : at ≤ a.end
  pub committed : IsCommittedAt a.place ps at

-- what the judge looks at: none of the commits that made the row began after the answer had ended, and none of the later ones had ended
-- before it began
abbrev pub may_be : ℕ → List Call → Sighting → Bool
may_be zero [] a = true
may_be zero (c ∷ cs) a = nat_le a.since c.end && may_be zero cs a
may_be (suc i) [] a = false
may_be (suc i) (c ∷ cs) a = nat_le c.begin a.end && may_be i cs a

-- sound: what the judge refuses is explained by no placing
abbrev pub IsSound : Type 0
IsSound = (cs : List Call) (a : Sighting) → may_be a.place cs a ≡ false → (ps : List ℕ) → IsPlaced 0 cs ps → IsExplained ps a → ⊥

-- complete: what it lets pass is explained by one, if the trace has any
abbrev pub IsComplete : Type 0
IsComplete = (cs : List Call) (a : Sighting) → a.since ≤ a.end → may_be a.place cs a ≡ true → (qs : List ℕ) → IsPlaced 0 cs qs →
    (ps : List ℕ) × IsPlaced 0 cs ps × IsExplained ps a
