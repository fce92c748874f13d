-- A fence of a key: a lock that nobody takes for a session, and that is given back at the next tick. A row that was read before it is
-- not put after it.
use Rattle.std.specs.Prelude.{◌≡◌, ℕ, ◌+◌, ◌∷◌, None}
use Rattle.hib_journal.specs.Types.{Key, Locked, Unlocked, Script, Act, Reply, Entry}
use Rattle.hib_journal.specs.Sessions.{Journal}
use Rattle.hib_journal.specs.Lists.{entry_at, IsReplyOf}

-- its two entries
abbrev pub fence_lock : ℕ → Key → ℕ → Locked → Entry
fence_lock now k floor l = entry_at now None (Act.Lock k None floor) (Reply.Locked l)

abbrev pub fence_unlock : ℕ → Key → Locked → Unlocked → Entry
fence_unlock now k l u = entry_at (now + 1) None (Act.Unlock k l.id) (Reply.Unlocked u)

-- a list with both
abbrev pub with_fence : ℕ → Key → ℕ → Locked → Unlocked → Journal → Journal
with_fence now k floor l u h = fence_unlock now k l u ∷ fence_lock now k floor l ∷ h

-- the replies are those that the definitions give over the list, and the engine stands for the list with both entries
pub record IsFenced (Stands : Journal → Type 0) (script : Script) (h : Journal) (now : ℕ) (k : Key) (floor : ℕ) (l : Locked) (u : Unlocked) : Type 0 where
  pub lock : IsReplyOf script h None now (Act.Lock k None floor) (Reply.Locked l)
  pub unlock : IsReplyOf script (fence_lock now k floor l ∷ h) None (now + 1) (Act.Unlock k l.id) (Reply.Unlocked u)
  pub stands : Stands (with_fence now k floor l u h)
