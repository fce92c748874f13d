-- What a fence at a node leaves.
use Rattle.std.specs.Prelude.{◌≡◌, ℕ, ◌+◌, ◌∷◌, None}
use Rattle.hib_journal.specs.Types.{Key, Script, Part, Locked, Unlocked, Entry}
use Rattle.hib_journal.specs.Sessions.{Journal, floor}
use Rattle.hib_journal.specs.Lists.{IsReplyOf, of_part}
use Rattle.hib_engines.specs.Fenced.{fence_lock, fence_unlock}
use Rattle.hib_nodes.specs.Standing.{NodeState, IsAtNode}

-- over the entries of a node these two are a fence of k at a tick and the next one, under the floor of the node's registry, with the
-- replies that the region gives; and the node stands for the entries with both
pub record IsFencedAt (script : Script) (g : Journal) (k : Key) (now : ℕ) (d e : Entry) (y : NodeState) : Type 0 where
  pub locked : Locked
  pub unlocked : Unlocked
  pub lock : d ≡ fence_lock now k (floor (of_part Part.Registry g) now) locked
  pub unlock : e ≡ fence_unlock now k locked unlocked
  pub lock_reply : IsReplyOf script (of_part (Part.Region k.entity) g) None now d.act d.reply
  pub unlock_reply : IsReplyOf script (d ∷ of_part (Part.Region k.entity) g) None (now + 1) e.act e.reply
  pub stands : IsAtNode script (e ∷ d ∷ g) y
