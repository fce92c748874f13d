-- Legal journals of two nodes: each entry is the next act of its session at its node, or one of a fence, with the reply that the parts give.
-- Each node has a registry and regions of its own. The store, the stamps and the results are shared.
use Rattle.std.specs.Prelude.{◌≡◌, ℕ, ◌+◌, ◌≤◌, ◌^◌, Bool, true, false, if◌then◌else◌, ◌==◌, [], ◌∷◌, length, slice_get, Some, None, Option, unwrap_or, option_map}
use Rattle.hib_base.specs.Tables.{Tables}
use Rattle.hib_journal.specs.Types.{Script, Part, Act, Reply}
use Rattle.hib_journal.specs.Sessions.{Journal, own, floor, changes, committed}
use Rattle.hib_journal.specs.Next.{next}
use Rattle.hib_journal.specs.Legal.{IsReplyBy, reply_by, part_of}
use Rattle.hib_nodes_law.specs.Types.{NodeEntry, Noded, Nodings}
use Rattle.hib_nodes_law.specs.Nodes.{entries, of_node, queue}

-- the node of a session: one that is not named is at node 1
abbrev pub node_of : Nodings → ℕ → ℕ
node_of [] s = 1
node_of (p ∷ ps) s = if p.0 == s then p.1 else node_of ps s

-- the Unlock that the Lock of a fence at node n asks for
abbrev pub unlock_after : ℕ → Option ℕ → Act → Reply → Option (ℕ × Act)
unlock_after n None (Act.Lock k v f) (Reply.Locked l) = Some (n, Act.Unlock k l.id)
unlock_after n by a r = None

-- the node and the act of the second half of a fence, if the newest entry is its first
abbrev pub second_half : Noded → Option (ℕ × Act)
second_half [] = None
second_half (e ∷ h) = unlock_after e.node e.entry.session e.entry.act e.entry.reply

-- the first half of a fence at node n: a Lock of the first pair's key, under the least time of the node's open sessions
abbrev pub first_half : Script → Noded → ℕ → ℕ → Option Act
first_half script h n now =
    option_map (λ k. Act.Lock k None (floor (of_node n h) now)) (slice_get (queue script n h) 0)

-- the act that is due at a node, of a session or of a fence. Nothing comes between the two halves of a fence
abbrev pub due_of : Script → Nodings → Noded → ℕ → ℕ → Option ℕ → Option (ℕ × Act) → Option Act
due_of script places h n now (Some s) None = if node_of places s == n then next script s (own s (entries h)) else None
due_of script places h n now None None = first_half script h n now
due_of script places h n now None (Some half) = if half.0 == n then Some half.1 else None
due_of script places h n now (Some s) (Some half) = None

-- the parts that each node has for itself
abbrev pub is_of_node : Part → Bool
is_of_node Part.Registry = true
is_of_node (Part.Region m) = true
is_of_node _ = false

-- what a part of node n sees: its registry and its regions the node's entries, every other part all entries
abbrev pub seen_at : Part → ℕ → Noded → Journal
seen_at p n h = if is_of_node p then of_node n h else entries h

-- the reply that is due, as in a journal of one node, but for what the part sees: so floors and regions are the node's
abbrev pub IsNodeReply : Script → Option Tables → Noded → NodeEntry → Type 0
IsNodeReply script told h e =
    IsReplyBy told (changes (unwrap_or e.entry.session 0) (entries h))
    (λ start. reply_by script (changes (unwrap_or e.entry.session 0) (entries h)) (committed start (entries h))
    (seen_at e.entry.part e.node h) (unwrap_or e.entry.session 0) e.entry.tick e.entry.act) e.entry

pub record IsNodeStep (script : Script) (told : Option Tables) (places : Nodings) (h : Noded) (e : NodeEntry) : Type 0 where
  -- one tick is shared by all
  pub tick : e.entry.tick ≡ length h + 1
  pub bounded : e.entry.tick ≤ 2 ^ 62
  pub act : due_of script places h e.node e.entry.tick e.entry.session (second_half h) ≡ Some e.entry.act
  pub part : part_of e.entry.act (unwrap_or e.entry.session 0) ≡ e.entry.part
  pub reply : IsNodeReply script told h e

abbrev pub AreNodesLegal : Script → Option Tables → Nodings → Noded → Type 0
AreNodesLegal script told places [] = Unit {0}
AreNodesLegal script told places (e ∷ h) = AreNodesLegal script told places h × IsNodeStep script told places h e
