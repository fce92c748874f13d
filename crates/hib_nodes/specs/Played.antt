-- What is played of a run of two nodes: the orders, then each session to its end, and then what waits for node 1 and for node 2.
use Rattle.std.specs.Prelude.{◌≡◌, ◌<◌, ℕ, Bool, false, if◌then◌else◌, List, ◌∷◌, length, is_some, take, Some, None}
use Rattle.std.specs.List.{range_with_len}
use Rattle.hib_journal.specs.Types.{Key, Script}
use Rattle.hib_journal.specs.Sessions.{own, is_session}
use Rattle.hib_journal.specs.Next.{next}
use Rattle.hib_playing.specs.Playing.{Play, play_all, play_each, play_steps, play_then, plays}
use Rattle.hib_nodes_law.specs.declared.nodes.NodeEntry.{NodeEntry}
use Rattle.hib_nodes_law.specs.declared.nodes.NodeOrder.{NodeOrder}
use Rattle.hib_nodes_law.specs.Types.{Noded}
use Rattle.hib_nodes_law.specs.Nodes.{entries, queue, is_fence}
use Rattle.hib_nodes.specs.Standing.{is_node}

abbrev pub has_next : Script → Noded → ℕ → Bool
has_next script h s = is_some (next script s (own s (entries h)))

abbrev pub is_by : ℕ → NodeEntry → Bool
is_by s e = is_session s e.entry.session

-- the two entries of a fence at node n
abbrev pub play_fence : ℕ → Play NodeEntry
play_fence n past (d ∷ e ∷ rest) = if is_fence n d then Some (e ∷ d ∷ past, rest) else None
play_fence n past rest = None

-- the first pair that waits for node n, if one does
abbrev pub play_deliver : Script → ℕ → Play NodeEntry
play_deliver script n past rest = play_each (λ (k : Key). play_fence n) (take 1 (queue script n past)) past rest

-- all that waits for node n
abbrev pub play_queue : Script → ℕ → Play NodeEntry
play_queue script n past rest = play_each (λ (k : Key). play_fence n) (queue script n past) past rest

-- an order runs a session or delivers to a node; nothing waits for a node that isn't there
abbrev pub play_order : Script → NodeOrder → Play NodeEntry
play_order script (NodeOrder.Run s n) past rest = play_steps (has_next script) is_by s n past rest
play_order script (NodeOrder.Deliver n) past rest = if is_node n then play_deliver script n past rest else Some (past, rest)

-- each session to its end
abbrev pub play_sessions : Script → Play NodeEntry
play_sessions script = play_each (play_all (has_next script) is_by) (range_with_len 0 (length script.sessions))

-- the orders, one after the other, then each session to its end, and then what waits for node 1 and for node 2
abbrev pub play_script : Script → List NodeOrder → Play NodeEntry
play_script script orders =
    play_then (play_each (play_order script) orders)
    (play_then (play_sessions script) (play_then (play_queue script 1) (play_queue script 2)))

-- the journal is what the orders and then the rest give
unfoldable pub is_played : Script → List NodeOrder → Noded → Bool
is_played script orders h = plays (play_script script orders) h

-- nothing is due in any session
abbrev pub AreOver : Script → Noded → Type 0
AreOver script h = (s : ℕ) → s < length script.sessions → has_next script h s ≡ false
