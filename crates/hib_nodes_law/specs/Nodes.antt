-- Two nodes over one store, by counting the entries of their one list: what waits for a node, what it has not been told of yet, and since
-- when its items are. The newest entry comes first, as in a journal. Nothing here asks how many nodes there are.
use Rattle.std.specs.Prelude.{ℕ, ◌+◌, ◌-◌, Bool, true, false, if◌then◌else◌, not, ◌&&◌, ◌==◌, nat_le, List, [], ◌∷◌, ◌++◌, length, drop, take, Some, Option, is_some}
use Rattle.std.specs.Option.{option_map_or}
use Rattle.std.specs.List.{filter, list_all, list_any}
use Rattle.hib_base.specs.Keys.{same_key}
use Rattle.hib_base.specs.Tables.{key_of}
use Rattle.hib_journal.specs.Types.{Key, Change, Strategy, Act, Script}
use Rattle.hib_journal.specs.Sessions.{Journal, changes, committer, is_session}
use Rattle.hib_journal.specs.Slot.{Touch, touch, history}
use Rattle.hib_journal.specs.Next.{strategy, keys_of}
use Rattle.hib_journal.specs.Sound.{is_calm, was_reused, commits}
use Rattle.hib_journal.specs.Coherence.{takes}
use Rattle.hib_nodes_law.specs.Types.{NodeEntry, Noded}

-- the entries of both nodes: what the store and the stamps see
abbrev pub entries : Noded → Journal
entries [] = []
entries (e ∷ h) = e.entry ∷ entries h

-- the entries of one node: what its registry and its regions see. Slots, room, floors and holders are of this journal
abbrev pub of_node : ℕ → Noded → Journal
of_node n [] = []
of_node n (e ∷ h) = if e.node == n then e.entry ∷ of_node n h else of_node n h

-- commits, and the keys that they have changed

-- whether an entry is a Committed one with a change on k
abbrev pub changes_key : Key → Noded → NodeEntry → Bool
changes_key k h e = commits (λ c. same_key (key_of c) k) (entries h) e.entry

-- how many there are
abbrev pub commit_count : Key → Noded → ℕ
commit_count k [] = 0
commit_count k (e ∷ h) = (if changes_key k h e then 1 else 0) + commit_count k h

-- the changes of a Committed entry; of any other none
abbrev pub committed_changes : Noded → NodeEntry → List Change
committed_changes h e = option_map_or (λ s. changes s (entries h)) (committer e.entry.act e.entry.reply e.entry.session) []

abbrev pub is_read_write : Strategy → Bool
is_read_write Strategy.ReadWrite = true
is_read_write _ = false

-- the keys of read-write regions among some changes, in order of their first change
abbrev pub shared_keys : Script → List Change → List Key
shared_keys script cs = filter (λ k. is_read_write (strategy script k.entity)) (keys_of cs)

-- the keys that ever came into the queue of node n, the oldest first. Each Committed entry of the other node gives one for each key that it
-- changed: the entry and the key are a pair, of which the key is all that a fence asks for
abbrev pub pairs : Script → ℕ → Noded → List Key
pairs script n [] = []
pairs script n (e ∷ h) = pairs script n h ++ (if e.node == n then [] else shared_keys script (committed_changes h e))

-- fences

abbrev pub is_lock : Act → Bool
is_lock (Act.Lock k v f) = true
is_lock _ = false

-- the Lock of a fence at node n: it is of no session
abbrev pub is_fence : ℕ → NodeEntry → Bool
is_fence n e = (e.node == n) && (not (is_some e.entry.session) && is_lock e.entry.act)

abbrev pub fence_count : ℕ → Noded → ℕ
fence_count n [] = 0
fence_count n (e ∷ h) = (if is_fence n e then 1 else 0) + fence_count n h

-- the queue of node n, the oldest pair first: each fence has taken the first one, which is delivered by it
abbrev pub queue : Script → ℕ → Noded → List Key
queue script n h = drop (fence_count n h) (pairs script n h)

-- behind

-- the Committed entries of the other node with a change on k, the newest first
abbrev pub crossed : ℕ → Key → Noded → Noded
crossed n k [] = []
crossed n k (e ∷ h) = if not (e.node == n) && changes_key k h e then e ∷ crossed n k h else crossed n k h

-- how many fences of k node n has done
abbrev pub fenced : ℕ → Key → Noded → ℕ
fenced n k [] = 0
fenced n k (e ∷ h) = (if is_fence n e && takes k e.entry.act then 1 else 0) + fenced n k h

-- those whose pair is not delivered to n. Pairs are delivered in order, so it is all but as many of the oldest as there were fences of k
abbrev pub behind : ℕ → Key → Noded → Noded
behind n k h = take (length (crossed n k h) - fenced n k h) (crossed n k h)

-- whether an entry of a journal is one of these, or comes after one of them
abbrev pub is_from : Noded → NodeEntry → Bool
is_from bs c = list_any (λ b. nat_le b.entry.tick c.entry.tick) bs

-- since

-- the journal up to the newest entry of which p holds, with that entry; empty if there is none
abbrev pub up_to : (NodeEntry → Bool) → Noded → Noded
up_to p [] = []
up_to p (e ∷ h) = if p e then e ∷ h else up_to p h

abbrev pub is_store : Option Touch → Bool
is_store (Some (Touch.Stores r late)) = true
is_store _ = false

-- an entry stores a row of k at node n
abbrev pub stores : ℕ → Key → NodeEntry → Bool
stores n k e = (e.node == n) && is_store (touch k e.entry)

abbrev pub loads : Key → Act → Bool
loads k (Act.Load j) = same_key j k
loads k _ = false

-- the entry that gave the row which an act of a session stores: a Load for a Put, the session's Committed entry for any other
abbrev pub gave : Key → Act → Option ℕ → NodeEntry → Bool
gave k (Act.Put j r t f) by d = option_map_or (λ s. is_session s d.entry.session) by false && loads k d.entry.act
gave k _ by d =
    option_map_or (λ s. is_session s d.entry.session) by false && is_some (committer d.entry.act d.entry.reply d.entry.session)

-- the same of the entry that stored the row, which is the newest one here
abbrev pub since_store : Key → Noded → Noded
since_store k [] = []
since_store k (e ∷ g) = up_to (gave k e.entry.act e.entry.session) g

-- where n has an item of k: the journal up to the entry that gave its row, with it
abbrev pub since : ℕ → Key → Noded → Noded
since n k h = since_store k (up_to (stores n k) h)

-- soundness is a node's: none of its own entries on k was answered Expired or stored late. A reuse counts whichever nodes it was by
unfoldable pub is_sound_at : ℕ → Key → Noded → Bool
is_sound_at n k h = list_all (λ t. is_calm t.0) (history k (of_node n h)) && not (was_reused k (entries h))
