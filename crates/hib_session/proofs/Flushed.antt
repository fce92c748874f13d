-- What a flush and a completion are by a memory.
use Rattle.std.proofs.Common.{◌≡◌, ℕ, Bool, ◌&&◌, List, [], ◌∷◌, ◌++◌, Option, refl, sym, ap, ◌∙◌, append_assoc, append-nil}
use Rattle.std.specs.List.{flat_map}
use Rattle.hib_journal.specs.Types.{Key, Change, Mode, Script, Act}
use Rattle.hib_journal.specs.Sessions.{Journal, changes_in}
use Rattle.hib_journal.specs.Held.{pending}
use Rattle.hib_journal.specs.Next.{tables_in, before_key, before_write, writes, flush_of, complete, keys_of, completion, mode_puts}
use Rattle.hib_completion.specs.Completed.{key_acts, keys_acts, completes}
use Rattle.hib_flush.specs.Planned.{planned}
use Rattle.hib_session.specs.Memory.{Remembered, Knows, Recalls, before_key_in, before_in, writes_in, flush_in}
use Rattle.hib_flush.proofs.Pending.{pending_kept}

-- what is asked for the acts that follow is known of all entries
pub recalls : (x : Remembered) (mine : Journal) → Knows x mine → Recalls x mine
recalls x mine k = record { time = k.time; floor = k.floor; changes = k.changes; locks = k.locks }

module _ (script : Script) (x : Remembered) (mine : Journal) (r : Knows x mine) where
  same_before_key : (k : Key) (v : Option ℕ) → before_key_in script x k v ≡ before_key script mine k v
  same_before_key k v = rw (r.changes, r.fresh k, r.floor) refl

  same_before : (c : Change) → before_in script x c ≡ before_write script mine c
  same_before (Change.Insert k row) = refl
  same_before (Change.Update k v row) = same_before_key k v
  same_before (Change.Delete k v) = same_before_key k v

  same_writes : (cs : List Change) → writes_in script x cs ≡ writes script mine cs
  same_writes [] = refl
  same_writes (c ∷ cs) = rw (same_before c, same_writes cs) refl

  same_flush : (cs : List Change) → flush_in script x cs ≡ flush_of script mine cs
  same_flush [] = refl
  same_flush (c ∷ cs) = ap (λ acts. Act.Pre (tables_in script (c ∷ cs)) ∷ acts) (same_writes (c ∷ cs))

  pub flush_kept : flush_in script x (planned x.instances) ≡ flush_of script mine (pending mine)
  flush_kept = same_flush (planned x.instances) ∙ ap (flush_of script mine) (pending_kept x.instances mine r.holds r.removals)

module _ (script : Script) (x : Remembered) (mine : Journal) (r : Recalls x mine) (m : Mode) (done : Bool) where
  same_key_acts : (k : Key) → key_acts script.mapping x.changes x.locks (done && mode_puts m) x.floor k ≡ complete script m mine done (changes_in mine) k
  same_key_acts k = rw (r.changes, r.locks k, r.floor) refl

  same_keys_acts : (ks : List Key) → keys_acts script.mapping x.changes x.locks (done && mode_puts m) x.floor ks ≡ flat_map (λ k. complete script m mine done (changes_in mine) k) ks
  same_keys_acts [] = refl
  same_keys_acts (k ∷ ks) = rw (same_key_acts k, same_keys_acts ks) refl

  pub completion_kept : completes script.mapping x.changes x.locks done m x.floor ++ Act.End ∷ [] ≡ completion script m done mine
  completion_kept = rw (same_keys_acts (keys_of x.changes), r.changes) refl

-- one more write of a flush
pub write_more : (script : Script) (x : Remembered) (cs : List Change) (c : Change) → writes_in script x (cs ++ c ∷ []) ≡ writes_in script x cs ++ (before_in script x c ++ Act.Write c ∷ [])
write_more script x [] c = append-nil (before_in script x c ++ Act.Write c ∷ [])
write_more script x (d ∷ cs) c =
    ap (λ acts. (before_in script x d ++ Act.Write d ∷ []) ++ acts) (write_more script x cs c)
    ∙ sym (append_assoc (before_in script x d ++ Act.Write d ∷ []) (writes_in script x cs) (before_in script x c ++ Act.Write c ∷ []))
