-- What one more entry of a journal with collections is to its sessions and to what is read of it.
use Rattle.std.specs.Option.{option_map_or}
use Rattle.std.proofs.Common.{◌≡◌, ℕ, true, false, List, ◌∷◌, Some, None, Option, refl}
use Rattle.hib_journal.specs.Types.{Cell, Script, Act, Reply}
use Rattle.hib_journal.specs.Sessions.{own}
use Rattle.hib_journal.specs.Lists.{entry_at}
use Rattle.hib_collections_law.specs.declared.entries.MemberEntry.{MemberEntry}
use Rattle.hib_collections_law.specs.declared.entries.GatherEntry.{GatherEntry}
use Rattle.hib_collections_law.specs.Types.{Gathered}
use Rattle.hib_collections_law.specs.Gathered.{due_in, hit_in, is_by, mine, plain, read_as}

module _ (script : Script) (g : Gathered) where
  -- what is done at a region and is no Hit is no plain entry
  pub plain_member : (m : MemberEntry) → hit_in m.act m.reply ≡ None → plain script (GatherEntry.Member m ∷ g) ≡ plain script g
  plain_member m e = rw e refl

  -- and a Hit is that of the list which is due
  pub plain_hit : (m : MemberEntry) (l : List Cell) (a : Act) → hit_in m.act m.reply ≡ Some l → due_in script m.session (plain script g) ≡ Some a →
      plain script (GatherEntry.Member m ∷ g) ≡ entry_at m.tick (Some m.session) a (Reply.Listed l) ∷ plain script g
  plain_hit m l a e d = rw (e, d) refl

  -- an entry of another session leaves a session's own
  pub own_other : (t : ℕ) (x : GatherEntry) → is_by t x ≡ false → own t (plain script (x ∷ g)) ≡ own t (plain script g)
  own_other t (GatherEntry.Plain e) p = rw p refl
  own_other t (GatherEntry.Member m) p = by_hit (hit_in m.act m.reply) (due_in script m.session (plain script g))
    where
      by_hit : (o : Option (List Cell)) (d : Option Act) →
          own t (option_map_or (λ l. read_as d m (Reply.Listed l) (plain script g)) o (plain script g)) ≡ own t (plain script g)
      by_hit None d = refl
      by_hit (Some l) None = refl
      by_hit (Some l) (Some a) = rw p refl

  pub mine_other : (t : ℕ) (x : GatherEntry) → is_by t x ≡ false → mine t (x ∷ g) ≡ mine t g
  mine_other t x p = rw p refl

  pub mine_self : (s : ℕ) (x : GatherEntry) → is_by s x ≡ true → mine s (x ∷ g) ≡ x ∷ mine s g
  mine_self s x p = rw p refl
