-- A run with collections that goes on by the definition of what is played.
use Rattle.std.specs.Option.{option_map_or}
use Rattle.std.proofs.Common.{◌≡◌, ℕ, ◌≤◌, ◌==◌, true, false, List, [], ◌∷◌, length, None, Option, refl, ap, ◌∙◌}
use Rattle.std.proofs.lemmas.Option.{slice_get_past}
use Rattle.hib_journal.specs.Types.{Mode, Script, SessionDef}
use Rattle.hib_journal.specs.Plan.{Plan, left_of, first_act}
use Rattle.hib_journal.specs.Next.{next, blocks}
use Rattle.hib_journal.specs.Sessions.{Journal, own}
use Rattle.hib_playing.specs.Playing.{GoesOn, Leads, played}
use Rattle.hib_playing.proofs.Playing.{all_played, goes_then}
use Rattle.hib_collections_law.specs.declared.entries.Def.{Def}
use Rattle.hib_collections_law.specs.declared.entries.GatherEntry.{GatherEntry}
use Rattle.hib_collections_law.specs.Types.{Gathered}
use Rattle.hib_collections_law.specs.Gathered.{is_by, mine, plain}
use Rattle.hib_engines.specs.Origin.{Origin}
use Rattle.hib_collections.specs.Kept.{past}
use Rattle.hib_collections.specs.Gather.{GatherState, HasStopped}
use Rattle.hib_collections.specs.Played.{has_next, is_played, play_script}
use Rattle.hib_collections.proofs.Entries.{own_other, mine_other}
use Rattle.hib_collections.proofs.Turned.{by_other}

-- a run that stopped, after what was played before
pub stopped_after : (script : Script) (from : Origin) (old mid new : GatherState) → GoesOn (past old.journal) (past mid.journal) → mid.refused ≡ old.refused → HasStopped script from mid new →
    HasStopped script from old new
stopped_after script from old mid new f p s = record { stands = goes_then (past old.journal) (past mid.journal) (past new.journal) f s.stands; asked = λ e. s.asked (p ∙ e); refused = s.refused }

-- what is played of all of it
pub all_of_it : (script : Script) (defs : List Def) (g : Gathered) → Leads (play_script script defs) played [] g → is_played script defs g ≡ true
unfolding is_played
all_of_it script defs g w = all_played (play_script script defs) g w

module _ (script : Script) (defs : List Def) where
  -- a step of one session leaves what is due in the others

  pub next_other : (t : ℕ) (g : Gathered) (x : GatherEntry) → is_by t x ≡ false → has_next script defs (x ∷ g) t ≡ has_next script defs g t
  next_other t g x p =
      let m : mine t (x ∷ g) ≡ mine t g = mine_other script g t x p in
      let o : own t (plain script (x ∷ g)) ≡ own t (plain script g) = own_other script g t x p in
      rw (m, o) refl

  pub stay_more : (n : ℕ) (old mid new : Gathered) (x : GatherEntry) → new ≡ x ∷ mid → is_by n x ≡ true →
      ((s : ℕ) → (n == s) ≡ false → has_next script defs mid s ≡ has_next script defs old s) → (s : ℕ) → (n == s) ≡ false → has_next script defs new s ≡ has_next script defs old s
  stay_more n old mid new x e b f s d = ap (λ g. has_next script defs g s) e ∙ (next_other s mid x (by_other n s x b d) ∙ f s d)

-- nothing of its plan is due in a session that isn't there
over_left : (mine : Journal) → left_of Plan.Over mine ≡ Plan.Over
over_left [] = refl
over_left (e ∷ m) = rw (over_left m) refl

pub unknown : (script : Script) (s : ℕ) (mine : Journal) → length script.sessions ≤ s → next script s mine ≡ None
unfolding next
unknown script s mine l = ap (λ (o : Option SessionDef). first_act (left_of (blocks script Mode.Normal true (option_map_or (λ d. d.statements) o []) []) mine)) (slice_get_past script.sessions s l) ∙ ap first_act (over_left mine)
