-- A session that was not killed is open exactly if its own entries say so; and none is killed by an act of a session.
use Rattle.std.proofs.Common.{◌≡◌, ℕ, inl, inr, Bool, true, false, cond, ◌||◌, [], ◌∷◌, Option, refl, ◌∙◌}
use Rattle.std.proofs.lemmas.Bool.{true≢false, or_parts}
use Rattle.hib_journal.specs.Types.{Act, Entry}
use Rattle.hib_journal.specs.Sessions.{Journal, is_by, is_session, own, is_open, open_after, is_begun, begun_after, was_killed, killed_by}
use Rattle.hib_journal.specs.Legal.{is_outside}
use Rattle.hib_base.proofs.Tables.{Tested, tested}

open_step : (s : ℕ) (by : Option ℕ) (a : Act) (o : Bool) → killed_by s a o ≡ false → open_after s by a o ≡ cond (is_session s by) (begun_after a o) o
open_step s by Act.Begin o p = begun (is_session s by)
  where
    begun : (x : Bool) → (x || o) ≡ cond x true o
    begun true = refl
    begun false = refl
open_step s by Act.End o p = refl
open_step s by (Act.Kill n) o p = rw p (same (is_session s by))
  where
    same : (x : Bool) → o ≡ cond x o o
    same true = refl
    same false = refl
open_step s by Act.Restart o p = rw p (same (is_session s by))
  where
    same : (x : Bool) → false ≡ cond x false false
    same true = refl
    same false = refl
open_step s by _ o p = same (is_session s by)
  where
    same : (x : Bool) → o ≡ cond x o o
    same true = refl
    same false = refl

pub begun_open : (s : ℕ) (h : Journal) → was_killed s h ≡ false → is_open s h ≡ is_begun (own s h)
begun_open s [] w = refl
begun_open s (e ∷ h) w = by_session (tested (is_by s e)) (begun_open s h parts.1)
  where
    parts : (killed_by s e.act (is_open s h) ≡ false) × (was_killed s h ≡ false)
    parts = or_parts (killed_by s e.act (is_open s h)) (was_killed s h) w

    by_session : Tested (is_by s e) → is_open s h ≡ is_begun (own s h) → is_open s (e ∷ h) ≡ is_begun (own s (e ∷ h))
    by_session (inl p) i = open_step s e.session e.act (is_open s h) parts.0 ∙ rw (p, i) refl
    by_session (inr p) i = open_step s e.session e.act (is_open s h) parts.0 ∙ rw (p, i) refl

unkilled : (s : ℕ) (a : Act) (o : Bool) → is_outside a ≡ false → killed_by s a o ≡ false
unkilled s (Act.Kill n) o p = absurd (true≢false p)
unkilled s Act.Restart o p = absurd (true≢false p)
unkilled s _ o p = refl

pub killed_same : (s : ℕ) (e : Entry) (h : Journal) → is_outside e.act ≡ false → was_killed s (e ∷ h) ≡ was_killed s h
killed_same s e h p = rw (unkilled s e.act (is_open s h) p) refl
