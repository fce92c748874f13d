-- Entries that are well formed, with early ticks; and what is read of them.
use Rattle.std.proofs.Common.{◌≡◌, ℕ, ◌≤◌, ◌^◌, Bool, true, false, cond, List, [], ◌∷◌, length, slice_get, ◌==◌, Some, None, Option, refl, subst, ◌⊎◌, inl, inr, arith, min}
use Rattle.std.proofs.lemmas.Bool.{false≢true, and_parts, or_cases, le-leb, lt-ltb, eqb-true}
use Rattle.std.proofs.lemmas.Option.{slice_get_within}
use Rattle.std.specs.List.{AllByRecursion}
use Rattle.hib_base.specs.Fits.{is_identifier}
use Rattle.hib_base.specs.Scripts.{is_cached_by, strategy_in}
use Rattle.hib_journal.specs.Types.{Key, Change, Script, Act, Reply, EntityDef, Entry}
use Rattle.hib_journal.specs.Sessions
use Rattle.hib_journal.specs.Sessions.{Journal, own, is_by, time_after, time_in, floor_after, floor_in, changes_after, changes_in, is_open, open_after, floor, least_live, is_live}
use Rattle.hib_journal.specs.Next.{is_cached}
use Rattle.hib_entry_fields.specs.Known.{is_key, is_entity, is_session, is_tick}
use Rattle.hib_entry_texts.specs.WellFormed.{is_act, is_reply, is_change, is_actor}
use Rattle.hib_formed.proofs.Each.{each_push}

pub record IsGood (script : Script) (e : Entry) : Type 0 where
  pub act : is_act script e.act ≡ true
  pub reply : is_reply script e.act e.reply ≡ true
  pub actor : is_actor script e.session ≡ true
  pub tick : e.tick ≤ 2 ^ 61

abbrev pub AllGood : Script → Journal → Type 0
AllGood script h = AllByRecursion (IsGood script) h

abbrev pub AreChanges : Script → List Change → Type 0
AreChanges script cs = AllByRecursion (λ c. is_change script c ≡ true) cs

pub early_tick : (t : ℕ) → t ≤ 2 ^ 62 → is_tick t ≡ true
early_tick t h = le-leb t (2 ^ 62) h

pub key_parts : (script : Script) (k : Key) → is_key script k ≡ true → (is_entity script k.entity ≡ true) × (is_identifier k.id ≡ true)
key_parts script k h = and_parts (is_entity script k.entity) (is_identifier k.id) h

-- a session's own entries
pub own_good : (script : Script) (s : ℕ) (h : Journal) → AllGood script h → AllGood script (own s h)
own_good script s [] g = tt
own_good script s (e ∷ h) g = by (is_by s e) (own_good script s h g.1)
  where
    by : (b : Bool) → AllGood script (own s h) → AllGood script (cond b (e ∷ own s h) (own s h))
    by true r = (g.0, r)
    by false r = r

time_step : (a : Act) (now t : ℕ) → now ≤ 2 ^ 61 → t ≤ 2 ^ 61 → time_after a now t ≤ 2 ^ 61
time_step Act.Begin now t h k = h
time_step _ now t h k = k

pub time_early : (script : Script) (m : Journal) → AllGood script m → time_in m ≤ 2 ^ 61
time_early script [] g = omega arith
time_early script (e ∷ m) g = time_step e.act e.tick (time_in m) g.0.tick (time_early script m g.1)

pub time_tick : (script : Script) (m : Journal) → AllGood script m → is_tick (time_in m) ≡ true
time_tick script m g = let h : time_in m ≤ 2 ^ 61 = time_early script m g in early_tick (time_in m) (omega arith)

floor_step : (script : Script) (a : Act) (r : Reply) (f : ℕ) → is_reply script a r ≡ true → is_tick f ≡ true → is_tick (floor_after a r f) ≡ true
floor_step script Act.Begin (Reply.Began n) f h k = h
floor_step script Act.Begin _ f h k = k
floor_step script _ r f h k = k

pub floor_tick : (script : Script) (m : Journal) → AllGood script m → is_tick (floor_in m) ≡ true
floor_tick script [] g = early_tick 0 (omega arith)
floor_tick script (e ∷ m) g = floor_step script e.act e.reply (floor_in m) g.0.reply (floor_tick script m g.1)

changes_step : (script : Script) (a : Act) (cs : List Change) → is_act script a ≡ true → AreChanges script cs → AreChanges script (changes_after a cs)
changes_step script Act.Begin cs h g = tt
changes_step script (Act.Write c) cs h g = each_push (λ c. is_change script c ≡ true) cs c g h
changes_step script _ cs h g = g

pub changes_good : (script : Script) (m : Journal) → AllGood script m → AreChanges script (changes_in m)
changes_good script [] g = tt
changes_good script (e ∷ m) g = changes_step script e.act (changes_in m) g.0.act (changes_good script m g.1)

-- a session that is open is one of the script's
named : (script : Script) (s : ℕ) (by : Option ℕ) → is_actor script by ≡ true → Sessions.is_session s by ≡ true → is_session script s ≡ true
named script s None h p = absurd (false≢true p)
named script s (Some n) h p = subst (λ m. is_session script m ≡ true) (eqb-true n s p) h

open_step : (script : Script) (s : ℕ) (a : Act) (by : Option ℕ) (o : Bool) → is_actor script by ≡ true → (o ≡ true → is_session script s ≡ true) →
    open_after s by a o ≡ true → is_session script s ≡ true
open_step script s Act.Begin by o h f p = at (or_cases (Sessions.is_session s by) o p)
  where
    at : (Sessions.is_session s by ≡ true) ⊎ (o ≡ true) → is_session script s ≡ true
    at (inl q) = named script s by h q
    at (inr q) = f q
open_step script s Act.End by o h f p = at (Sessions.is_session s by) p
  where
    at : (b : Bool) → cond b false o ≡ true → is_session script s ≡ true
    at true q = absurd (false≢true q)
    at false q = f q
open_step script s (Act.Kill n) by o h f p = at (n == s) p
  where
    at : (b : Bool) → cond b false o ≡ true → is_session script s ≡ true
    at true q = absurd (false≢true q)
    at false q = f q
open_step script s Act.Restart by o h f p = absurd (false≢true p)
open_step script s _ by o h f p = f p

pub open_session : (script : Script) (s : ℕ) (h : Journal) → AllGood script h → is_open s h ≡ true → is_session script s ≡ true
open_session script s [] g p = absurd (false≢true p)
open_session script s (e ∷ h) g p = open_step script s e.act e.session (is_open s h) g.0.actor (open_session script s h g.1) p

-- the floor is not above the tick
least_le : (whole h : Journal) (now : ℕ) → least_live whole h now ≤ now
least_le whole [] now = omega arith
least_le whole (e ∷ h) now = by (is_live whole e.act e.session e.tick) (least_le whole h now)
  where
    by : (b : Bool) → least_live whole h now ≤ now → cond b (min e.tick (least_live whole h now)) (least_live whole h now) ≤ now
    by true r = omega arith
    by false r = r

pub floor_le : (h : Journal) (now : ℕ) → floor h now ≤ now
floor_le h now = least_le h h now

-- an entity with a strategy is declared
pub cached_entity : (script : Script) (n : ℕ) → is_cached script n ≡ true → is_entity script n ≡ true
cached_entity script n h = by (slice_get script.mapping n) refl h
  where
    by : (o : Option EntityDef) → slice_get script.mapping n ≡ o → is_cached_by (strategy_in o) ≡ true → is_entity script n ≡ true
    by None e c = absurd (false≢true c)
    by (Some d) e c = lt-ltb n (length script.mapping) (slice_get_within script.mapping n d e)
