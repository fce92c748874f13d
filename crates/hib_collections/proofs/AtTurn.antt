-- What holds at a call within a turn: what was prepared, what is due, and what the turn comes to among all sessions.
use Rattle.std.specs.Prelude.{slice_get}
use Rattle.std.proofs.Common.{◌≡◌, ◌<◌, ℕ, List, length, get_or, Some, None, Result, OnErr, IfOk, refl, sym, ap, ◌∙◌, subst}
use Rattle.hib_journal.specs.Types.{Script, Act}
use Rattle.hib_journal.specs.Sessions.{Journal, own}
use Rattle.hib_session.specs.Session.{Follows, number_of}
use Rattle.hib_engines.specs.declared.region.Region.{Region}
use Rattle.hib_engines.specs.Engines.{EnginesState}
use Rattle.hib_engines.specs.Origin.{Origin}
use Rattle.hib_engines.proofs.Still.{still_same}
use Rattle.hib_collections_law.specs.declared.entries.Def.{Def}
use Rattle.hib_collections_law.specs.Types.{Gathered}
use Rattle.hib_collections_law.specs.Gathered
use Rattle.hib_collections_law.specs.Gathered.{due_for, plain}
use Rattle.hib_collections.specs.declared.before.Before.{Before}
use Rattle.hib_collections.specs.declared.members.Gatherer.{Gatherer}
use Rattle.hib_collections.specs.declared.turns.Turned.{Turned}
use Rattle.hib_collections.specs.Before.{IsKnown, due_by}
use Rattle.hib_collections.specs.Gatherers.{AreGatherers, IsGatherer}
use Rattle.hib_collections.specs.Notes.{AreNoted}
use Rattle.hib_collections.specs.Run.{IsKept, IsRun, IsTurn, Leaves, Turns}
use Rattle.hib_collections.proofs.Left.{leaves_same}
use Rattle.hib_collections.proofs.Taken.{due_before}
use Rattle.hib_collections.proofs.Turned.{HasTurned, at_place, kept_member, kept_run, turned}

-- ---- a turn that was prepared: its session is kept, by the script that was handed in, and the entries are the same

pub record IsPrepared (script : Script) (g mid : Gathered) (u v : Gatherer) : Type 0 where
  pub same : mid ≡ g
  pub kept : IsKept script u v

pub prepared : {told script : Script} {g mid : Gathered} {u v : Gatherer} → told ≡ script → mid ≡ g → IsKept told u v → IsPrepared script g mid u v
prepared {told} {script} {g} {mid} {u} {v} q same kept = record { same = same; kept = subst (λ (z : Script). IsKept z u v) q kept }

pub left_prepared : {script : Script} {defs : List Def} {g mid : Gathered} {x : EnginesState} {rs : List Region} {u v : Gatherer} → IsPrepared script g mid u v → Leaves script defs g mid x x rs rs u v
left_prepared {script} {defs} {g} {mid} {x} {rs} {u} {v} p = leaves_same script defs g mid x rs rs u v p.same refl p.kept

pub run_prepared : {script : Script} {defs : List Def} {from : Origin} {g mid : Gathered} {x : EnginesState} {rs : List Region} {u v : Gatherer} → IsPrepared script g mid u v → IsRun script defs from g x rs →
    IsRun script defs from mid x rs
run_prepared {script} {defs} {from} {g} {mid} {x} {rs} p run = kept_run script defs from g mid x x rs rs p.same (still_same x x refl) refl run

pub member_prepared : {script : Script} {g mid : Gathered} {u v : Gatherer} → IsPrepared script g mid u v → IsGatherer script g (number_of u.session) u → IsGatherer script mid (number_of v.session) v
member_prepared {script} {g} {mid} {u} {v} p w =
    subst (λ (h : Gathered). IsGatherer script h (number_of v.session) v) (sym p.same)
    (subst (λ n. IsGatherer script g n v) (sym p.kept.number) (kept_member script g (number_of u.session) u v p.kept w))

-- ---- an act that comes before the one that is due, by the script and the collections that were handed in

pub due_told : {told script : Script} {ds defs : List Def} {from : Origin} {g : Gathered} {x : EnginesState} {rs : List Region} {u : Gatherer} {a : Act} {b k : Before} → told ≡ script → ds ≡ defs → IsRun script defs from g x rs →
    IsTurn script g u a → u.notes.listed ≡ None → ((m : Journal) (o : Gathered) → Follows told u.session m → AreNoted u.notes o → IsKnown m a → due_for told ds a m o ≡ due_by b a m) → b ≡ k →
    Gathered.due script defs (number_of u.session) g ≡ Some (due_by k a (own (number_of u.session) (plain script g)))
due_told {told} {script} {ds} {defs} {from} {g} {x} {rs} {u} {a} {b} {k} q d run turn unlisted f e =
    due_before script defs g u from.tables (number_of u.session) a b run.gathered turn.member turn.next unlisted
    (subst (λ (zs : List Def). (m : Journal) (o : Gathered) → Follows script u.session m → AreNoted u.notes o → IsKnown m a → due_for script zs a m o ≡ due_by b a m) d
    (subst (λ (z : Script). (m : Journal) (o : Gathered) → Follows z u.session m → AreNoted u.notes o → IsKnown m a → due_for z ds a m o ≡ due_by b a m) q f))
    ∙ ap (λ z. Some (due_by z a (own (number_of u.session) (plain script g)))) e

-- ---- a session at its place among all

pub here : {script : Script} {g : Gathered} {ys : List Gatherer} {i s : ℕ} {y : Gatherer} → AreGatherers script g ys → i ≡ s → s < length script.sessions → y ≡ get_or ys i y → slice_get ys s ≡ Some y
here {script} {g} {ys} {i} {s} {y} all e l v = at_place script g ys i s y all e l v

pub came : {E : Type 0} {script : Script} {defs : List Def} {from : Origin} {s : ℕ} {r : Result Turned E} {g new : Gathered} {x y : EnginesState} {rs qs : List Region} {ys : List Gatherer} {u : Gatherer} (v : Gatherer) → IsRun script defs from g x rs →
    AreGatherers script g ys → slice_get ys s ≡ Some u → IfOk r (Turns script defs from (number_of u.session) g new x y rs qs u v) → OnErr r (Leaves script defs g new x y rs qs u v) →
    HasTurned script defs from s r g new x y qs (Rattle.std.specs.Prelude.slice_set ys s v)
came {E} {script} {defs} {from} {s} {r} {g} {new} {x} {y} {rs} {qs} {ys} {u} v run all at ok err = turned script defs from s r g new x y rs qs ys u v run all at ok err
