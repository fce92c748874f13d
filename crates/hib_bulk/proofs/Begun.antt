-- What a factory with bulk lines is opened with stands for the empty journal.
use Rattle.std.proofs.Common.{◌≡◌, ℕ, zero, suc, ◌+◌, ◌<◌, ◌≤◌, List, [], ◌∷◌, length, map, Some, None, Option, IfSome, true, refl, sym, ap, ◌∙◌, subst, arith}
use Rattle.std.proofs.lemmas.List.{length-map, length-replicate}
use Rattle.std.proofs.lemmas.Option.{none-some, same_Some}
use Rattle.std.specs.Prelude.{slice_get}
use Rattle.std.specs.Option.{option_map_or}
use Rattle.hib_base.specs.Tables.{Tables, in_order}
use Rattle.hib_base.proofs.Valid.{Rules, rules}
use Rattle.hib_journal.specs.Types.{Script, Strategy, EntityDef}
use Rattle.hib_journal.specs.Next.{strategy, strategy_in, capacity, is_cached_by}
use Rattle.hib_update_stamps.specs.Stamped.{unstamped}
use Rattle.hib_update_stamps.specs.Standing.{IsStamps}
use Rattle.hib_query_cache.specs.Standing.{IsResults}
use Rattle.hib_session.specs.declared.session.Session.{Session}
use Rattle.hib_session.specs.Sessions as Plainly
use Rattle.hib_engines.specs.Laws.{Laws}
use Rattle.hib_engines.specs.Origin.{Origin}
use Rattle.hib_engines.specs.Registry.{IsRegistry}
use Rattle.hib_engines.proofs.Bridge.{bridged_begins}
use Rattle.hib_engines.proofs.Ready.{ready}
use Rattle.hib_engines.proofs.Opened.{registry_begins}
use Rattle.hib_store.specs.Stores.{changes_in}
use Rattle.hib_bulk_region.specs.Laws as Wide
use Rattle.hib_bulk.specs.Types.{BulkDef}
use Rattle.hib_bulk.specs.declared.lines.LineProgress.{LineProgress}
use Rattle.hib_bulk.specs.Regions.{region_of, opened, IsPlaced}
use Rattle.hib_bulk.specs.Standing.{BulkPartsState, AreStanding, told_committed}
use Rattle.hib_bulk.specs.Run.{IsLine, AreBuilt, AreSet}
use Rattle.hib_bulk.specs.Steps.{AreSessions, AreLines, fresh}
use Rattle.hib_bulk.specs.Factory.{FactoryState, IsStanding}
use Rattle.hib_bulk.specs.Kept.{past}

-- what a run asks of its script and its lines is all that its steps need
pub built_of : (script : Script) (lines : List BulkDef) → AreSet script lines → AreBuilt script lines
built_of script lines w = record {
  built = ready script w.valid;
  numbers = let r : Rules script = rules script w.valid in let n = r.sessions in let m = w.few in omega (arith, n, m);
  strategies = w.strategies;
  below = w.below;
}

region_in : (timeout : ℕ) (ds : List EntityDef) (n : ℕ) →
    region_of (map (λ d. opened d.strategy d.capacity timeout) ds) n ≡ opened (strategy_in (slice_get ds n)) (option_map_or (λ d. d.capacity) (slice_get ds n) 0) timeout
region_in timeout [] n = refl
region_in timeout (d ∷ ds) zero = refl
region_in timeout (d ∷ ds) (suc n) = region_in timeout ds n

placed_begins : Wide.Begins → (script : Script) (lines : List BulkDef) (n : ℕ) (g : Strategy) → AreBuilt script lines → strategy script n ≡ g → IsPlaced script n [] (opened g (capacity script n) script.timeout)
placed_begins w script lines n Strategy.Uncached b e = e
placed_begins w script lines n Strategy.ReadWrite b e = record { strategy = e; capacity = refl; timeout = refl; stands = w (capacity script n) script.timeout n }
placed_begins w script lines n Strategy.ReadOnly b e = let q : Strategy.ReadOnly ≡ Strategy.ReadWrite = sym e ∙ b.strategies n (ap is_cached_by e) in absurd (cc)
placed_begins w script lines n Strategy.Nonstrict b e = let q : Strategy.Nonstrict ≡ Strategy.ReadWrite = sym e ∙ b.strategies n (ap is_cached_by e) in absurd (cc)

told_same : (script : Script) (lines : List BulkDef) (told : Option Tables) → told ≡ told_committed script lines told []
told_same script lines None = refl
told_same script lines (Some start) = refl

pub parts_begin : Laws → Wide.Begins → (script : Script) (lines : List BulkDef) (told : Option Tables) (x : BulkPartsState) → AreBuilt script lines → x.store.tables ≡ told → x.store.written ≡ [] → x.registry ≡ [] →
    x.stamps ≡ unstamped (length script.mapping) → x.regions ≡ map (λ d. opened d.strategy d.capacity script.timeout) script.mapping → x.results ≡ record { capacity = script.results; kept = [] } → 0 < script.results →
    AreStanding script lines told [] x
parts_begin l v script lines told x b t w r s g u c = record {
  rows = t ∙ told_same script lines told;
  plain = record {
    changes = λ n. ap (λ z. changes_in z n) w;
    bridged = bridged_begins;
    registry = subst (λ z. IsRegistry z []) (sym r) registry_begins;
    stamps = record {
      stands = subst (λ z. IsStamps script.timeout z []) (sym s) (l.stamps_begin script.timeout (length script.mapping));
      tables = ap length s ∙ length-replicate (length script.mapping) None;
    };
    results = record {
      stands = subst (λ z. IsResults (length script.queries) z []) (sym u) (l.results_begin (length script.queries) script.results c);
      capacity = ap (λ z. z.capacity) u;
    };
    live = λ n. refl;
  };
  regions = λ n. subst (λ z. IsPlaced script n [] (region_of z n)) (sym g)
      (subst (λ z. IsPlaced script n [] z) (sym (region_in script.timeout script.mapping n)) (placed_begins v script lines n (strategy script n) b refl));
  entities = ap length g ∙ length-map script.mapping (λ d. opened d.strategy d.capacity script.timeout);
}

fresh_at : (ds : List BulkDef) (i : ℕ) (p : LineProgress) → slice_get (map fresh ds) i ≡ Some p → p ≡ record { steps = 0; failed = Rattle.std.proofs.Common.false }
fresh_at [] i p q = absurd (none-some p q)
fresh_at (d ∷ ds) zero p q = sym (same_Some (fresh d) p q)
fresh_at (d ∷ ds) (suc i) p q = fresh_at ds i p q

pub lines_begin : (script : Script) (lines : List BulkDef) → AreLines script lines [] (map fresh lines)
lines_begin script lines = record {
  all = length-map lines fresh;
  stand = λ i d p e q. subst (λ (z : LineProgress). IsLine script [] (length script.sessions + i) d z.steps z.failed) (sym (fresh_at lines i p q)) (record { steps = refl; failed = refl; begun = refl; deferred = refl });
}

pub sessions_begin : (script : Script) (xs : List Session) → Plainly.AreSessions script [] xs → AreSessions script [] xs
sessions_begin script xs w = record { all = w.all; numbers = w.numbers; follow = λ s y p. w.follow s y p refl }

pub factory_begins : (script : Script) (lines : List BulkDef) (from : Origin) (f : FactoryState) → AreBuilt script lines → past f.journal ≡ [] → AreStanding script lines from.tables [] f.parts →
    IfSome f.parts.store.tables (λ t. in_order t ≡ true) → from.faults ≤ f.parts.store.faults → f.parts.store.entities ≡ length script.mapping → AreSessions script [] f.sessions → f.progress ≡ map fresh lines →
    IsStanding script lines from f
factory_begins script lines from f b e s o r n y p = record {
  run = rw e (record {
    legal = tt;
    standing = s;
    ordered = subst (λ t. IfSome t (λ t. in_order t ≡ true)) (s.rows ∙ sym (told_same script lines from.tables)) o;
    faults = omega (arith, r);
    entities = n;
    built = b;
  });
  sessions = rw e y;
  progress = rw e (subst (λ z. AreLines script lines [] z) (sym p) (lines_begin script lines));
}
