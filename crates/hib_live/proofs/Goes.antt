-- A live factory goes on to be one as the script of what was asked grows.
use Rattle.std.proofs.Common.{◌≡◌, ◌<◌, ◌^◌, ◌⊎◌, inl, inr, ℕ, suc, true, false, List, [], ◌∷◌, ◌++◌, length, slice_get, Some, Option, Result, Ok, Err, OnOk, OnErr, refl, sym, ap, subst, ◌∙◌, arith}
use Rattle.std.specs.declared.alloc.AllocError.{AllocError}
use Rattle.std.specs.List.{list_all}
use Rattle.std.proofs.lemmas.Option.{slice_get_past}
use Rattle.hib_base.specs.Tables.{Tables}
use Rattle.hib_base.specs.Scripts.{is_declared, is_known}
use Rattle.hib_base.specs.Valid.{is_valid}
use Rattle.hib_base.proofs.Valid.{Rules, rules}
use Rattle.hib_journal.specs.Types.{Key, Row, EntityDef, Query, Statement, SessionDef, Order, Script}
use Rattle.hib_journal.specs.Kept.{Kept, past}
use Rattle.hib_journal.specs.Legal.{IsLegal}
use Rattle.hib_journal.specs.Sessions.{Journal}
use Rattle.hib_live_law.specs.Grown.{HasGrown, IsUnused}
use Rattle.hib_live_law.proofs.Beyond.{unused}
use Rattle.hib_live_law.proofs.Acts.{with_rest}
use Rattle.hib_live_law.proofs.Legal.{is_with, legal}
use Rattle.hib_session.specs.declared.session.Session.{Session}
use Rattle.hib_session.specs.Session.{Follows, number_of, is_killed}
use Rattle.hib_session.specs.Sessions.{AreSessions}
use Rattle.hib_session.proofs.Grows.{are_grown, are_more}
use Rattle.hib_engines.specs.declared.region.Region.{Region}
use Rattle.hib_engines.specs.Region.{IsPlaced}
use Rattle.hib_engines.specs.Regions.{region_of}
use Rattle.hib_engines.specs.Built.{IsSound, IsBuilt}
use Rattle.hib_engines.specs.Due.{HasQueries}
use Rattle.hib_engines.specs.Engines.{EnginesState, AreStanding}
use Rattle.hib_core.specs.Standing.{Origin}
use Rattle.hib_core.specs.Factory.{Lawful, CoreState, IsRun, IsStanding}
use Rattle.hib_live.specs.Asked.{with_session, with_statement}
use Rattle.hib_live.specs.Live.{LiveState, IsLive}
use Rattle.hib_live.proofs.Longer.{grown_same, grown_then, grown_session, grown_statement, one_more, as_many, asked_before, asked_more, asks_known}

-- ---- the engines stand for a script that differs in its rows, its sessions and its schedule
module _ (s : Script) (rows : List (Key × Row)) (ds : List SessionDef) (os : List Order) where
  abbrev t : Script
  t = with_rest s rows ds os

  placed_same : (n : ℕ) (h : Journal) (x : Region) → IsPlaced s n h x → IsPlaced t n h x
  placed_same n h Region.Uncached p = p
  placed_same n h (Region.ReadOnly x) p = record { strategy = p.strategy; capacity = p.capacity; stands = p.stands }
  placed_same n h (Region.Nonstrict x) p = record { strategy = p.strategy; capacity = p.capacity; stands = p.stands }
  placed_same n h (Region.ReadWrite x) p = record { strategy = p.strategy; capacity = p.capacity; timeout = p.timeout; stands = p.stands }

  standing_same : (told : Option Tables) (h : Journal) (x : EnginesState) → AreStanding s told h x → AreStanding t told h x
  standing_same told h x a = record {
    store = a.store;
    bridged = a.bridged;
    registry = a.registry;
    stamps = record { stands = a.stamps.stands; tables = a.stamps.tables };
    regions = λ n. placed_same n h (region_of x.regions n) (a.regions n);
    entities = a.entities;
    results = record { stands = a.results.stands; capacity = a.results.capacity };
  }

  sound_same : (o : Order) → IsSound s o → IsSound t o
  sound_same (Order.Evict k) p = p
  sound_same _ p = tt

standing_grown : (s t : Script) → HasGrown s t → (told : Option Tables) (h : Journal) (x : EnginesState) → AreStanding s told h x → AreStanding t told h x
standing_grown s t g told h x a = subst (λ (y : Script). AreStanding y told h x) (is_with s t g) (standing_same s t.rows t.sessions t.schedule told h x a)

declared_grown : (s t : Script) → HasGrown s t → list_all (λ (q : Query). is_declared s q) s.queries ≡ true → list_all (λ (q : Query). is_declared t q) t.queries ≡ true
declared_grown s t g p = subst (λ (y : Script). list_all (λ (q : Query). is_declared y q) y.queries ≡ true) (is_with s t g) p

-- what a run needs of its script: the queries that are asked are there, and not too many sessions
built_grown : (s t : Script) → HasGrown s t → t.schedule ≡ s.schedule → length t.sessions < 2 ^ 32 → HasQueries t → IsBuilt s → IsBuilt t
built_grown s t g o l q b = record {
  entities = subst (λ (es : List EntityDef). length es < 2 ^ 16) g.mapping b.entities;
  sessions = l;
  orders = λ i d e. subst (λ (y : Script). IsSound y d) (is_with s t g) (sound_same s t.rows t.sessions t.schedule d (b.orders i d (subst (λ (ds : List Order). slice_get ds i ≡ Some d) o e)));
  results = subst (λ n. 0 < n) g.results b.results;
  queries = q;
}

run_grown : Lawful → (s t : Script) → HasGrown s t → (from : Origin) (h : Journal) (x : EnginesState) → IsBuilt t → IsRun s from h x → IsRun t from h x
run_grown w s t g from h x b r =
    let l : IsLegal t from.tables h = legal s t g from.tables h r.legal in
    record {
      legal = l;
      law = w t from.tables h l;
      numbered = r.numbered;
      engines = standing_grown s t g from.tables h x r.engines;
      entities = r.entities ∙ ap (λ (es : List EntityDef). length es) g.mapping;
      faults = r.faults;
      built = b;
    }

-- ---- a live factory

abbrev pub live : Script → Kept → EnginesState → List Session → LiveState
live s j x xs = record { script = s; journal = j; engines = x; sessions = xs }

live_grown : Lawful → (opened : Script) (from : Origin) (s t : Script) (j : Kept) (x : EnginesState) (xs ys : List Session) → HasGrown s t → t.rows ≡ s.rows → t.schedule ≡ s.schedule →
    length t.sessions < 2 ^ 32 → HasQueries t → AreSessions t (past j) ys → IsLive opened from (live s j x xs) → IsLive opened from (live t j x ys)
live_grown w opened from s t j x xs ys g r o n q a l = record {
  grown = grown_then opened s t l.grown g;
  rows = r ∙ l.rows;
  schedule = o ∙ l.schedule;
  declared = declared_grown s t g l.declared;
  run = run_grown w s t g from (past j) x (built_grown s t g o n q l.run.built) l.run;
  sessions = a;
}

-- once a session has begun
pub begun : Lawful → (opened : Script) (from : Origin) (s t : Script) (j : Kept) (x : EnginesState) (xs ys : List Session) (name : List ℕ) (y : Session) → suc (length xs) < 2 ^ 32 →
    t ≡ with_session s name → ys ≡ xs ++ y ∷ [] → number_of y ≡ length xs → is_killed y ≡ false → ((script : Script) → Follows script y []) →
    IsLive opened from (live s j x xs) → IsLive opened from (live t j x ys)
begun w opened from s t j x xs ys name y few e f n k z l =
    let u : Script = with_session s name in
    let g : HasGrown s u = grown_session s name in
    let more : length u.sessions ≡ suc (length s.sessions) = one_more s name in
    let none : IsUnused (length s.sessions) (past j) = unused s from.tables (length s.sessions) (past j) (slice_get_past s.sessions (length s.sessions) (omega arith)) l.run.legal in
    let all : length xs ≡ length s.sessions = l.sessions.all in
    let a : AreSessions u (past j) (xs ++ y ∷ []) = are_more s u g (omega (arith, more)) (past j) xs y none l.sessions (n ∙ all) k z in
    subst (λ (v : Script). IsLive opened from (live v j x ys)) (sym e)
    (subst (λ (vs : List Session). IsLive opened from (live u j x vs)) (sym f)
    (live_grown w opened from s u j x xs (xs ++ y ∷ []) g refl refl (omega (arith, more, all, few)) (λ m q p. l.run.built.queries m q (asked_before s.sessions name m q p)) a l))

-- once a statement was taken
pub taken : Lawful → (opened : Script) (from : Origin) (s t : Script) (j : Kept) (x : EnginesState) (xs : List Session) (n : ℕ) (st : Statement) → t ≡ with_statement s n st →
    is_known (length s.queries) st ≡ true → IsLive opened from (live s j x xs) → IsLive opened from (live t j x xs)
taken w opened from s t j x xs n st e k l =
    let u : Script = with_statement s n st in
    let g : HasGrown s u = grown_statement s n st in
    let same : length s.sessions ≡ length u.sessions = as_many s.sessions n st in
    subst (λ (v : Script). IsLive opened from (live v j x xs)) (sym e)
    (live_grown w opened from s u j x xs xs g refl refl (subst (λ m. m < 2 ^ 32) same l.run.built.sessions)
    (λ m q p. by_cases m q (asked_more s.sessions n st m q p)) (are_grown s u g same (past j) xs l.sessions) l)
  where
    by_cases : (m q : ℕ) → (Rattle.hib_live.proofs.Longer.asked s.sessions m q ≡ true) ⊎ (Rattle.hib_journal.specs.Due.asks q st ≡ true) → q < length s.queries
    by_cases m q (inl b) = l.run.built.queries m q b
    by_cases m q (inr b) = asks_known (length s.queries) q st k b

-- at the start
pub opened_live : (script : Script) (from : Origin) (x : CoreState) → is_valid script ≡ true → IsStanding script from x → IsLive script from (live script x.journal x.engines x.sessions)
opened_live script from x v l = record {
  grown = grown_same script;
  rows = refl;
  schedule = refl;
  declared = let r : Rules script = rules script v in r.declared;
  run = l.run;
  sessions = l.sessions;
}

-- or wasn't, and nothing has changed
pub taken_or : Lawful → (opened : Script) (from : Origin) (s t : Script) (j : Kept) (x : EnginesState) (xs : List Session) (n : ℕ) (st : Statement) (r : Result (Unit {0}) AllocError) →
    OnOk r (t ≡ with_statement s n st) → OnErr r (t ≡ s) → is_known (length s.queries) st ≡ true → IsLive opened from (live s j x xs) → IsLive opened from (live t j x xs)
taken_or w opened from s t j x xs n st (Ok u) e f k l = taken w opened from s t j x xs n st e k l
taken_or w opened from s t j x xs n st (Err u) e f k l = subst (λ (v : Script). IsLive opened from (live v j x xs)) (sym f) l
