-- What the script of what was asked has grown from, and which queries its sessions ask.
use Rattle.std.proofs.Common.{◌≡◌, ◌<◌, ◌+◌, ◌⊎◌, inl, inr, ℕ, zero, suc, Bool, true, false, ◌||◌, List, [], ◌∷◌, ◌++◌, length, slice_get, refl, sym, ap, subst, ◌∙◌, arith}
use Rattle.std.specs.List.{list_any}
use Rattle.std.specs.Option.{option_map_or}
use Rattle.std.proofs.lemmas.Bool.{ltb-true, eqb-true, false≢true}
use Rattle.std.proofs.lemmas.List.{append-nil, append_assoc, length-append}
use Rattle.std.proofs.lemmas.List.Folds.{list_any-append}
use Rattle.hib_base.specs.Scripts.{is_known}
use Rattle.hib_journal.specs.Types.{Statement, SessionDef, Script}
use Rattle.hib_journal.specs.Due.{asks}
use Rattle.hib_live_law.specs.Grown.{AreLonger, HasGrown}
use Rattle.hib_live.specs.Asked.{with_session, add_at, with_statement}

-- ---- longer sessions

longer_same : (ds : List SessionDef) → AreLonger ds ds
longer_same [] = tt
longer_same (d ∷ ds) = (record { more = []; statements = sym (append-nil d.statements) }, longer_same ds)

longer_more : (ds es : List SessionDef) → AreLonger ds (ds ++ es)
longer_more [] es = tt
longer_more (d ∷ ds) es = (record { more = []; statements = sym (append-nil d.statements) }, longer_more ds es)

longer_at : (ds : List SessionDef) (n : ℕ) (st : Statement) → AreLonger ds (add_at ds n st)
longer_at [] n st = tt
longer_at (d ∷ ds) zero st = (record { more = st ∷ []; statements = refl }, longer_same ds)
longer_at (d ∷ ds) (suc n) st = (record { more = []; statements = sym (append-nil d.statements) }, longer_at ds n st)

longer_then : (ds es fs : List SessionDef) → AreLonger ds es → AreLonger es fs → AreLonger ds fs
longer_then [] es fs l m = tt
longer_then (d ∷ ds) [] fs l m = absurd l
longer_then (d ∷ ds) (e ∷ es) [] l m = absurd m
longer_then (d ∷ ds) (e ∷ es) (f ∷ fs) l m = (
  record {
    more = l.0.more ++ m.0.more;
    statements = m.0.statements ∙ (ap (λ (sts : List Statement). sts ++ m.0.more) l.0.statements ∙ append_assoc d.statements l.0.more m.0.more);
  },
  longer_then ds es fs l.1 m.1,
)

pub grown_same : (s : Script) → HasGrown s s
grown_same s = record { timeout = refl; results = refl; mapping = refl; queries = refl; sessions = longer_same s.sessions }

pub grown_then : (r s t : Script) → HasGrown r s → HasGrown s t → HasGrown r t
grown_then r s t f g = record {
  timeout = f.timeout ∙ g.timeout;
  results = f.results ∙ g.results;
  mapping = f.mapping ∙ g.mapping;
  queries = f.queries ∙ g.queries;
  sessions = longer_then r.sessions s.sessions t.sessions f.sessions g.sessions;
}

pub grown_session : (s : Script) (name : List ℕ) → HasGrown s (with_session s name)
grown_session s name = record { timeout = refl; results = refl; mapping = refl; queries = refl; sessions = longer_more s.sessions (record { name = name; statements = [] } ∷ []) }

pub grown_statement : (s : Script) (n : ℕ) (st : Statement) → HasGrown s (with_statement s n st)
grown_statement s n st = record { timeout = refl; results = refl; mapping = refl; queries = refl; sessions = longer_at s.sessions n st }

-- ---- how many there are

pub one_more : (s : Script) (name : List ℕ) → length (with_session s name).sessions ≡ suc (length s.sessions)
one_more s name = let e : length (s.sessions ++ record { name = name; statements = [] } ∷ []) ≡ length s.sessions + 1 = length-append s.sessions (record { name = name; statements = [] } ∷ []) in omega (arith, e)

pub as_many : (ds : List SessionDef) (n : ℕ) (st : Statement) → length ds ≡ length (add_at ds n st)
as_many [] n st = refl
as_many (d ∷ ds) zero st = refl
as_many (d ∷ ds) (suc n) st = ap suc (as_many ds n st)

-- ---- what sessions ask

-- whether session n of some asks query q
abbrev pub asked : List SessionDef → ℕ → ℕ → Bool
asked ds n q = list_any (λ st. asks q st) (option_map_or (λ (d : SessionDef). d.statements) (slice_get ds n) [])

-- a session without statements asks nothing
pub asked_before : (ds : List SessionDef) (name : List ℕ) (n q : ℕ) → asked (ds ++ record { name = name; statements = [] } ∷ []) n q ≡ true → asked ds n q ≡ true
asked_before [] name zero q p = p
asked_before [] name (suc n) q p = p
asked_before (d ∷ ds) name zero q p = p
asked_before (d ∷ ds) name (suc n) q p = asked_before ds name n q p

either : (a b : Bool) → (a || b) ≡ true → (a ≡ true) ⊎ (b ≡ true)
either true b p = inl refl
either false b p = inr p

alone : (b : Bool) → (b || false) ≡ true → b ≡ true
alone true p = refl
alone false p = p

asked_last : (sts : List Statement) (st : Statement) (q : ℕ) → list_any (λ u. asks q u) (sts ++ st ∷ []) ≡ true → (list_any (λ u. asks q u) sts ≡ true) ⊎ (asks q st ≡ true)
asked_last sts st q p =
    elim (either (list_any (λ u. asks q u) sts) (list_any (λ u. asks q u) (st ∷ [])) (sym (list_any-append (λ u. asks q u) sts (st ∷ [])) ∙ p)) [
      | inl a ↦ inl a
      | inr b ↦ inr (alone (asks q st) b)
    ]

-- what a session asks once one has a statement more, it asked before, or the statement asks it
pub asked_more : (ds : List SessionDef) (n : ℕ) (st : Statement) (m q : ℕ) → asked (add_at ds n st) m q ≡ true → (asked ds m q ≡ true) ⊎ (asks q st ≡ true)
asked_more [] n st m q p = inl p
asked_more (d ∷ ds) zero st zero q p = asked_last d.statements st q p
asked_more (d ∷ ds) zero st (suc m) q p = inl p
asked_more (d ∷ ds) (suc n) st zero q p = inl p
asked_more (d ∷ ds) (suc n) st (suc m) q p = asked_more ds n st m q p

pub asks_known : (count q : ℕ) (st : Statement) → is_known count st ≡ true → asks q st ≡ true → q < count
asks_known count q (Statement.List r) p a = subst (λ m. m < count) (eqb-true r q a) (ltb-true r count p)
asks_known count q _ p a = absurd (false≢true a)
