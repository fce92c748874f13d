-- Numbers stay as they are when more texts get some.
use Rattle.std.proofs.Common.{◌≡◌, ◌<◌, ◌+◌, ℕ, zero, suc, List, [], ◌∷◌, ◌++◌, length, get_or, take, map, Some, None, sym, ap, ◌∙◌, subst, arith}
use Rattle.std.specs.Prelude.{Option}
use Rattle.std.specs.List.{All, AllZip}
use Rattle.std.proofs.lemmas.Option.{slice_get_within}
use Rattle.std.proofs.lemmas.List.{take_more, map-append}
use Rattle.hib_trace_lines.specs.Events.{EventText, RowText}
use Rattle.hib_trace_numbers.specs.Texts.{texts, IsApart, IsNamed}
use Rattle.hib_trace_calls.specs.Rows.{row_told, table_told, value_told}
use Rattle.std.specs.Option.{option_map}
use Rattle.hib_trace_calls.specs.Numbers.{IsNamedIf, IsMade, IsCall, AreApart, Grows, AllGrow, IsBelow}
use Rattle.hib_trace_calls.specs.declared.calls.Call.{Call}
use Rattle.hib_trace_calls.specs.declared.calls.Made.{Made}
use Rattle.hib_trace_calls.specs.declared.calls.Texts.{Texts}

pub grows_none : (ts : List (List ℕ)) → Grows ts ts
grows_none ts = record { keeps = λ n t h. h; apart = λ p. p }

pub grows_on : (a b c : List (List ℕ)) → Grows a b → Grows b c → Grows a c
grows_on a b c g h = record { keeps = λ n t k. h.keeps n t (g.keeps n t k); apart = λ p. h.apart (g.apart p) }

pub all_grow_none : (t : Texts) → AllGrow t t
all_grow_none t = record { tables = grows_none (texts t.tables); sessions = grows_none (texts t.sessions); keys = grows_none (texts t.keys); transactions = grows_none (texts t.transactions); rows = grows_none (texts t.rows) }

pub all_grow_on : (a b c : Texts) → AllGrow a b → AllGrow b c → AllGrow a c
all_grow_on a b c g h = record {
  tables = grows_on (texts a.tables) (texts b.tables) (texts c.tables) g.tables h.tables;
  sessions = grows_on (texts a.sessions) (texts b.sessions) (texts c.sessions) g.sessions h.sessions;
  keys = grows_on (texts a.keys) (texts b.keys) (texts c.keys) g.keys h.keys;
  transactions = grows_on (texts a.transactions) (texts b.transactions) (texts c.transactions) g.transactions h.transactions;
  rows = grows_on (texts a.rows) (texts b.rows) (texts c.rows) g.rows h.rows;
}

none_named : (n : ℕ) (t : List ℕ) → IsNamed [] n t → ⊥
none_named zero t p = cc
none_named (suc n) t p = cc

-- ---- pairs of lists

pub zip_map : {A B : Type 0} (R S : A → B → Type 0) → ((x : A) (y : B) → R x y → S x y) → (xs : List A) (ys : List B) → AllZip R xs ys → AllZip S xs ys
zip_map R S f [] [] p = p
zip_map R S f [] (w ∷ ys) p = absurd p
zip_map R S f (v ∷ xs) [] p = absurd p
zip_map R S f (v ∷ xs) (w ∷ ys) p = (f v w p.0, zip_map R S f xs ys p.1)

pub zip_push : {A B : Type 0} (R : A → B → Type 0) (xs : List A) (ys : List B) (x : A) (y : B) → AllZip R xs ys → R x y → AllZip R (xs ++ x ∷ []) (ys ++ y ∷ [])
zip_push R [] [] x y p r = (r, tt)
zip_push R [] (w ∷ ys) x y p r = absurd p
zip_push R (v ∷ xs) [] x y p r = absurd p
zip_push R (v ∷ xs) (w ∷ ys) x y p r = (p.0, zip_push R xs ys x y p.1 r)

-- ---- what stands for a text still does

pub if_kept : (a b : List (List ℕ)) (n : Option ℕ) (t : Option (List ℕ)) → Grows a b → IsNamedIf a n t → IsNamedIf b n t
if_kept a b None None g i = tt
if_kept a b None (Some t) g i = i
if_kept a b (Some n) None g i = i
if_kept a b (Some n) (Some t) g i = g.keeps n t i

pub made_kept : (t u : Texts) (w : RowText) (m : Made) → AllGrow t u → IsMade t w m → IsMade u w m
made_kept t u w m g i = record {
  key = g.keys.keeps m.key w.key i.key;
  table = g.tables.keeps m.table _ i.table;
  row = g.rows.keeps m.row _ i.row;
  version = i.version;
}

pub all_made_kept : (t u : Texts) (ws : List RowText) (ms : List Made) → AllGrow t u → AllZip (IsMade t) ws ms → AllZip (IsMade u) ws ms
all_made_kept t u ws ms g = zip_map (IsMade t) (IsMade u) (λ w m. made_kept t u w m g) ws ms

pub each_kept : (a b : List (List ℕ)) (xs : List (List ℕ)) (ns : List ℕ) → Grows a b → AllZip (λ x n. IsNamed a n x) xs ns → AllZip (λ x n. IsNamed b n x) xs ns
each_kept a b xs ns g = zip_map (λ x n. IsNamed a n x) (λ x n. IsNamed b n x) (λ x n. g.keeps n x) xs ns

pub call_kept : (t u : Texts) (e : EventText) (c : Call) → AllGrow t u → IsCall t e c → IsCall u e c
call_kept t u e c g i = record {
  operation = i.operation;
  session = if_kept (texts t.sessions) (texts u.sessions) c.session e.session g.sessions i.session;
  transaction = if_kept (texts t.transactions) (texts u.transactions) c.transaction e.transaction g.transactions i.transaction;
  key = if_kept (texts t.keys) (texts u.keys) c.key e.key g.keys i.key;
  row = g.rows.keeps c.row (row_told e) i.row;
  version = i.version;
  base = if_kept (texts t.rows) (texts u.rows) c.base (option_map value_told e.base) g.rows i.base;
  outcome = i.outcome;
  table = if_kept (texts t.tables) (texts u.tables) c.table (option_map table_told e.key) g.tables i.table;
  made = all_made_kept t u e.writes c.made.items g i.made;
  tables = each_kept (texts t.tables) (texts u.tables) e.tables c.tables.items g.tables i.tables;
  begin = i.begin;
  end = i.end;
}

pub calls_kept : (t u : Texts) (es : List EventText) (cs : List Call) → AllGrow t u → AllZip (IsCall t) es cs → AllZip (IsCall u) es cs
calls_kept t u es cs g = zip_map (IsCall t) (IsCall u) (λ e c. call_kept t u e c g) es cs

-- ---- numbers are below the count of the texts

named_below : (ts : List (List ℕ)) (n : Option ℕ) (t : Option (List ℕ)) → IsNamedIf ts n t → IsBelow (length ts) n
named_below ts None t i = tt
named_below ts (Some n) None i = absurd i
named_below ts (Some n) (Some t) i = slice_get_within ts n t i

pub zip_all : {A B : Type 0} (R : A → B → Type 0) (P : B → Type 0) → ((x : A) (y : B) → R x y → P y) → (xs : List A) (ys : List B) → AllZip R xs ys → All P ys
zip_all R P f xs [] p k d l = absurd (omega (arith, l))
zip_all R P f [] (w ∷ ys) p k d l = absurd p
zip_all R P f (v ∷ xs) (w ∷ ys) p zero d l = f v w p.0
zip_all R P f (v ∷ xs) (w ∷ ys) p (suc k) d l = zip_all R P f xs ys p.1 k d (omega (arith, l))

pub keys_below : (t : Texts) (es : List EventText) (cs : List Call) → AllZip (IsCall t) es cs → All (λ c. IsBelow (length (texts t.keys)) c.key) cs
keys_below t es cs =
    zip_all (IsCall t) (λ c. IsBelow (length (texts t.keys)) c.key) (λ e c i. named_below (texts t.keys) c.key e.key i.key) es cs

pub transactions_below : (t : Texts) (es : List EventText) (cs : List Call) → AllZip (IsCall t) es cs →
    All (λ c. IsBelow (length (texts t.transactions)) c.transaction) cs
transactions_below t es cs =
    zip_all (IsCall t) (λ c. IsBelow (length (texts t.transactions)) c.transaction)
    (λ e c i. named_below (texts t.transactions) c.transaction e.transaction i.transaction) es cs

pub sessions_below : (t : Texts) (es : List EventText) (cs : List Call) → AllZip (IsCall t) es cs →
    All (λ c. IsBelow (length (texts t.sessions)) c.session) cs
sessions_below t es cs =
    zip_all (IsCall t) (λ c. IsBelow (length (texts t.sessions)) c.session)
    (λ e c i. named_below (texts t.sessions) c.session e.session i.session) es cs

pub tables_below : (t : Texts) (es : List EventText) (cs : List Call) → AllZip (IsCall t) es cs →
    All (λ c. IsBelow (length (texts t.tables)) c.table) cs
tables_below t es cs =
    zip_all (IsCall t) (λ c. IsBelow (length (texts t.tables)) c.table)
    (λ e c i. named_below (texts t.tables) c.table (option_map table_told e.key) i.table) es cs

pub lists_below : (t : Texts) (es : List EventText) (cs : List Call) → AllZip (IsCall t) es cs →
    All (λ c. All (λ n. n < length (texts t.tables)) c.tables.items) cs
lists_below t es cs =
    zip_all (IsCall t) (λ c. All (λ n. n < length (texts t.tables)) c.tables.items)
    (λ e c i. zip_all (λ x n. IsNamed (texts t.tables) n x) (λ n. n < length (texts t.tables)) (λ x n h. slice_get_within (texts t.tables) n x h)
    e.tables c.tables.items i.tables) es cs

-- ---- one more pair

pub zip_step : {A B : Type 0} (R : A → B → Type 0) (xs : List A) (ys zs : List B) (i : ℕ) (x : A) (y : B) → i < length xs → x ≡ get_or xs i x →
    AllZip R (take i xs) ys → R x y → zs ≡ ys ++ y ∷ [] → AllZip R (take (i + 1) xs) zs
zip_step R xs ys zs i x y l e p r f =
    subst (λ us. AllZip R us zs) (sym (take_more xs i x l ∙ ap (λ u. take i xs ++ u ∷ []) (sym e)))
    (subst (AllZip R (take i xs ++ x ∷ [])) (sym f) (zip_push R (take i xs) ys x y p r))

pub zip_map_step : {A B C : Type 0} (g : A → B) (R : B → C → Type 0) (xs : List A) (ys zs : List C) (i : ℕ) (x : A) (y : C) → i < length xs →
    x ≡ get_or xs i x → AllZip R (map g (take i xs)) ys → R (g x) y → zs ≡ ys ++ y ∷ [] → AllZip R (map g (take (i + 1) xs)) zs
zip_map_step g R xs ys zs i x y l e p r f =
    subst (λ us. AllZip R us zs)
    (sym (ap (map g) (take_more xs i x l ∙ ap (λ u. take i xs ++ u ∷ []) (sym e)) ∙ map-append g (take i xs) (x ∷ [])))
    (subst (AllZip R (map g (take i xs) ++ g x ∷ [])) (sym f) (zip_push R (map g (take i xs)) ys (g x) y p r))

pub none_apart : (ts : List (List ℕ)) → ts ≡ [] → IsApart ts
none_apart ts e = subst IsApart (sym e) (λ m n t p q. absurd (none_named n t q))

pub apart_on : (t u : Texts) → AllGrow t u → AreApart t → AreApart u
apart_on t u g a = record {
  tables = g.tables.apart a.tables;
  sessions = g.sessions.apart a.sessions;
  keys = g.keys.apart a.keys;
  transactions = g.transactions.apart a.transactions;
  rows = g.rows.apart a.rows;
}
