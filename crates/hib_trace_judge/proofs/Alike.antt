-- What is told of filed writes is told of the writes.
use Rattle.std.proofs.Common.{◌≡◌, ◌<◌, ℕ, zero, suc, Bool, List, [], ◌∷◌, length, get_or, refl, sym, ap, ◌∙◌, subst, arith}
use Rattle.std.specs.Prelude.{Option, Some, None, Vec}
use Rattle.std.specs.List.{All, AllZip}
use Rattle.std.specs.declared.alloc.Global.{Global}
use Rattle.hib_trace_law.specs.declared.commits.Commit.{Commit}
use Rattle.hib_traces.specs.Places.{ArePlaces}
use Rattle.hib_traces.specs.declared.order.Order.{Order}
use Rattle.hib_traces.specs.declared.places.Place.{Place}
use Rattle.hib_trace_lines.specs.declared.events.Operation.{Operation}
use Rattle.hib_trace_findings.specs.Judged.{lives_of}
use Rattle.hib_trace_findings.specs.declared.kinds.Judgement.{Judgement}
use Rattle.hib_trace_calls.specs.Ends.{IsTable, looked}
use Rattle.hib_trace_calls.specs.Numbers.{IsBelow}
use Rattle.hib_trace_calls.specs.Writes.{row_write_if}
use Rattle.hib_trace_calls.specs.declared.calls.Call.{Call}
use Rattle.hib_trace_calls.specs.declared.calls.Fate.{Fate}
use Rattle.hib_trace_calls.specs.declared.calls.Write.{Write}
use Rattle.hib_trace_calls.proofs.Tables.{looked_is}
use Rattle.hib_trace_filed.specs.Keys.{commit_of, commits_of, table_commits, undone_writes}
use Rattle.hib_trace_filed.specs.Orders.{AreLives, AreOrders}
use Rattle.hib_trace_filed.specs.Own.{own_written, has_own}
use Rattle.hib_trace_filed.specs.declared.filed.Filed.{Filed}
use Rattle.hib_trace_filed.specs.declared.limits.Limits.{Limits}
use Rattle.hib_trace_lists.specs.Loads.{TellLoads}
use Rattle.hib_trace_lists.specs.declared.lists.Lists.{Lists}
use Rattle.hib_trace_judge.specs.Found.{AreReady, IsHitFoundIn, IsKeyFound, IsListFound, IsOperationFound, IsWriteFound, IsWriteFoundIn}
use Rattle.hib_trace_judge.specs.Hits.{answer_of, IsHitFound, IsHitJudged, IsKeyJudged}
use Rattle.hib_trace_judge.specs.Lines.{IsListLineJudged, IsOperationJudged}
use Rattle.hib_trace_judge.specs.Updates.{IsUpdateJudged, IsWriteJudged, IsWriteToldAs}

some_of : {X : Type 0} (xs : List X) (k : ℕ) → k < length xs → X
some_of [] k l = absurd (omega (arith, l))
some_of (x ∷ xs) k l = x

zip_count : {A B : Type 0} (R : A → B → Type 0) (xs : List A) (ys : List B) → AllZip R xs ys → length ys ≡ length xs
zip_count R [] [] p = refl
zip_count R [] (w ∷ ys) p = absurd p
zip_count R (v ∷ xs) [] p = absurd p
zip_count R (v ∷ xs) (w ∷ ys) p = ap suc (zip_count R xs ys p.1)

zip_at : {A B : Type 0} (R : A → B → Type 0) (xs : List A) (ys : List B) (k : ℕ) (d : A) (e : B) → AllZip R xs ys → k < length ys →
    R (get_or xs k d) (get_or ys k e)
zip_at R xs [] k d e p l = absurd (omega (arith, l))
zip_at R [] (w ∷ ys) k d e p l = absurd p
zip_at R (v ∷ xs) (w ∷ ys) zero d e p l = p.0
zip_at R (v ∷ xs) (w ∷ ys) (suc k) d e p l = zip_at R xs ys k d e p.1 (omega (arith, l))

abbrev Lives : ℕ → Order → Vec Place Global → Type 0
Lives none o v = ArePlaces o.commits.items (lives_of none o.commits.items) v.items

-- the key of a write is that of its line
pub key_within : (n : ℕ) (f : Fate) (c : Call) (k t : Option ℕ) (w : Write) → IsBelow n k → row_write_if f c k t ≡ Some w → w.key < n
key_within n f c None None w l e = absurd cc
key_within n f c None (Some t) w l e = absurd cc
key_within n f c (Some k) None w l e = absurd cc
key_within n f c (Some k) (Some t) w l e = subst (λ (m : ℕ). m < n) (keys (row_write_if f c (Some k) (Some t)) e) l
  where
    key_in : Option Write → ℕ
    key_in None = k
    key_in (Some v) = v.key

    keys : (o : Option Write) → o ≡ Some w → key_in o ≡ w.key
    keys o p = ap key_in p

module _ (m : Limits) (none : ℕ) (cs : List Call) (ws : List Write) (count : ℕ) (f : Filed) (os : AreOrders (commits_of m ws) count f.commits.items)
    (ls : AreLives none f.commits.items f.lives.items) (us : AreOrders (undone_writes m ws) count f.undone.items)
    (own : (t : Option ℕ) (k r : ℕ) → has_own f.owns t k r ≡ own_written ws t k r) where
  lives_count : length f.lives.items ≡ count
  lives_count = zip_count (Lives none) f.commits.items f.lives.items ls ∙ os.count

  pub are_ready : AreReady count f
  are_ready = record {
    commits = os.count;
    lives = lives_count;
    undone = us.count;
    commits_stand = λ k d l. (os.each k d (omega (arith, l, os.count))).stands;
    lives_stand = λ k v l. (zip_at (Lives none) f.commits.items f.lives.items k (some_of f.commits.items k (omega (arith, l, os.count))) v ls
        (omega (arith, l, lives_count))).order;
    undone_stand = λ k d l. (us.each k d (omega (arith, l, us.count))).stands;
  }

  hit_told : (k : ℕ) (c : Call) (j : Judgement) → k < count → IsHitFoundIn none f k m c j → IsHitJudged m none ws k c j
  hit_told k c j l i =
      let p : k < length f.commits.items = omega (arith, l, os.count) in
      let q : k < length f.undone.items = omega (arith, l, us.count) in
      let r : k < length f.lives.items = omega (arith, l, lives_count) in
      let d : Order = some_of f.commits.items k p in
      let e : Order = some_of f.undone.items k q in
      let v : Vec Place Global = some_of f.lives.items k r in
      subst (λ (b : Bool). IsHitFound none (commits_of m ws k) (undone_writes m ws k) b (answer_of m c) j) (own c.transaction k c.row)
      (subst (λ (vs : List Commit). IsHitFound none (commits_of m ws k) vs (has_own f.owns c.transaction k c.row) (answer_of m c) j) (us.each k e q).same
      (subst (λ (vs : List Commit). IsHitFound none vs (get_or f.undone.items k e).commits.items (has_own f.owns c.transaction k c.row) (answer_of m c) j)
      (os.each k d p).same (i d e v (zip_at (Lives none) f.commits.items f.lives.items k d v ls r))))

  key_told : (k : Option ℕ) (c : Call) (j : Option Judgement) → IsBelow count k → IsKeyFound k none f m c j → IsKeyJudged m none ws k c j
  key_told None c None l i = tt
  key_told None c (Some j) l i = i
  key_told (Some k) c None l i = i
  key_told (Some k) c (Some j) l i = hit_told k c j l i

  written : (fate : Fate) (c : Call) (k t : Option ℕ) (j : Option Judgement) → IsBelow count k → IsWriteFound (row_write_if fate c k t) f m c.base j →
      IsWriteToldAs m ws (row_write_if fate c k t) c.base j
  written fate c None None j l i = i
  written fate c None (Some t) j l i = i
  written fate c (Some k) None j l i = i
  written fate c (Some k) (Some t) j l i =
      let p : k < length f.commits.items = omega (arith, l, os.count) in
      let d : Order = some_of f.commits.items k p in
      let w : Write = record {
        transaction = c.transaction;
        key = k;
        table = t;
        row = c.row;
        version = c.version;
        begin = c.begin;
        end = c.end;
        fate = fate;
      } in
      subst (λ (vs : List Commit). IsUpdateJudged vs (commit_of m w) c.base j) (os.each k d p).same (i d)

  write_told : (fates : List (Option Fate)) (c : Call) (j : Option Judgement) → IsTable cs fates → IsBelow (length fates) c.transaction → IsBelow count c.key →
      IsWriteFoundIn f fates m c j → IsWriteJudged m cs ws c j
  write_told fates c j t b l i =
      subst (λ (fate : Fate). IsWriteToldAs m ws (row_write_if fate c c.key c.table) c.base j) (looked_is cs fates c.transaction t b)
      (written (looked fates c.transaction) c c.key c.table j l i)

  list_told : (l : Lists) (k : Option ℕ) (c : Call) (j : Option Judgement) → TellLoads m.clock (table_commits m ws) cs l.loads.items → IsListFound k l m c j →
      IsListLineJudged m cs ws k c j
  list_told l None c None t i = tt
  list_told l None c (Some j) t i = i
  list_told l (Some k) c None t i = i
  list_told l (Some k) c (Some j) t i = i m.clock (table_commits m ws) cs t

  pub operation_told : (o : Operation) (x : Lists) (fates : List (Option Fate)) (c : Call) (j : Option Judgement) →
      TellLoads m.clock (table_commits m ws) cs x.loads.items → IsTable cs fates → IsBelow (length fates) c.transaction → IsBelow count c.key →
      IsOperationFound o none f x fates m c j → IsOperationJudged o m none cs ws c j
  operation_told Operation.Hit x fates c j y t b l i = key_told c.key c j l i
  operation_told Operation.ListHit x fates c j y t b l i = list_told x c.key c j y i
  operation_told Operation.Write x fates c j y t b l i = write_told fates c j t b l i
  operation_told _ x fates c j y t b l i = i

pub one_below : (count : ℕ) (cs : List Call) (of : Call → Option ℕ) (i : ℕ) (c : Call) → All (λ d. IsBelow count (of d)) cs → i < length cs →
    c ≡ get_or cs i c → IsBelow count (of c)
one_below count cs of i c p l e = subst (λ (u : Call). IsBelow count (of u)) (sym e) (p i c l)
