-- Results that stand for a journal: each query has the result that the journal tells.
use Rattle.std.specs.Prelude.{◌≡◌, ℕ, ◌+◌, ◌<◌, ◌≤◌, ◌⊎◌, Bool, false, if◌then◌else◌, ◌||◌, nat_eq, List, [], ◌∷◌, length, Some, None, Option}
use Rattle.std.specs.Option.{option_map_or}
use Rattle.hib_journal.specs.Types.{Act, Reply}
use Rattle.hib_journal.specs.Sessions.{Journal}
use Rattle.hib_journal.specs.Stamps.{names}
use Rattle.hib_journal.specs.Results.{Result, others, last_kept}
use Rattle.hib_query_cache.specs.Ranked.{Kept, Ranked, result_of, used, with_result}

-- how many results are before that of q
abbrev pub place : ℕ → List Kept → ℕ
place q [] = 0
place q (e ∷ es) = if nat_eq q e.0 then 0 else 1 + place q es

-- whether the result of p is before that of q
abbrev pub is_ahead : ℕ → ℕ → List Kept → Bool
is_ahead p q [] = false
is_ahead p q (e ∷ es) = if nat_eq q e.0 then false else nat_eq p e.0 || is_ahead p q es

abbrev pub AreDistinct : List Kept → Type 0
AreDistinct [] = Unit {0}
AreDistinct (e ∷ es) = (result_of e.0 es ≡ None) × AreDistinct es

-- results of queries below a number, by which others each query has after its last use, and what was kept of it last
pub record AreRanked (queries : ℕ) (r : Ranked) (others_of : ℕ → List ℕ) (last_of : ℕ → Option Result) : Type 0 where
  pub positive : 0 < r.capacity
  pub bounded : length r.kept ≤ r.capacity
  pub distinct : AreDistinct r.kept
  pub below : (q : ℕ) (x : Result) → result_of q r.kept ≡ Some x → q < queries
  pub last : (q : ℕ) (x : Result) → result_of q r.kept ≡ Some x → last_of q ≡ Some x
  pub count : (q : ℕ) (x : Result) → result_of q r.kept ≡ Some x → length (others_of q) ≡ place q r.kept
  pub ahead : (q : ℕ) (x : Result) → result_of q r.kept ≡ Some x → (p : ℕ) → names p (others_of q) ≡ is_ahead p q r.kept
  pub gone : (q : ℕ) → result_of q r.kept ≡ None → (last_of q ≡ None) ⊎ (r.capacity ≤ length (others_of q))

-- results of queries below a number that stand for a journal
abbrev pub IsResults : ℕ → Ranked → Journal → Type 0
IsResults queries r h = AreRanked queries r (λ q. others q h) (λ q. last_kept q h)

-- what an act with this reply leaves
abbrev pub results_after : Act → Reply → Ranked → Ranked
results_after (Act.Keep q t l) reply r = record r { kept = with_result q (t, l) r }
results_after (Act.Look q) reply r = record r { kept = used q r.kept }
results_after Act.Restart reply r = record r { kept = [] }
results_after _ reply r = r

-- the reply to a look is that of the results, and what is kept is of a query below the number
abbrev pub IsAnswered : ℕ → Ranked → Act → Reply → Type 0
IsAnswered queries r (Act.Look q) reply = reply ≡ option_map_or (λ x. Reply.Found x.0 x.1) (result_of q r.kept) Reply.Absent
IsAnswered queries r (Act.Keep q t l) reply = q < queries
IsAnswered queries r _ reply = Unit {0}
