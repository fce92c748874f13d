-- What is known of a session, after one more entry.
use Rattle.std.proofs.Common.{◌≡◌, ℕ, ◌≤◌, ◌<◌, ◌+◌, inl, inr, Bool, true, false, cond, ◌||◌, ◌==◌, List, ◌∷◌, ◌++◌, codes, append_assoc, length, slice_get, get_or, set, Some, None, Option, refl, sym, ap, subst, ◌∙◌, arith, eq-eqb, length-set, get_or-set_same, get_or-set_other}
use Rattle.std.specs.Option.{option_map}
use Rattle.std.proofs.lemmas.Option.{slice_get_past, slice_get-get_or}
use Rattle.std.specs.Prelude.{nat_le, nat_lt}
use Rattle.std.proofs.Math.Bool.{or-false}
use Rattle.std.proofs.lemmas.Bool.{true≢false, eqb-true, ltb-true}
use Rattle.std.proofs.lemmas.Bool.Decides.{nat_tests}
use Rattle.hib_base.proofs.Tables.{Tested, tested}
use Rattle.hib_journal.specs.Types.{Outcome, Act, Reply, Entry, SessionDef}
use Rattle.hib_journal.specs.Sessions.{Journal, is_session, is_by, open_after, killed_by, is_open, was_killed, own}
use Rattle.hib_journal.specs.Legal.{outcome, outcome_after}
use Rattle.hib_report.specs.declared.fates.Fate.{Fate}
use Rattle.hib_report.specs.Report.{end_text, fate_text, fates_text}
use Rattle.hib_report.specs.Fates.{is_open_at, is_lost_at, own_noted, kill_noted, kills, restart_after, IsFated, IsFateOf}

-- an entry of its own or of another session, after a kill by name
abbrev pub noted : Bool → Bool → ℕ → ℕ → Act → Reply → Fate → Fate
noted mine kill restart place a r f = cond mine (own_noted restart place a r (cond kill (kill_noted f) f)) (cond kill (kill_noted f) f)

later : (n : ℕ) (f : Fate) → ((b : ℕ) → f.opened ≡ Some b → b < n) → (b : ℕ) → f.opened ≡ Some b → b < n + 1
later n f e b p = let l : b < n = e b p in omega arith

none_some : (b : ℕ) → ◌≡◌ {A = Option ℕ} None (Some b) → ⊥
none_some b e = absurd (cc)

not_lost : (restart n : ℕ) → restart ≤ n → nat_lt n restart ≡ false
not_lost restart n l = grind (arith, nat_tests)

is_open_now : (restart n : ℕ) → restart ≤ n → nat_le restart n ≡ true
is_open_now restart n l = grind (arith, nat_tests)

shut : (n b : ℕ) → b < n → nat_le (n + 1) b ≡ false
shut n b l = grind (arith, nat_tests)

lost : (n b : ℕ) → b < n → nat_lt b (n + 1) ≡ true
lost n b l = grind (arith, nat_tests)

or_else : (restart b : ℕ) (k : Bool) → (k || true) ≡ (nat_le restart b || (k || nat_lt b restart))
or_else restart b k = grind (arith, nat_tests)

module _ (restart n : ℕ) (f : Fate) (o k : Bool) (x : Outcome) (w : IsFated restart n f o k x) where
  -- an act of another session that neither kills it nor is a restart
  same : IsFated restart (n + 1) f o k x
  same = record {
    since = let s : restart ≤ n = w.since in omega arith;
    early = later n f w.early;
    open_now = w.open_now;
    killed_once = w.killed_once;
    last_outcome = w.last_outcome;
  }

  with_outcome : (y : Outcome) → IsFated restart (n + 1) (record f { outcome = y }) o k y
  with_outcome y = record { since = same.since; early = same.early; open_now = w.open_now; killed_once = w.killed_once; last_outcome = refl }

  begun : IsFated restart (n + 1) (record f { opened = Some n; killed = f.killed || is_lost_at restart f.opened }) true k x
  begun = record {
    since = same.since;
    early = λ b e. let p : n ≡ b = cc in omega arith;
    open_now = is_open_now restart n w.since;
    killed_once = ap (λ y. (f.killed || is_lost_at restart f.opened) || y) (not_lost restart n w.since) ∙ or-false (f.killed || is_lost_at restart f.opened) ∙ w.killed_once;
    last_outcome = w.last_outcome;
  }

  ended : IsFated restart (n + 1) (record f { opened = None; killed = f.killed || is_lost_at restart f.opened }) false k x
  ended = record {
    since = same.since;
    early = λ b e. absurd (none_some b e);
    open_now = refl;
    killed_once = or-false (f.killed || is_lost_at restart f.opened) ∙ w.killed_once;
    last_outcome = w.last_outcome;
  }

  gone : IsFated restart (n + 1) (kill_noted f) false true x
  gone = record { since = same.since; early = λ b e. absurd (none_some b e); open_now = refl; killed_once = refl; last_outcome = w.last_outcome }

restarted : (restart n : ℕ) (f : Fate) (o k : Bool) (x : Outcome) → IsFated restart n f o k x → IsFated (n + 1) (n + 1) f false (o || k) x
restarted restart n f o k x w = record {
  since = omega arith;
  early = later n f w.early;
  open_now = closed f.opened w.early;
  killed_once = killed f.opened w.early w.open_now w.killed_once;
  last_outcome = w.last_outcome;
}
  where
    closed : (p : Option ℕ) → ((b : ℕ) → p ≡ Some b → b < n) → is_open_at (n + 1) p ≡ false
    closed None e = refl
    closed (Some b) e = shut n b (e b refl)

    killed : (p : Option ℕ) → ((b : ℕ) → p ≡ Some b → b < n) → is_open_at restart p ≡ o → (f.killed || is_lost_at restart p) ≡ k → (f.killed || is_lost_at (n + 1) p) ≡ (o || k)
    killed None e q r = rw (← q) r
    killed (Some b) e q r = rw (← q, ← r, lost n b (e b refl)) (or_else restart b f.killed)

-- one entry more
pub fated_more : (s restart n : ℕ) (by : Option ℕ) (a : Act) (r : Reply) (f : Fate) (o k : Bool) (x : Outcome) → IsFated restart n f o k x →
    IsFated (restart_after (n + 1) a restart) (n + 1) (noted (is_session s by) (kills s a) restart n a r f) (open_after s by a o) (killed_by s a o || k)
    (cond (is_session s by) (outcome_after a r x) x)
fated_more s restart n by Act.Begin r f o k x w = by_session (is_session s by)
  where
    by_session : (mine : Bool) → IsFated restart (n + 1) (noted mine false restart n Act.Begin r f) (mine || o) k (cond mine x x)
    by_session true = begun restart n f o k x w
    by_session false = same restart n f o k x w
fated_more s restart n by Act.End r f o k x w = by_session (is_session s by)
  where
    by_session : (mine : Bool) → IsFated restart (n + 1) (noted mine false restart n Act.End r f) (cond mine false o) k (cond mine x x)
    by_session true = ended restart n f o k x w
    by_session false = same restart n f o k x w
fated_more s restart n by (Act.Kill m) r f o k x w = by_both (is_session s by) (m == s)
  where
    by_both : (mine kill : Bool) → IsFated restart (n + 1) (noted mine kill restart n (Act.Kill m) r f) (cond kill false o) (kill || k) (cond mine x x)
    by_both true true = gone restart n f o k x w
    by_both true false = same restart n f o k x w
    by_both false true = gone restart n f o k x w
    by_both false false = same restart n f o k x w
fated_more s restart n by Act.Restart r f o k x w = by_session (is_session s by)
  where
    by_session : (mine : Bool) → IsFated (n + 1) (n + 1) (noted mine false restart n Act.Restart r f) false (o || k) (cond mine x x)
    by_session true = restarted restart n f o k x w
    by_session false = restarted restart n f o k x w
fated_more s restart n by a r f o k x w = by_session (is_session s by)
  where
    by_session : (mine : Bool) → IsFated restart (n + 1) (noted mine false restart n a r f) o k (cond mine (outcome_after a r x) x)
    by_session true =
        subst (λ y. IsFated restart (n + 1) (record f { outcome = outcome_after a r f.outcome }) o k y) (ap (outcome_after a r) w.last_outcome)
        (with_outcome restart n f o k x w (outcome_after a r f.outcome))
    by_session false = same restart n f o k x w

own_outcome : (mine : Bool) (e : Entry) (m : Journal) → outcome (cond mine (e ∷ m) m) ≡ cond mine (outcome_after e.act e.reply (outcome m)) (outcome m)
own_outcome true e m = refl
own_outcome false e m = refl

pub fate_more : (s restart n : ℕ) (f : Fate) (e : Entry) (h : Journal) → IsFateOf restart n s f h →
    IsFateOf (restart_after (n + 1) e.act restart) (n + 1) s (noted (is_by s e) (kills s e.act) restart n e.act e.reply f) (e ∷ h)
fate_more s restart n f e h w =
    subst (λ x. IsFated (restart_after (n + 1) e.act restart) (n + 1) (noted (is_by s e) (kills s e.act) restart n e.act e.reply f) (is_open s (e ∷ h)) (was_killed s (e ∷ h)) x)
    (sym (own_outcome (is_by s e) e (own s h)))
    (fated_more s restart n e.session e.act e.reply f (is_open s h) (was_killed s h) (outcome (own s h)) w)

-- one of the sessions changes

other_one : (o : Option Fate) (g : Fate → Fate) (b : Bool) → b ≡ false → o ≡ option_map (λ f. cond b (g f) f) o
other_one None g b e = refl
other_one (Some f) g b e = rw e refl

this_one : (xs : List Fate) (n s : ℕ) (g : Fate → Fate) (v d : Fate) → n < length xs → v ≡ g (get_or xs n d) → (n == s) ≡ true →
    slice_get (set xs n v) s ≡ option_map (λ f. cond (n == s) (g f) f) (slice_get xs s)
this_one xs n s g v d l e p =
    let q : n ≡ s = eqb-true n s p in
    let m : n < length (set xs n v) = rw length-set l in
    let a : slice_get (set xs n v) n ≡ Some v = slice_get-get_or (set xs n v) n d m ∙ ap (λ (f : Fate). Some f) (get_or-set_same xs n v d l) in
    let b : slice_get xs n ≡ Some (get_or xs n d) = slice_get-get_or xs n d l in
    subst (λ i. slice_get (set xs n v) i ≡ option_map (λ f. cond (n == s) (g f) f) (slice_get xs i)) q (rw (b, p) (a ∙ ap (λ (f : Fate). Some f) e))

apart : (xs : List Fate) (n s : ℕ) (v : Fate) → (n == s) ≡ false → Tested (nat_lt s (length xs)) → slice_get (set xs n v) s ≡ slice_get xs s
apart xs n s v p (inl l) =
    let m : s < length xs = ltb-true s (length xs) l in
    let k : s < length (set xs n v) = rw length-set m in
    slice_get-get_or (set xs n v) s v k ∙ (ap (λ (f : Fate). Some f) (get_or-set_other xs n s v v (λ e. true≢false (sym (eq-eqb n s (sym e)) ∙ p))) ∙ sym (slice_get-get_or xs s v m))
apart xs n s v p (inr l) =
    let m : length xs ≤ s = grind (arith, nat_tests) in
    let k : length (set xs n v) ≤ s = rw length-set m in
    slice_get_past (set xs n v) s k ∙ sym (slice_get_past xs s m)

pub set_one : (xs : List Fate) (n : ℕ) (g : Fate → Fate) (v d : Fate) → n < length xs → v ≡ g (get_or xs n d) → (s : ℕ) →
    slice_get (set xs n v) s ≡ option_map (λ f. cond (n == s) (g f) f) (slice_get xs s)
set_one xs n g v d l e s = by (tested (n == s))
  where
    by : Tested (n == s) → slice_get (set xs n v) s ≡ option_map (λ f. cond (n == s) (g f) f) (slice_get xs s)
    by (inl p) = this_one xs n s g v d l e p
    by (inr p) = apart xs n s v p (tested (nat_lt s (length xs))) ∙ other_one (slice_get xs s) g (n == s) p

-- one that isn't there does not
pub set_none : (xs : List Fate) (n : ℕ) (g : Fate → Fate) → length xs ≤ n → (s : ℕ) → slice_get xs s ≡ option_map (λ f. cond (n == s) (g f) f) (slice_get xs s)
set_none xs n g l s = by (tested (n == s))
  where
    by : Tested (n == s) → slice_get xs s ≡ option_map (λ f. cond (n == s) (g f) f) (slice_get xs s)
    by (inl p) = let q : length xs ≤ s = subst (λ i. length xs ≤ i) (eqb-true n s p) l in rw (slice_get_past xs s q) refl
    by (inr p) = other_one (slice_get xs s) g (n == s) p

-- what is known of a session at a place of the list, after a kill by name and an entry of its own
pub fates_more : (s restart n : ℕ) (e : Entry) (h : Journal) (old killed new : Option Fate) → killed ≡ option_map (λ f. cond (kills s e.act) (kill_noted f) f) old →
    new ≡ option_map (λ f. cond (is_by s e) (own_noted restart n e.act e.reply f) f) killed → ((f : Fate) → old ≡ Some f → IsFateOf restart n s f h) →
    (f : Fate) → new ≡ Some f → IsFateOf (restart_after (n + 1) e.act restart) (n + 1) s f (e ∷ h)
fates_more s restart n e h None killed new p q w f x =
    let a : new ≡ None = rw p at q in
    absurd (cc)
fates_more s restart n e h (Some g) killed new p q w f x =
    let a : new ≡ Some (noted (is_by s e) (kills s e.act) restart n e.act e.reply g) = rw p at q in
    let b : noted (is_by s e) (kills s e.act) restart n e.act e.reply g ≡ f = cc in
    subst (λ y. IsFateOf (restart_after (n + 1) e.act restart) (n + 1) s y (e ∷ h)) b (fate_more s restart n g e h (w g refl))

-- the line of one session more
pub fates_step : (past : Journal) (i : ℕ) (d : SessionDef) (ds : List SessionDef) (killed : Bool) (last : Outcome) (whole out new : List ℕ) →
    killed ≡ was_killed i past → last ≡ outcome (own i past) → new ≡ out ++ (d.name ++ codes " " ++ end_text killed last ++ codes "\n") →
    whole ≡ out ++ fates_text past i (d ∷ ds) → whole ≡ new ++ fates_text past (i + 1) ds
fates_step past i d ds killed last whole out new p q n w =
    let line : List ℕ = d.name ++ codes " " ++ end_text killed last ++ codes "\n" in
    let due : List ℕ = d.name ++ codes " " ++ fate_text i past ++ codes "\n" in
    let rest : List ℕ = fates_text past (i + 1) ds in
    let t : line ≡ due = ap (λ (b : Bool). d.name ++ codes " " ++ end_text b last ++ codes "\n") p
    ∙ ap (λ (x : Outcome). d.name ++ codes " " ++ end_text (was_killed i past) x ++ codes "\n") q in
    let a : (out ++ due) ++ rest ≡ out ++ (due ++ rest) = append_assoc out due rest in
    w ∙ (sym a ∙ ap (λ (xs : List ℕ). xs ++ rest) (ap (λ (xs : List ℕ). out ++ xs) (sym t) ∙ sym n))
