-- What is due in sessions and lines, and what a step of one leaves of it in the others.
use Rattle.std.specs.Prelude.{option_map, option_and_then, slice_get}
use Rattle.std.specs.Option.{option_or}
use Rattle.std.proofs.Common.{◌≡◌, ◌≢◌, ℕ, ◌+◌, ◌-◌, ◌≤◌, ◌<◌, ◌==◌, true, false, nat_lt, List, [], ◌∷◌, length, is_some, Result, Ok, Err, Some, None, Option, refl, sym, ap, ◌∙◌, arith, eq-eqb, le-ltb}
use Rattle.std.proofs.lemmas.Option.{slice_get_past}
use Rattle.std.specs.declared.alloc.AllocError.{AllocError}
use Rattle.hib_journal.specs.Types.{Act, Order, Script}
use Rattle.hib_journal.specs.Sessions.{own}
use Rattle.hib_journal.specs.Next as Next
use Rattle.hib_engines.specs.declared.stepped.Stepped.{Stepped}
use Rattle.hib_playing.specs.Playing.{GoesOn, Leads, played}
use Rattle.hib_playing.proofs.Playing.{all_played, goes_one, goes_same}
use Rattle.hib_bulk.specs.Types.{BulkDef, BulkAct, BulkEntry}
use Rattle.hib_bulk_law.specs.Plain.{Bulked, plain}
use Rattle.hib_bulk_law.specs.Rows.{line}
use Rattle.hib_bulk_law.specs.Acts.{next, next_of_line, after_sweep, acts_of, steps_of}
use Rattle.hib_bulk_law.proofs.Entries.{no_next}
use Rattle.hib_bulk.specs.Played.{has_next, is_by, is_played, number_count, play_script}
use Rattle.hib_bulk.specs.Steps.{Adds}
use Rattle.hib_bulk.proofs.Stepped.{done_not}

steps_rest : (e : BulkEntry) (h : Bulked) (n : ℕ) → (e.session == n) ≡ false → steps_of n (e ∷ h) ≡ steps_of n h
steps_rest e h n p = rw p refl

-- whether anything is due doesn't hang on which act it is
some_due : (f g : Act → BulkAct) (o : Option Act) (p q : Option BulkAct) → is_some p ≡ is_some q → is_some (option_or (option_map f o) p) ≡ is_some (option_or (option_map g o) q)
some_due f g None p q e = e
some_due f g (Some a) p q e = refl

-- a step that was Done adds none
pub rests : (r : Result Stepped AllocError) (h new : Bulked) → r ≡ Ok Stepped.Done → (r ≢ Ok Stepped.Did → new ≡ h) → new ≡ h
rests r h new e f = f (λ i. done_not (sym e ∙ i))

module _ (script : Script) (lines : List BulkDef) where
  pub due_in : (s : ℕ) (h new : Bulked) → Adds script lines s h new → has_next script lines h s ≡ true
  due_in s h new v = ap is_some v.due

  pub added_by : (s : ℕ) (h new : Bulked) (v : Adds script lines s h new) → is_by s v.entry ≡ true
  added_by s h new v = eq-eqb v.entry.session s v.by

  pub not_due : (s : ℕ) (h : Bulked) → next script lines h s ≡ None → has_next script lines h s ≡ false
  not_due s h p = ap is_some p

  line_same : (s n : ℕ) (h new : Bulked) → Adds script lines s h new → (s == n) ≡ false → is_some (next_of_line script lines new n) ≡ is_some (next_of_line script lines h n)
  line_same s n h new v q = ap (λ m. is_some (option_and_then (λ d. slice_get (acts_of script n d) m) (line script lines n)))
      (ap (steps_of n) v.grown ∙ steps_rest v.entry h n (ap (λ i. i == n) v.by ∙ q))

  stays : (s n : ℕ) (h new : Bulked) → Adds script lines s h new → (s == n) ≡ false → has_next script lines new n ≡ has_next script lines h n
  stays s n h new v q =
      ap (λ m. is_some (option_or (option_map (after_sweep script new) (Next.next script n m)) (next_of_line script lines new n))) (v.others n q)
      ∙ some_due (after_sweep script new) (after_sweep script h) (Next.next script n (own n (plain h))) (next_of_line script lines new n) (next_of_line script lines h n) (line_same s n h new v q)

  pub stay_more : (s : ℕ) (old mid new : Bulked) → Adds script lines s mid new → ((n : ℕ) → (s == n) ≡ false → has_next script lines mid n ≡ has_next script lines old n) →
      (n : ℕ) → (s == n) ≡ false → has_next script lines new n ≡ has_next script lines old n
  stay_more s old mid new v f n q = stays s n mid new v q ∙ f n q

  -- nothing is due in a number that nobody has
  pub unknown : (s : ℕ) (h : Bulked) → number_count script lines ≤ s → has_next script lines h s ≡ false
  unknown s h l = ap (λ o. is_some (option_or (option_map (after_sweep script h) o) (next_of_line script lines h s))) (no_next script s (own s (plain h)) late)
      ∙ ap (λ o. is_some (option_and_then (λ d. slice_get (acts_of script s d) (steps_of s h)) o)) no_line
    where
      late : nat_lt s (length script.sessions) ≡ false
      late = le-ltb s (length script.sessions) (omega (arith, l))

      no_line : line script lines s ≡ None
      no_line = rw late (slice_get_past lines (s - length script.sessions) (omega (arith, l)))

  -- a step adds one entry or none
  pub step_goes : (s : ℕ) (r : Result Stepped AllocError) (h new : Bulked) → (r ≡ Ok Stepped.Did → Adds script lines s h new) → (r ≢ Ok Stepped.Did → new ≡ h) → GoesOn h new
  step_goes s (Ok Stepped.Did) h new f g = let v = f refl in goes_one h new v.entry v.grown
  step_goes s (Ok Stepped.Done) h new f g = goes_same h new (g (λ p. cc))
  step_goes s (Err e) h new f g = goes_same h new (g (λ p. cc))

pub all_of_it : (script : Script) (lines : List BulkDef) (orders : List Order) (h : Bulked) → Leads (play_script script lines orders) played [] h → is_played script lines orders h ≡ true
unfolding is_played
all_of_it script lines orders h w = all_played (play_script script lines orders) h w
