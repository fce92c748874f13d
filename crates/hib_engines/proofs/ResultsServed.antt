-- What the results answer is due, and afterwards they stand for the list with the entry.
use Rattle.std.specs.Prelude.{unwrap_or}
use Rattle.std.specs.Option.{option_map_or}
use Rattle.std.proofs.Common.{◌≡◌, ℕ, ◌<◌, false, List, [], ◌∷◌, length, None, Option, refl, sym, ap, ◌∙◌, subst}
use Rattle.std.proofs.lemmas.Bool.{true≢false}
use Rattle.hib_journal.specs.Types.{Cell, Part, Script, Act, Reply}
use Rattle.hib_journal.specs.Sessions.{Journal, is_restart}
use Rattle.hib_journal.specs.Lists.{entry_at}
use Rattle.hib_journal.specs.Results.{dropped}
use Rattle.hib_journal.specs.Results as Kept
use Rattle.hib_query_cache.specs.Ranked.{Ranked, result_of, used, with_result, dropped_for}
use Rattle.hib_query_cache.specs.Standing.{IsResults, results_after, IsAnswered}
use Rattle.hib_engines.specs.Laws.{Laws}
use Rattle.hib_engines.specs.Served.{is_for, IsServed}
use Rattle.hib_engines.specs.Results.{AreResults}

results_capacity : (a : Act) (r : Reply) (x : Ranked) → (results_after a r x).capacity ≡ x.capacity
results_capacity (Act.Keep q t l) r x = refl
results_capacity (Act.Look q) r x = refl
results_capacity Act.Restart r x = refl
results_capacity _ r x = refl

follows : Laws → (script : Script) (l : Journal) (by : Option ℕ) (now : ℕ) (a : Act) (r : Reply) (x y : Ranked) → AreResults script l x → IsAnswered (length script.queries) x a r →
    y ≡ results_after a r x → AreResults script (entry_at now by a r ∷ l) y
follows w script l by now a r x y k v q = record {
  stands = subst (λ z. IsResults (length script.queries) z (entry_at now by a r ∷ l)) (sym q) (w.results_follow (length script.queries) x l (entry_at now by a r) k.stands v);
  capacity = ap (λ z. z.capacity) q ∙ (results_capacity a r x ∙ k.capacity);
}

pub look_served : Laws → (script : Script) (l : Journal) (by : Option ℕ) (now q : ℕ) (r : Reply) (x y : Ranked) → AreResults script l x →
    r ≡ option_map_or (λ r. Reply.Found r.0 r.1) (result_of q x.kept) Reply.Absent → y ≡ record x { kept = used q x.kept } → IsServed (λ m. AreResults script m y) script l by now (Act.Look q) r
look_served w script l by now q r x y k p e = record {
  reply = λ start. p ∙ (ap (λ (o : Option Kept.Result). option_map_or (λ r. Reply.Found r.0 r.1) o Reply.Absent) (w.results_answer (length script.queries) x l k.stands q) ∙ ap (λ c. option_map_or (λ r. Reply.Found r.0 r.1) (Kept.result c q l) Reply.Absent) k.capacity);
  stands = follows w script l by now (Act.Look q) r x y k p e;
}

pub keep_served : Laws → (script : Script) (l : Journal) (by : Option ℕ) (now q t : ℕ) (cells : List Cell) (r : Reply) (x y : Ranked) → AreResults script l x → q < length script.queries →
    r ≡ Reply.Kept (dropped_for q x) → y ≡ record x { kept = with_result q (t, cells) x } → IsServed (λ m. AreResults script m y) script l by now (Act.Keep q t cells) r
keep_served w script l by now q t cells r x y k n p e = record {
  reply = λ start. p ∙ (ap (λ d. Reply.Kept d) (w.results_drop (length script.queries) x l k.stands q) ∙ ap (λ c. Reply.Kept (dropped c (length script.queries) q l)) k.capacity);
  stands = follows w script l by now (Act.Keep q t cells) r x y k n e;
}

unasked : (n : ℕ) (x : Ranked) (a : Act) (s : ℕ) (r : Reply) → is_for Part.Results a s ≡ false → IsAnswered n x a r
unasked n x (Act.Look q) s r p = absurd (true≢false p)
unasked n x (Act.Keep q t l) s r p = absurd (true≢false p)
unasked n x _ s r p = tt

untouched : (a : Act) (s : ℕ) (r : Reply) (x : Ranked) → is_for Part.Results a s ≡ false → is_restart a ≡ false → results_after a r x ≡ x
untouched (Act.Look q) s r x p e = absurd (true≢false p)
untouched (Act.Keep q t l) s r x p e = absurd (true≢false p)
untouched Act.Restart s r x p e = absurd (true≢false e)
untouched _ s r x p e = refl

-- an entry of another part, but for a restart, leaves them
pub results_stay : Laws → (script : Script) (l : Journal) (by : Option ℕ) (now : ℕ) (a : Act) (r : Reply) (x : Ranked) → AreResults script l x → is_for Part.Results a (unwrap_or by 0) ≡ false →
    is_restart a ≡ false → AreResults script (entry_at now by a r ∷ l) x
results_stay w script l by now a r x k p q = follows w script l by now a r x x k (unasked (length script.queries) x a (unwrap_or by 0) r p) (sym (untouched a (unwrap_or by 0) r x p q))

pub restart_results : Laws → (script : Script) (l : Journal) (now : ℕ) (x y : Ranked) → AreResults script l x → y ≡ record x { kept = [] } → AreResults script (entry_at now None Act.Restart Reply.Done ∷ l) y
restart_results w script l now x y k q = follows w script l None now Act.Restart Reply.Done x y k tt q
