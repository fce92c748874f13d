-- Loops over a journal from its oldest entry on: what they know is what the definitions say of the entries behind them.
use Rattle.std.specs.Option.{option_map_or}
use Rattle.std.proofs.Common.{◌≡◌, refl, ℕ, ◌+◌, ◌<◌, Bool, true, false, cond, ◌&&◌, ◌||◌, Some, None, Option, List, [], ◌∷◌, reverse, take, length, get_or, ◌∙◌, ap}
use Rattle.std.specs.List.{list_any, list_all}
use Rattle.std.proofs.Math.Bool.{or_comm, or-false}
use Rattle.std.proofs.lemmas.List.{take_more, reverse-append}
use Rattle.std.proofs.lemmas.List.Folds.{list_any-append}
use Rattle.hib_journal.specs.Types.{Key, Change, Act, Entry}
use Rattle.hib_journal.specs.Sessions.{Journal, is_by, own, changes_after, changes_in, changes, is_restart}
use Rattle.hib_journal.specs.Slot.{Touch, History, touch, history}
use Rattle.hib_journal.specs.Sound.{is_calm, leaves_calm}

-- one more entry stands at the head of the past
pub reverse_more : {X : Type 0} → (xs : List X) (i : ℕ) (d : X) → i < length xs → reverse (take (i + 1) xs) ≡ get_or xs i d ∷ reverse (take i xs)
reverse_more xs i d h = ap reverse (take_more xs i d h) ∙ reverse-append (take i xs) (get_or xs i d ∷ [])

abbrev calm_touched : (restarted : Bool) (o : Option Touch) (now : ℕ) (s : History) → Type 0
calm_touched restarted o now s = list_all (λ x. is_calm x.0) (cond restarted [] (option_map_or (λ t. (t, now) ∷ s) o s)) ≡ cond restarted true (leaves_calm o && list_all (λ t. is_calm t.0) s)

calm_by : (restarted : Bool) (o : Option Touch) (now : ℕ) (s : History) → calm_touched restarted o now s
calm_by true o now s = refl
calm_by false None now s = refl
calm_by false (Some t) now s = refl

-- a key is calm after one more entry
pub calm_more : (k : Key) (e : Entry) (h : Journal) → list_all (λ t. is_calm t.0) (history k (e ∷ h)) ≡ cond (is_restart e.act) true (leaves_calm (touch k e) && list_all (λ t. is_calm t.0) (history k h))
calm_more k e h = calm_by (is_restart e.act) (touch k e) e.tick (history k h)

-- what a session wrote, after one more entry of any session

abbrev pub wrote_by : (Change → Bool) → Act → Bool → Bool
wrote_by p Act.Begin b = false
wrote_by p (Act.Write c) b = p c || b
wrote_by p _ b = b

wrote_after : (p : Change → Bool) (a : Act) (cs : List Change) → list_any p (changes_after a cs) ≡ wrote_by p a (list_any p cs)
wrote_after p (Act.Write c) cs = list_any-append p cs (c ∷ []) ∙ or_comm (list_any p cs) (p c || false) ∙ ap (λ b. b || list_any p cs) (or-false (p c))
wrote_after p Act.Begin cs = refl
wrote_after p _ cs = refl

wrote_in : (p : Change → Bool) (mine : Bool) (e : Entry) (own : Journal) →
    list_any p (changes_in (cond mine (e ∷ own) own)) ≡ cond mine (wrote_by p e.act (list_any p (changes_in own))) (list_any p (changes_in own))
wrote_in p true e own = wrote_after p e.act (changes_in own)
wrote_in p false e own = refl

pub wrote_more : (p : Change → Bool) (s : ℕ) (e : Entry) (h : Journal) →
    list_any p (changes s (e ∷ h)) ≡ cond (is_by s e) (wrote_by p e.act (list_any p (changes s h))) (list_any p (changes s h))
wrote_more p s e h = wrote_in p (is_by s e) e (own s h)
