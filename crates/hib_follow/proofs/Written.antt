-- What a session has written, with one change more.
use Rattle.std.specs.Prelude.{slice_get, option_and_then}
use Rattle.std.specs.Map.{lookup}
use Rattle.std.specs.Option.{option_map_or, option_or}
use Rattle.std.proofs.Common.{◌≡◌, ℕ, Bool, true, false, cond, List, [], ◌∷◌, ◌++◌, Some, None, Option, refl, sym, ap, ◌∙◌}
use Rattle.hib_base.specs.Keys.{same_key}
use Rattle.hib_base.specs.Tables.{key_of, last_on}
use Rattle.hib_journal.specs.Types.{Key, Change, Act, Entry}
use Rattle.hib_journal.specs.Held.{is_begin}
use Rattle.hib_journal.specs.Sessions.{changes_after}
use Rattle.hib_follow.specs.Desks.{change_in, change_from, last_at}

or_three : (c d f : Option Change) → option_or (option_or c d) f ≡ option_or c (option_or d f)
or_three None d f = refl
or_three (Some c) d f = refl

last_append : (k : Key) (cs : List Change) (c : Change) → last_on k (cs ++ c ∷ []) ≡ option_or (cond (same_key (key_of c) k) (Some c) None) (last_on k cs)
last_append k [] c = by (cond (same_key (key_of c) k) (Some c) None)
  where
    by : (o : Option Change) → option_or None o ≡ option_or o None
    by None = refl
    by (Some d) = refl
last_append k (d ∷ cs) c =
    ap (λ o. option_or o (cond (same_key (key_of d) k) (Some d) None)) (last_append k cs c)
    ∙ or_three (cond (same_key (key_of c) k) (Some c) None) (last_on k cs) (cond (same_key (key_of d) k) (Some d) None)

last_if : (es : List Entry) (b : Bool) (n : ℕ) (c : Change) (o : Option ℕ) (l : Option Change) → change_from es n ≡ Some c → option_and_then (change_from es) o ≡ l →
    option_and_then (change_from es) (cond b (Some n) o) ≡ option_or (cond b (Some c) None) l
last_if es true n c o l p q = p
last_if es false n c o l p q = q

-- the last change of a key, after an act
pub last_more : (es : List Entry) (n : ℕ) (e : Entry) (k : Key) (old new : List (Key × ℕ)) (cs : List Change) → slice_get es n ≡ Some e →
    lookup (same_key k) new ≡ cond (is_begin e.act) None (cond (option_map_or (λ c. same_key (key_of c) k) (change_in e.act) false) (Some n) (lookup (same_key k) old)) →
    last_at es old k ≡ last_on k cs → last_at es new k ≡ last_on k (changes_after e.act cs)
last_more es n e k old new cs at p q = ap (option_and_then (change_from es)) p ∙ by e.act refl
  where
    here : (a : Act) → e.act ≡ a → change_from es n ≡ change_in a
    here a f = ap (option_and_then (λ (d : Entry). change_in d.act)) at ∙ ap change_in f

    by : (a : Act) → e.act ≡ a → option_and_then (change_from es)
        (cond (is_begin e.act) None (cond (option_map_or (λ c. same_key (key_of c) k) (change_in e.act) false) (Some n) (lookup (same_key k) old)))
        ≡ last_on k (changes_after e.act cs)
    by Act.Begin f = rw f refl
    by (Act.Write c) f =
        rw f (last_if es (same_key (key_of c) k) n c (lookup (same_key k) old) (last_on k cs) (here (Act.Write c) f) q ∙ sym (last_append k cs c))
    by _ f = rw f q
