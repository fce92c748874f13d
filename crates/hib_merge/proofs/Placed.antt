-- The list of each session, with one entry more.
use Rattle.std.proofs.Common.{◌≡◌, ◌≢◌, ◌<◌, ◌==◌, ◌+◌, ℕ, inl, inr, Bool, true, false, cond, List, [], ◌∷◌, ◌++◌, set, length, get_or, take, slice_get, Some, refl, sym, ap, ◌∙◌, subst, append-nil, eq-eqb, arith}
use Rattle.std.proofs.lemmas.Bool.{true≢false, eqb-true}
use Rattle.std.specs.Option.{option_map}
use Rattle.std.proofs.lemmas.List.{take_more, get_or-set_same, get_or-set_other}
use Rattle.std.proofs.lemmas.Option.{slice_get-map, slice_get_read, slice_get_within, get_or_from_slice_get}
use Rattle.hib_base.proofs.Tables.{Tested, tested}
use Rattle.hib_journal.specs.Types.{Entry}
use Rattle.hib_journal.specs.Sessions.{own, is_by, is_session}
use Rattle.hib_journal.specs.Kept.{Kept}
use Rattle.hib_split_law.specs.Merged.{list_of}
use Rattle.hib_merge.specs.Tearing.{lists_of, list_at, PartAt}

pub own_push : (s : ℕ) (l : List Entry) (e : Entry) → own s (l ++ e ∷ []) ≡ own s l ++ cond (is_by s e) (e ∷ []) []
own_push s [] e = refl
own_push s (x ∷ l) e = by (is_by s x) (own_push s l e)
  where
    by : (b : Bool) → own s (l ++ e ∷ []) ≡ own s l ++ cond (is_by s e) (e ∷ []) [] →
        cond b (x ∷ own s (l ++ e ∷ [])) (own s (l ++ e ∷ [])) ≡ cond b (x ∷ own s l) (own s l) ++ cond (is_by s e) (e ∷ []) []
    by true i = ap (λ z. x ∷ z) i
    by false i = i

-- the list at a place
pub list_is : (kept : List Kept) (s : ℕ) (j : Kept) → s < length kept → j ≡ get_or kept s j → list_at s kept ≡ j.list
list_is kept s j there read = get_or_from_slice_get (lists_of kept) s j.list []
    (slice_get-map entries kept s ∙ ap (option_map entries) (slice_get_read kept (length kept) s j refl there read))
  where
    entries : Kept → List Entry
    entries k = k.list

pub entries_are : (lists : List (List Entry)) (s : ℕ) (l : List Entry) → s < length lists → l ≡ get_or lists s l → list_of s lists ≡ l
entries_are lists s l there read = get_or_from_slice_get lists s l [] (slice_get_read lists (length lists) s l refl there read)

-- the entry comes to the list of its session alone
pub placed : (lists : List (List Entry)) (at : ℕ) (old new : List Entry) (e : Entry) → at < length lists → old ≡ get_or lists at old → new ≡ old ++ e ∷ [] →
    (s : ℕ) → list_of s (set lists at new) ≡ list_of s lists ++ cond (at == s) (e ∷ []) []
placed lists at old new e there read grown s = by (tested (at == s))
  where
    by : Tested (at == s) → list_of s (set lists at new) ≡ list_of s lists ++ cond (at == s) (e ∷ []) []
    by (inl p) = subst (λ n. list_of n (set lists at new) ≡ list_of n lists ++ cond (at == s) (e ∷ []) []) (eqb-true at s p)
        (get_or-set_same lists at new [] there ∙ (grown ∙ (ap (λ z. z ++ e ∷ []) (sym (entries_are lists at old there read)) ∙ ap (λ b. list_of at lists ++ cond b (e ∷ []) []) (sym p))))
    by (inr p) = get_or-set_other lists at s new [] (λ x. true≢false (sym (eq-eqb at s (sym x)) ∙ p))
        ∙ (sym (append-nil (list_of s lists)) ∙ ap (λ b. list_of s lists ++ cond b (e ∷ []) []) (sym p))

-- by the session of the entry
pub by_session : (s at : ℕ) (e : Entry) (old new : List Entry) → e.session ≡ Some at → new ≡ old ++ cond (at == s) (e ∷ []) [] → new ≡ old ++ cond (is_by s e) (e ∷ []) []
by_session s at e old new q p = p ∙ ap (λ o. old ++ cond (is_session s o) (e ∷ []) []) (sym q)

-- the first entries and the next one
pub take_next : (xs : List Entry) (i : ℕ) (e : Entry) → i < length xs → e ≡ get_or xs i e → take (i + 1) xs ≡ take i xs ++ e ∷ []
take_next xs i e there read = take_more xs i e there ∙ ap (λ x. take i xs ++ x ∷ []) (sym read)

-- one entry more of the whole list
pub own_more : (s : ℕ) (l : List Entry) (e : Entry) (old new : List Entry) → old ≡ own s l → new ≡ old ++ cond (is_by s e) (e ∷ []) [] → new ≡ own s (l ++ e ∷ [])
own_more s l e old new i g = g ∙ (ap (λ z. z ++ cond (is_by s e) (e ∷ []) []) i ∙ sym (own_push s l e))

-- one entry more that two lists have in common
pub same_next : (xs ys : List Entry) (i : ℕ) (x y : Entry) → take i xs ≡ take i ys → i < length xs → x ≡ get_or xs i x → slice_get ys i ≡ Some y → x ≡ y → take (i + 1) xs ≡ take (i + 1) ys
same_next xs ys i x y same there read at equal =
    take_next xs i x there read ∙ ((λ t. same t ++ equal t ∷ []) ∙ sym (take_next ys i y (slice_get_within ys i y at) (sym (get_or_from_slice_get ys i y y at))))

ends_first : (xs ys : List Entry) → length xs < length ys → slice_get xs (length xs) ≢ slice_get ys (length xs)
ends_first [] [] l q = absurd (omega (arith, l))
ends_first [] (y ∷ ys) l q = cc
ends_first (x ∷ xs) [] l q = absurd (omega (arith, l))
ends_first (x ∷ xs) (y ∷ ys) l q = ends_first xs ys (omega (arith, l)) q

pub part_shorter : (xs ys : List Entry) (i : ℕ) → i ≡ length xs → take i xs ≡ take i ys → length xs < length ys → PartAt xs ys (length xs)
part_shorter xs ys i all same l = record {
  same = subst (λ n. take n xs ≡ take n ys) all same;
  other = ends_first xs ys l;
}
