-- Stamps follow a journal.
use Rattle.std.proofs.Common.{◌≡◌, ℕ, ◌+◌, ◌<◌, inl, inr, Bool, false, cond, ◌||◌, ◌==◌, List, [], ◌∷◌, length, get_or, set, drop, nat_lt, slice_get, Some, None, Option, refl, ap, sym, ◌∙◌, subst}
use Rattle.std.proofs.lemmas.Bool.{eq-eqb, eqb-true, true≢false}
use Rattle.std.proofs.lemmas.Option.{slice_get-get_or, get_or_from_slice_get}
use Rattle.std.proofs.lemmas.List.{get_or-set_same, get_or-set_other, get_or-replicate, length-set, length-replicate, drop_more}
use Rattle.std.specs.List.{All}
use Rattle.std.proofs.lemmas.List.Elements.{All-head, All-tail}
use Rattle.hib_base.proofs.Tables.{Tested, tested}
use Rattle.hib_journal.specs.Types.{Act, Part, Entry, Checked}
use Rattle.hib_journal.specs.Sessions.{Journal, is_restart, same_part}
use Rattle.hib_journal.specs.Legal.{part_of}
use Rattle.hib_journal.specs.Stamps.{names, stamp, check, check_one}
use Rattle.hib_update_stamps.specs.Stamped.{Stamped, unstamped, stamped, checked, or_none}
use Rattle.hib_update_stamps.specs.Standing.{IsStamps, stamps_after}

length-stamped : (ts : List ℕ) (v : ℕ) (s : Stamped) → length (stamped ts v s) ≡ length s
length-stamped [] v s = refl
length-stamped (t ∷ ts) v s = length-stamped ts v (set s t (Some v)) ∙ length-set s t (Some v)

-- a table has the new stamp exactly if it is named
stamped_at : (ts : List ℕ) (v : ℕ) (s : Stamped) (t : ℕ) → t < length s → get_or (stamped ts v s) t None ≡ cond (names t ts) (Some v) (get_or s t None)
stamped_at [] v s t l = refl
stamped_at (n ∷ ts) v s t l =
    stamped_at ts v (set s n (Some v)) t (subst (λ m. t < m) (sym (length-set s n (Some v))) l) ∙ at (tested (n == t)) (tested (names t ts))
  where
    at : Tested (n == t) → Tested (names t ts)
        → cond (names t ts) (Some v) (get_or (set s n (Some v)) t None) ≡ cond ((n == t) || names t ts) (Some v) (get_or s t None)
    at (inl p) (inl q) = rw (p, q) refl
    at (inl p) (inr q) = rw (p, q) (subst (λ m. get_or (set s m (Some v)) t None ≡ Some v) (sym (eqb-true n t p)) (get_or-set_same s t (Some v) None l))
    at (inr p) (inl q) = rw (p, q) refl
    at (inr p) (inr q) = rw (p, q) (get_or-set_other s n t (Some v) None (λ e. true≢false (sym (eq-eqb n t (sym e)) ∙ p)))

-- the stamp at a place, read with a default
read : (timeout : ℕ) (s : Stamped) (h : Journal) → IsStamps timeout s h → (t : ℕ) → t < length s → get_or s t None ≡ stamp timeout t h
read timeout s h stands t l = get_or_from_slice_get s t (stamp timeout t h) None (stands.each t l)

by_read : (s : Stamped) (t : ℕ) (v : Option ℕ) → t < length s → get_or s t None ≡ v → slice_get s t ≡ Some v
by_read s t v l e = slice_get-get_or s t None l ∙ ap (λ x. Some x) e

pub none_at_first : (timeout tables : ℕ) → IsStamps timeout (unstamped tables) []
none_at_first timeout tables = record {
  each = λ t l. let w : t < tables = subst (λ m. t < m) (length-replicate tables None) l in by_read (unstamped tables) t None l (get_or-replicate tables t None None w);
}

-- stamps after an act that names some tables
stamped_then : (timeout v : ℕ) (ts : List ℕ) (s : Stamped) (h : Journal) → IsStamps timeout s h → (t : ℕ) → t < length (stamped ts v s)
    → slice_get (stamped ts v s) t ≡ Some (cond (names t ts) (Some v) (stamp timeout t h))
stamped_then timeout v ts s h stands t l =
    let w : t < length s = subst (λ m. t < m) (length-stamped ts v s) l in
    by_read (stamped ts v s) t (cond (names t ts) (Some v) (stamp timeout t h)) l
    (stamped_at ts v s t w ∙ ap (λ o. cond (names t ts) (Some v) o) (read timeout s h stands t w))

pub followed : (timeout : ℕ) (stamps : Stamped) (h : Journal) (e : Entry) → IsStamps timeout stamps h
    → IsStamps timeout (stamps_after timeout e.tick e.act stamps) (e ∷ h)
followed timeout stamps h e stands = by_act e.act refl
  where
    by_act : (a : Act) → e.act ≡ a → IsStamps timeout (stamps_after timeout e.tick a stamps) (e ∷ h)
    by_act (Act.Pre ts) q = record { each = λ t l. rw q (stamped_then timeout (e.tick + timeout) ts stamps h stands t l) }
    by_act (Act.Stamp ts) q = record { each = λ t l. rw q (stamped_then timeout e.tick ts stamps h stands t l) }
    by_act Act.Restart q = record { each = λ t l. rw q ((none_at_first timeout (length stamps)).each t l) }
    by_act _ q = record { each = λ t l. rw q (stands.each t l) }

pub left : (timeout : ℕ) (stamps : Stamped) (h : Journal) (e : Entry) (s : ℕ) → IsStamps timeout stamps h
    → same_part (part_of e.act s) Part.Stamps ≡ false → is_restart e.act ≡ false → IsStamps timeout stamps (e ∷ h)
left timeout stamps h e s stands other no_restart =
    subst (λ x. IsStamps timeout x (e ∷ h)) (same e.act other no_restart) (followed timeout stamps h e stands)
  where
    same : (a : Act) → same_part (part_of a s) Part.Stamps ≡ false → is_restart a ≡ false → stamps_after timeout e.tick a stamps ≡ stamps
    same (Act.Pre ts) o n = absurd (true≢false o)
    same (Act.Stamp ts) o n = absurd (true≢false o)
    same Act.Restart o n = absurd (true≢false n)
    same _ o n = refl

pub answered : (timeout : ℕ) (stamps : Stamped) (h : Journal) → IsStamps timeout stamps h → (time : ℕ) (tables : List ℕ)
    → All (λ t. t < length stamps) tables → checked time tables stamps ≡ check timeout time tables h
answered timeout stamps h stands time [] within = refl
answered timeout stamps h stands time (t ∷ ts) within =
    let e : slice_get stamps t ≡ Some (stamp timeout t h) = stands.each t (All-head (λ t. t < length stamps) t ts within) in
    let r : checked time ts stamps ≡ check timeout time ts h = answered timeout stamps h stands time ts (All-tail (λ t. t < length stamps) t ts within) in
    rw (e, r) refl

-- a check from a place on, by the table there and its stamp
checked_from : (time : ℕ) (ts : List ℕ) (s : Stamped) (i t : ℕ) (o : Option ℕ) → All (λ t. t < length s) ts → i < length ts → t ≡ get_or ts i t
    → o ≡ get_or s t o → checked time (drop i ts) s ≡ check_one time t o (checked time (drop (i + 1) ts) s)
checked_from time ts s i t o within l e r =
    let w : t < length s = subst (λ m. m < length s) (sym e) (within i t l) in
    ap (λ xs. checked time xs s) (drop_more ts i t l) ∙ ap (λ n. checked time (n ∷ drop (i + 1) ts) s) (sym e)
    ∙ ap (λ p. check_one time t (or_none p) (checked time (drop (i + 1) ts) s)) (slice_get-get_or s t o w ∙ ap (λ x. Some x) (sym r))

pub unstamped_here : (time : ℕ) (ts : List ℕ) (s : Stamped) (i t : ℕ) (o : Option ℕ) → All (λ t. t < length s) ts → i < length ts → t ≡ get_or ts i t
    → o ≡ get_or s t o → o ≡ None → checked time (drop i ts) s ≡ checked time (drop (i + 1) ts) s
unstamped_here time ts s i t o within l e r n =
    checked_from time ts s i t o within l e r ∙ ap (λ p. check_one time t p (checked time (drop (i + 1) ts) s)) n

pub stamped_here : (time : ℕ) (ts : List ℕ) (s : Stamped) (i t v : ℕ) (o : Option ℕ) → All (λ t. t < length s) ts → i < length ts → t ≡ get_or ts i t
    → o ≡ get_or s t o → o ≡ Some v → (b : Bool) → nat_lt v time ≡ b
    → checked time (drop i ts) s ≡ cond b (checked time (drop (i + 1) ts) s) (Checked.Stale t v)
stamped_here time ts s i t v o within l e r n b q =
    checked_from time ts s i t o within l e r ∙ ap (λ p. check_one time t p (checked time (drop (i + 1) ts) s)) n
    ∙ ap (λ b. cond b (checked time (drop (i + 1) ts) s) (Checked.Stale t v)) q
