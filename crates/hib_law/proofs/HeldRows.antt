-- What a session holds of a key that it has not changed: a row that it has read since its last Begin.
use Rattle.std.proofs.Common.{◌≡◌, ◌⊎◌, inl, inr, Bool, true, false, ◌||◌, List, [], ◌∷◌, ◌++◌, Some, None, Option, refl, ap, sym, ◌∙◌, subst}
use Rattle.std.proofs.lemmas.Bool.{true≢false, false≢true, or_parts}
use Rattle.std.specs.List.{list_any}
use Rattle.hib_journal.specs.Types.{Key, Row, Change, Act, Entry}
use Rattle.hib_base.specs.Keys.{same_key}
use Rattle.hib_base.specs.Tables.{key_of}
use Rattle.hib_journal.specs.Sessions.{Journal, changes_in, changes_after}
use Rattle.hib_journal.specs.Held.{Arrival, arrival, arrived_key, Stay, stay, stay_after, longer, is_break, row_written, base_of, gives_row, is_begin, since_begin}
use Rattle.hib_journal.specs.Next.{is_in}
use Rattle.hib_journal.specs.Coherence.{Unless}
use Rattle.hib_base.proofs.Tables.{Tested, tested, same_key_eq}
use Rattle.hib_journal.proofs.Words.{gives_base}
use Rattle.hib_law.proofs.Basics.{none_some, some_same}

-- a Hit or a Load of k gave b, since the last Begin
abbrev pub HasRead : Key → Row → Journal → Type 0
HasRead k b [] = ⊥
HasRead k b (e ∷ m) = Unless (is_begin e.act) ((arrival e.act e.reply ≡ Some (Arrival.Read k b)) ⊎ HasRead k b m)

pub reads_on : (k : Key) (b : Row) (e : Entry) (m : Journal) → is_begin e.act ≡ false → HasRead k b m → HasRead k b (e ∷ m)
reads_on k b e m n h = rw n (inr h)

-- the changes with one more
or_none : (a : Bool) → (a || false) ≡ a
or_none true = refl
or_none false = refl

or_assoc : (a b c : Bool) → (a || (b || c)) ≡ ((a || b) || c)
or_assoc true b c = refl
or_assoc false b c = refl

pub any_append : (p : Change → Bool) (cs : List Change) (c : Change) → list_any p (cs ++ c ∷ []) ≡ (list_any p cs || p c)
any_append p [] c = or_none (p c)
any_append p (d ∷ cs) c = ap (λ b. p d || b) (any_append p cs c) ∙ or_assoc (p d) (list_any p cs) (p c)

-- what an act leaves of "k is not in the changes", if it begins nothing
pub not_in_before : (k : Key) (a : Act) (cs : List Change) → is_begin a ≡ false → is_in k (changes_after a cs) ≡ false →
    (is_in k cs ≡ false) × (row_written k a ≡ None)
not_in_before k Act.Begin cs n p = absurd (true≢false n)
not_in_before k (Act.Write c) cs n p = (q.0, no_row c q.1)
  where
    q : (is_in k cs ≡ false) × (same_key (key_of c) k ≡ false)
    q = or_parts (is_in k cs) (same_key (key_of c) k) (sym (any_append (λ d. same_key (key_of d) k) cs c) ∙ p)

    no_row : (d : Change) → same_key (key_of d) k ≡ false → row_written k (Act.Write d) ≡ None
    no_row (Change.Insert j r) x = rw x refl
    no_row (Change.Update j v r) x = rw x refl
    no_row (Change.Delete j v) x = refl
not_in_before k _ cs n p = (p, refl)

pub written_rest : (k : Key) (e : Entry) (a : Arrival) (l : Journal) → row_written k e.act ≡ None → base_of k (a, e ∷ l) ≡ base_of k (a, l)
written_rest k e (Arrival.Read j r) l p = rw p refl
written_rest k e (Arrival.Made j r) l p = rw p refl

pub no_arrival : (k : Key) (o : Option Arrival) (e : Entry) (x : Option Stay) → ((a : Arrival) → o ≡ Some a → same_key (arrived_key a) k ≡ false) →
    stay_after k e o x ≡ longer e x
no_arrival k None e x f = refl
no_arrival k (Some a) e x f = rw (f a refl) refl

gives_none : (k : Key) (o : Option Arrival) → ((a : Arrival) → o ≡ Some a → same_key (arrived_key a) k ≡ false) → gives_row k o None ≡ false
gives_none k None f = refl
gives_none k (Some (Arrival.Read j r)) f = f (Arrival.Read j r) refl
gives_none k (Some (Arrival.Made j r)) f = refl

-- an entry brings k, or it does not
pub data Brings (k : Key) (o : Option Arrival) : Type 0 where
  It : (a : Arrival) → o ≡ Some a → same_key (arrived_key a) k ≡ true → Brings k o
  Other : ((a : Arrival) → o ≡ Some a → same_key (arrived_key a) k ≡ false) → Brings k o

pub brings : (k : Key) (o : Option Arrival) → Brings k o
brings k None = Brings.Other (λ a p. none_some p)
brings k (Some a) = by_key (tested (same_key (arrived_key a) k))
  where
    by_key : Tested (same_key (arrived_key a) k) → Brings k (Some a)
    by_key (inl p) = Brings.It a refl p
    by_key (inr p) = Brings.Other (λ b q. subst (λ z. same_key (arrived_key z) k ≡ false) (some_same q) p)

pub longer_some : (e : Entry) (x : Option Stay) (a : Arrival) (l : Journal) → longer e x ≡ Some (a, l) →
    (d : Journal) × (x ≡ Some (a, d)) × (l ≡ e ∷ d)
longer_some e None a l p = none_some p
longer_some e (Some s) a l p =
    let q : (s.0, e ∷ s.1) ≡ (a, l) = some_same p in
    (s.1, ap (λ z. Some (z, s.1)) (ap (λ z. z.0) q), sym (ap (λ z. z.1) q))

-- the base of what is held, of a key that is not in the changes, is what an entry since the last Begin read
pub fresh_stay : (k : Key) (b : Row) (m : Journal) (a : Arrival) (l : Journal) → stay k m ≡ Some (a, l) → base_of k (a, l) ≡ Some b →
    is_in k (changes_in m) ≡ false → list_any (λ e. gives_base k e) (since_begin m) ≡ true → HasRead k b m
fresh_stay k b [] a l p q n f = none_some p
fresh_stay k b (e ∷ m) a l p q n f = by_begin (tested (is_begin e.act)) (tested (is_break e.act e.reply)) (fresh_stay k b m)
  where
    rest : is_begin e.act ≡ false → (is_in k (changes_in m) ≡ false) × (row_written k e.act ≡ None)
    rest x = not_in_before k e.act (changes_in m) x n

    since : is_begin e.act ≡ false → (gives_base k e || list_any (λ d. gives_base k d) (since_begin m)) ≡ true
    since x = rw x at f

    arrived : is_begin e.act ≡ false → (z : Arrival) → arrival e.act e.reply ≡ Some z → same_key (arrived_key z) k ≡ true →
        stay_after k e (arrival e.act e.reply) (stay k m) ≡ Some (a, l) → HasRead k b (e ∷ m)
    arrived x (Arrival.Read j r) u v w =
        let g : Some (Arrival.Read j r, []) ≡ Some (a, l) = rw (u, v) at w in
        let h : (Arrival.Read j r, []) ≡ (a, l) = some_same g in
        let c : Some r ≡ Some b = ap (λ s. base_of k s) h ∙ q in
        rw x (inl (u ∙ ap (λ y. Some (Arrival.Read j y)) (some_same c) ∙ ap (λ y. Some (Arrival.Read y b)) (same_key_eq j k v)))
    arrived x (Arrival.Made j r) u v w =
        let g : Some (Arrival.Made j r, []) ≡ Some (a, l) = rw (u, v) at w in
        let h : (Arrival.Made j r, []) ≡ (a, l) = some_same g in
        let c : ◌≡◌ {A = Option Row} None (Some b) = ap (λ s. base_of k s) h ∙ q in
        none_some c

    later : is_begin e.act ≡ false → ((z : Arrival) → arrival e.act e.reply ≡ Some z → same_key (arrived_key z) k ≡ false) →
        longer e (stay k m) ≡ Some (a, l) →
        ((a : Arrival) (l : Journal) → stay k m ≡ Some (a, l) → base_of k (a, l) ≡ Some b → is_in k (changes_in m) ≡ false →
        list_any (λ e. gives_base k e) (since_begin m) ≡ true → HasRead k b m) → HasRead k b (e ∷ m)
    later x o w i =
        let d : (d : Journal) × (stay k m ≡ Some (a, d)) × (l ≡ e ∷ d) = longer_some e (stay k m) a l w in
        let y : base_of k (a, e ∷ d.0) ≡ Some b = subst (λ z. base_of k (a, z) ≡ Some b) d.2 q in
        let g : gives_base k e ≡ false = rw ((rest x).1) (gives_none k (arrival e.act e.reply) o) in
        let s : list_any (λ d. gives_base k d) (since_begin m) ≡ true = rw g at (since x) in
        reads_on k b e m x (i a d.0 d.1 (sym (written_rest k e a d.0 (rest x).1) ∙ y) (rest x).0 s)

    by_begin : Tested (is_begin e.act) → Tested (is_break e.act e.reply) →
        ((a : Arrival) (l : Journal) → stay k m ≡ Some (a, l) → base_of k (a, l) ≡ Some b → is_in k (changes_in m) ≡ false →
        list_any (λ e. gives_base k e) (since_begin m) ≡ true → HasRead k b m) → HasRead k b (e ∷ m)
    by_begin (inl x) y i = let g : false ≡ true = rw x at f in absurd (false≢true g)
    by_begin (inr x) (inl y) i = let g : ◌≡◌ {A = Option Stay} None (Some (a, l)) = rw y at p in none_some g
    by_begin (inr x) (inr y) i =
        let w : stay_after k e (arrival e.act e.reply) (stay k m) ≡ Some (a, l) = rw y at p in
        by_arrival x (brings k (arrival e.act e.reply)) w i
      where
        by_arrival : is_begin e.act ≡ false → Brings k (arrival e.act e.reply) → stay_after k e (arrival e.act e.reply) (stay k m) ≡ Some (a, l) →
            ((a : Arrival) (l : Journal) → stay k m ≡ Some (a, l) → base_of k (a, l) ≡ Some b → is_in k (changes_in m) ≡ false →
            list_any (λ e. gives_base k e) (since_begin m) ≡ true → HasRead k b m) → HasRead k b (e ∷ m)
        by_arrival x (Brings.It z u v) w i = arrived x z u v w
        by_arrival x (Brings.Other o) w i = later x o (sym (no_arrival k (arrival e.act e.reply) e (stay k m) o) ∙ w) i
