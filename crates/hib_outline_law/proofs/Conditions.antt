-- What a condition comes to hangs on its parts, and not on the places in memory where they are.
use Rattle.std.proofs.Common.{◌≡◌, ℕ, Bool, true, false, not, ◌&&◌, ◌||◌, ◌==◌, List, [], ◌∷◌, ◌++◌, Option, Some, None, refl, sym, ap, ◌∙◌, append_assoc}
use Rattle.std.specs.Option.{option_map_or}
use Rattle.std.specs.List.{list_any}
use Rattle.std.proofs.lemmas.List.{append-nil}
use Rattle.hib_base.specs.declared.scripts.Node.{Node}
use Rattle.hib_base.specs.Queries.{parts_of, parts_in}
use Rattle.hib_base.specs.Tables.{Tables}
use Rattle.hib_journal.specs.Types.{Row, Cell, Op, Path, Cond}
use Rattle.hib_journal.specs.Query.{passes, same_cell, cell_at, holds, mentions}

-- what comes of a condition by what comes of its tests
module _ {X : Type 0} (both either : X → X → X) (turned : X → X) (test : Op → Path → Cell → X) (among : Path → List Cell → X) where
  abbrev pub worth : Cond → X
  worth (Cond.And' p a q b) = both (worth a) (worth b)
  worth (Cond.Or' p a q b) = either (worth a) (worth b)
  worth (Cond.Not' p a) = turned (worth a)
  worth (Cond.Test op p c) = test op p c
  worth (Cond.Among p cs) = among p cs

  abbrev joined : (X → X → X) → List X → List X
  joined f [] = []
  joined f (a ∷ []) = a ∷ []
  joined f (a ∷ b ∷ xs) = f a b ∷ xs

  abbrev first_turned : List X → List X
  first_turned [] = []
  first_turned (a ∷ xs) = turned a ∷ xs

  -- the same by the parts, from the last one to the first
  abbrev stacked : List Node → List X
  stacked [] = []
  stacked (Node.And ∷ ns) = joined both (stacked ns)
  stacked (Node.Or ∷ ns) = joined either (stacked ns)
  stacked (Node.Not ∷ ns) = first_turned (stacked ns)
  stacked (Node.Test op p c ∷ ns) = test op p c ∷ stacked ns
  stacked (Node.Among p cs ∷ ns) = among p cs ∷ stacked ns

  two_on : (a b : Cond) (ns : List Node) → stacked (parts_of a ++ (parts_of b ++ ns)) ≡ worth a ∷ stacked (parts_of b ++ ns) → stacked (parts_of b ++ ns) ≡ worth b ∷ stacked ns
      → stacked ((parts_of a ++ parts_of b) ++ ns) ≡ worth a ∷ worth b ∷ stacked ns
  two_on a b ns first second = ap stacked (append_assoc (parts_of a) (parts_of b) ns) ∙ (first ∙ ap (λ xs. worth a ∷ xs) second)

  stacked_on : (c : Cond) (ns : List Node) → stacked (parts_of c ++ ns) ≡ worth c ∷ stacked ns
  stacked_on (Cond.And' p a q b) ns = ap (joined both) (two_on a b ns (stacked_on a (parts_of b ++ ns)) (stacked_on b ns))
  stacked_on (Cond.Or' p a q b) ns = ap (joined either) (two_on a b ns (stacked_on a (parts_of b ++ ns)) (stacked_on b ns))
  stacked_on (Cond.Not' p a) ns = ap first_turned (stacked_on a ns)
  stacked_on (Cond.Test op p c) ns = refl
  stacked_on (Cond.Among p cs) ns = refl

  alone : (c : Cond) → stacked (parts_of c) ≡ worth c ∷ []
  alone c = ap stacked (sym (append-nil (parts_of c))) ∙ stacked_on c []

  pub worth_same : (a b : Cond) → parts_of a ≡ parts_of b → worth a ≡ worth b
  worth_same a b h = let one : worth a ∷ [] ≡ worth b ∷ [] = sym (alone a) ∙ (ap stacked h ∙ alone b) in cc

  pub some_parts : {Y : Type 0} (c : Cond) → parts_of c ≡ [] → Y
  some_parts c h = absurd (let none : worth c ∷ [] ≡ [] = sym (alone c) ∙ ap stacked h in cc)

-- ---- whether a condition holds
abbrev holds_test : Tables → Row → Op → Path → Cell → Bool
holds_test t r op p c = option_map_or (λ d. passes op d c) (cell_at t r p) false

abbrev holds_among : Tables → Row → Path → List Cell → Bool
holds_among t r p cs = option_map_or (λ d. list_any (λ c. same_cell d c) cs) (cell_at t r p) false

abbrev holding : Tables → Row → Cond → Bool
holding t r = worth (λ x y. x && y) (λ x y. x || y) not (holds_test t r) (holds_among t r)

holds_by : (t : Tables) (r : Row) (c : Cond) → holds t r c ≡ holding t r c
holds_by t r (Cond.And' p a q b) = λ i. holds_by t r a i && holds_by t r b i
holds_by t r (Cond.Or' p a q b) = λ i. holds_by t r a i || holds_by t r b i
holds_by t r (Cond.Not' p a) = ap not (holds_by t r a)
holds_by t r (Cond.Test op p c) = refl
holds_by t r (Cond.Among p cs) = refl

pub holds_same : (t : Tables) (r : Row) (a b : Cond) → parts_of a ≡ parts_of b → holds t r a ≡ holds t r b
holds_same t r a b h =
    holds_by t r a ∙ (worth_same (λ x y. x && y) (λ x y. x || y) not (holds_test t r) (holds_among t r) a b h ∙ sym (holds_by t r b))

-- ---- whether it mentions a table
abbrev mentions_test : ℕ → Op → Path → Cell → Bool
mentions_test n op p c = option_map_or (λ g. g.entity == n) p.target false

abbrev mentions_among : ℕ → Path → List Cell → Bool
mentions_among n p cs = option_map_or (λ g. g.entity == n) p.target false

abbrev mentioning : ℕ → Cond → Bool
mentioning n = worth (λ x y. x || y) (λ x y. x || y) (λ x. x) (mentions_test n) (mentions_among n)

mentions_by : (n : ℕ) (c : Cond) → mentions n c ≡ mentioning n c
mentions_by n (Cond.And' p a q b) = λ i. mentions_by n a i || mentions_by n b i
mentions_by n (Cond.Or' p a q b) = λ i. mentions_by n a i || mentions_by n b i
mentions_by n (Cond.Not' p a) = mentions_by n a
mentions_by n (Cond.Test op p c) = refl
mentions_by n (Cond.Among p cs) = refl

pub mentions_same : (n : ℕ) (a b : Cond) → parts_of a ≡ parts_of b → mentions n a ≡ mentions n b
mentions_same n a b h =
    mentions_by n a ∙ (worth_same (λ x y. x || y) (λ x y. x || y) (λ x. x) (mentions_test n) (mentions_among n) a b h ∙ sym (mentions_by n b))

-- ---- a condition that may be missing
no_parts : {Y : Type 0} (c : Cond) → [] ≡ parts_of c → Y
no_parts c h = some_parts (λ (x y : Bool). x && y) (λ x y. x || y) not (λ op p c. true) (λ p cs. true) c (sym h)

pub missing_same : (f : Cond → Bool) (e : Bool) → ((a b : Cond) → parts_of a ≡ parts_of b → f a ≡ f b) → (c d : Option Cond) → parts_in c ≡ parts_in d → option_map_or f c e ≡ option_map_or f d e
missing_same f e h None None p = refl
missing_same f e h None (Some d) p = no_parts d p
missing_same f e h (Some c) None p = no_parts c (sym p)
missing_same f e h (Some c) (Some d) p = h c d p
