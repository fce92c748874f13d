-- The query that a line is, or the first thing that is wrong with it.
use Rattle.std.specs.Prelude.{◌≡◌, ℕ, suc, ◌-◌, Bool, true, false, if◌then◌else◌, nat_le, ◌==◌, List, [], ◌∷◌, ◌++◌, length, Option, Some, None, unwrap_or, option_and_then, Result, Ok, Err}
use Rattle.hib_base.specs.declared.refusals.Kind.{Kind}
use Rattle.hib_base.specs.declared.scripts.Cond.{Cond}
use Rattle.hib_base.specs.declared.scripts.EntityDef.{EntityDef}
use Rattle.hib_base.specs.declared.scripts.Node.{Node}
use Rattle.hib_base.specs.Valid.{default_limit}
pub use Rattle.hib_base.specs.Queries.{parts_of, parts_in, Said, said}
use Rattle.hib_lex.specs.declared.lexer.Token.{Token}
use Rattle.hib_mapping.specs.Parts.{is_reserved}
use Rattle.hib_criteria.specs.Form.{form_of}
use Rattle.hib_criteria.specs.declared.errors.CriteriaError.{CriteriaError}
use Rattle.hib_criteria.specs.declared.forms.Form.{Form}

-- ---- how many conditions some parts come to
-- how many conditions a part joins
abbrev pub arity : Node → ℕ
arity Node.And = 2
arity Node.Or = 2
arity Node.Not = 1
arity _ = 0

abbrev pub joined : Node → ℕ → Option ℕ
joined n k = if nat_le (arity n) k then Some (suc (k - arity n)) else None

-- how many conditions some parts come to, from the last one on; none if a part joins more than there are
abbrev pub count_of : List Node → Option ℕ
count_of [] = Some 0
count_of (n ∷ ns) = option_and_then (λ k. joined n k) (count_of ns)

abbrev pub is_one : Option ℕ → Bool
is_one None = false
is_one (Some k) = k == 1

-- no condition, or the parts of one
abbrev pub are_whole : List Node → Bool
are_whole [] = true
are_whole (n ∷ ns) = is_one (count_of (n ∷ ns))

-- the condition of some parts, or none if they aren't those of one
abbrev pub IsBuilt : List Node → Option Cond → Type 0
IsBuilt ns None = is_one (count_of ns) ≡ false
IsBuilt ns (Some c) = (is_one (count_of ns) ≡ true) × (parts_of c ≡ ns)

-- the parts of conditions that stand side by side, the last one first
abbrev pub parts_all : List Cond → List Node
parts_all [] = []
parts_all (c ∷ cs) = parts_all cs ++ parts_of c

-- the conditions with one part more in front of theirs, or none if it joins more than there are
abbrev pub IsJoined : Node → List Cond → Option (List Cond) → Type 0
IsJoined n cs None = nat_le (arity n) (length cs) ≡ false
IsJoined n cs (Some ds) = parts_all ds ≡ n ∷ parts_all cs

-- the one of some conditions, or none if there isn't exactly one
abbrev pub IsOnly : List Cond → Option Cond → Type 0
IsOnly cs None = (length cs == 1) ≡ false
IsOnly cs (Some c) = cs ≡ c ∷ []

-- what is made of some parts, and when nothing is
abbrev pub IsWhole : List Node → Option Cond → Type 0
IsWhole ns o = (are_whole ns ≡ true) × (parts_in o ≡ ns)

abbrev pub IsTorn : List Node → CriteriaError → Type 0
IsTorn ns CriteriaError.NoMemory = Unit {0}
IsTorn ns (CriteriaError.Fault k) = (are_whole ns ≡ false) × (k ≡ Kind.Words)

-- ---- the query of a form
-- what a form says, if nothing is wrong with it
abbrev pub said_by : Form → Said
said_by f = record {
  name = f.name;
  cached = f.cached;
  entity = unwrap_or f.entity 0;
  parts = f.nodes;
  order = f.order;
  offset = unwrap_or f.offset 0;
  limit = unwrap_or f.limit default_limit;
  select = f.select;
}

-- the first thing that is wrong with a line of this form
abbrev pub kind_of : Form → Option Kind
kind_of f =
    if is_reserved f.name then Some Kind.Reserved
    else (if f.unknown then Some Kind.Unknown
    else (if f.bad_number then Some Kind.Number
    else (if f.mistyped then Some Kind.CellType
    else (if f.deep then Some Kind.Depth else None))))

abbrev pub unless_kind : Form → Option Kind → Result Said Kind
unless_kind f (Some k) = Err k
unless_kind f None = Ok (said_by f)

abbrev pub judged : Form → Result Said Kind
judged f = if are_whole f.nodes then unless_kind f (kind_of f) else Err Kind.Words

abbrev pub read : Option Form → Result Said Kind
read None = Err Kind.Words
read (Some f) = judged f

-- what a query line says, or the first thing that is wrong with it
abbrev pub query_of : List EntityDef → List Token → Result Said Kind
query_of m ts = read (form_of m ts)

-- what an error says; want of memory says nothing
abbrev pub IsWhy : Result Said Kind → CriteriaError → Type 0
IsWhy r CriteriaError.NoMemory = Unit {0}
IsWhy r (CriteriaError.Fault k) = r ≡ Err k
