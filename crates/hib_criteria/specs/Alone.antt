-- A condition that stands alone, token by token.
use Rattle.std.specs.Prelude.{◌≡◌, ℕ, Bool, true, false, if◌then◌else◌, List, [], ◌∷◌, Option, Some, None, Result, Ok, Err}
use Rattle.hib_base.specs.declared.refusals.Kind.{Kind}
use Rattle.hib_base.specs.declared.scripts.EntityDef.{EntityDef}
use Rattle.hib_base.specs.declared.scripts.Node.{Node}
use Rattle.hib_lex.specs.declared.lexer.Token.{Token}
use Rattle.hib_criteria.specs.Form.{at, chosen, empty, step}
use Rattle.hib_criteria.specs.Query.{count_of, is_one, kind_of}
use Rattle.hib_criteria.specs.declared.errors.CriteriaError.{CriteriaError}
use Rattle.hib_criteria.specs.declared.forms.Draft.{Draft}
use Rattle.hib_criteria.specs.declared.forms.Form.{Form}
use Rattle.hib_criteria.specs.declared.forms.Place.{Place}

-- all parentheses are closed
abbrev pub is_whole : Place → Bool
is_whole Place.Clauses = true
is_whole _ = false

-- a whole condition goes on with nothing
abbrev pub step_in : List EntityDef → Draft → Token → Option Draft
step_in m d t = if is_whole d.place then None else step m d t

abbrev pub if_whole : Form → Place → Option Form
if_whole f p = if is_whole p then Some f else None

abbrev pub form_in : List EntityDef → Option Draft → List Token → Option Form
form_in m None ts = None
form_in m (Some d) [] = if_whole d.form d.place
form_in m (Some d) (t ∷ ts) = form_in m (step_in m d t) ts

-- a condition over the rows of an entity begins so. Of an entity that isn't known no column is
abbrev pub start : Option ℕ → Option Draft
start e = at (chosen empty e) [] Place.Condition

-- the parts of a condition, or the first thing that is wrong with it
abbrev pub unless_kind : Form → Option Kind → Result (List Node) Kind
unless_kind f (Some k) = Err k
unless_kind f None = Ok f.nodes

abbrev pub judged_form : Form → Result (List Node) Kind
judged_form f = if is_one (count_of f.nodes) then unless_kind f (kind_of f) else Err Kind.Words

abbrev pub judged : Option Form → Result (List Node) Kind
judged None = Err Kind.Words
judged (Some f) = judged_form f

abbrev pub condition_of : List EntityDef → Option ℕ → List Token → Result (List Node) Kind
condition_of m e ts = judged (form_in m (start e) ts)

-- what an error says; want of memory says nothing
abbrev pub IsWhy : Result (List Node) Kind → CriteriaError → Type 0
IsWhy r CriteriaError.NoMemory = Unit {0}
IsWhy r (CriteriaError.Fault k) = r ≡ Err k
