-- What is wrong with a line's object.
use Rattle.std.specs.Prelude.{ℕ, List, [], ◌∷◌, Bool, true, false, not, ◌&&◌, ◌||◌, Option, Some, None, is_some, nat_lt, if◌then◌else◌}
use Rattle.std.specs.Option.{option_or}
use Rattle.serde_json.specs.Data.{unsigned, Data, null, number, string, Members, no_members, member}
use Rattle.serde_json.specs.Find.{get, as_object}
use Rattle.hib_trace_lines.specs.Words.{word_of, operation_of, outcomes, members}
use Rattle.hib_trace_lines.specs.Members.{member_name, text_at, whole_at, operation_at, rows_at, tables_at}
use Rattle.hib_trace_lines.specs.declared.events.Operation.{Operation}
use Rattle.hib_trace_lines.specs.declared.faults.Member.{Member}
use Rattle.hib_trace_lines.specs.declared.faults.Fault.{Fault}

-- the first fault of some
abbrev pub first_of : List (Option Fault) → Option Fault
first_of [] = None
first_of (f ∷ fs) = option_or f (first_of fs)

-- this fault, if so
abbrev pub fault_if : Bool → Fault → Option Fault
fault_if b f = if b then Some f else None

-- a text, or null, or nothing
abbrev pub may_be_text : Option Data → Bool
may_be_text None = true
may_be_text (Some null) = true
may_be_text (Some (string s)) = true
may_be_text (Some _) = false

abbrev pub may_be_whole : Option Data → Bool
may_be_whole None = true
may_be_whole (Some null) = true
may_be_whole (Some (number (unsigned n))) = true
may_be_whole (Some _) = false

abbrev pub text_fault : Member → Data → Option Fault
text_fault m d = fault_if (not (may_be_text (get (member_name m) d))) (Fault.NotText m)

abbrev pub whole_fault : Member → Data → Option Fault
whole_fault m d = fault_if (not (may_be_whole (get (member_name m) d))) (Fault.NotWhole m)

-- a word is there, and isn't known
abbrev pub is_strange : {A : Type 0} → (List ℕ → Option A) → Option (List ℕ) → Bool
is_strange known None = false
is_strange known (Some w) = not (is_some (known w))

-- a name that no member has
abbrev pub is_unknown : List ℕ → Bool
is_unknown k = not (is_some (word_of members k))

abbrev pub any_unknown : Members → Bool
any_unknown no_members = false
any_unknown (member k d ms) = is_unknown k || any_unknown ms

abbrev pub has_unknown : Option Members → Bool
has_unknown None = false
has_unknown (Some ms) = any_unknown ms

-- calls that are about no key, and calls that are nothing without their transaction
abbrev pub has_no_key : Operation → Bool
has_no_key Operation.Commit = true
has_no_key Operation.Rollback = true
has_no_key _ = false

abbrev pub is_of_transaction : Operation → Bool
is_of_transaction Operation.Write = true
is_of_transaction Operation.Rollback = true
is_of_transaction _ = false

abbrev pub needs_key : Option Operation → Bool
needs_key None = false
needs_key (Some o) = not (has_no_key o)

abbrev pub needs_transaction : Option Operation → Bool
needs_transaction None = false
needs_transaction (Some o) = is_of_transaction o

abbrev pub is_lower : Option ℕ → Option ℕ → Bool
is_lower (Some m) (Some n) = nat_lt m n
is_lower _ _ = false

-- ---- the faults, in the order in which they are looked for

abbrev pub form_faults : Data → List (Option Fault)
form_faults d =
    text_fault Member.Session d ∷ text_fault Member.Transaction d ∷ text_fault Member.Operation d ∷ text_fault Member.Key d ∷
    text_fault Member.Value d ∷ whole_fault Member.Version d ∷ text_fault Member.Base d ∷ text_fault Member.Outcome d ∷
    whole_fault Member.Begin d ∷ whole_fault Member.End d ∷ []

abbrev pub word_faults : Data → List (Option Fault)
word_faults d =
    fault_if (is_strange operation_of (text_at Member.Operation d)) (Fault.NotAWord Member.Operation) ∷
    fault_if (is_strange (word_of outcomes) (text_at Member.Outcome d)) (Fault.NotAWord Member.Outcome) ∷
    fault_if (not (is_some (rows_at d))) Fault.NotRows ∷ fault_if (not (is_some (tables_at d))) Fault.NotTables ∷ []

abbrev pub missing_faults : Data → List (Option Fault)
missing_faults d =
    fault_if (not (is_some (operation_at d))) (Fault.Missing Member.Operation) ∷
    fault_if (needs_transaction (operation_at d) && not (is_some (text_at Member.Transaction d))) (Fault.Missing Member.Transaction) ∷
    fault_if (needs_key (operation_at d) && not (is_some (text_at Member.Key d))) (Fault.Missing Member.Key) ∷
    fault_if (not (is_some (whole_at Member.Begin d))) (Fault.Missing Member.Begin) ∷
    fault_if (not (is_some (whole_at Member.End d))) (Fault.Missing Member.End) ∷ []

abbrev pub faults : Data → List (Option Fault)
faults d =
    fault_if (not (is_some (as_object d))) Fault.NotAnObject ∷ fault_if (has_unknown (as_object d)) Fault.UnknownMember ∷
    first_of (form_faults d) ∷ first_of (word_faults d) ∷ first_of (missing_faults d) ∷
    fault_if (is_lower (whole_at Member.End d) (whole_at Member.Begin d)) Fault.EndBeforeBegin ∷ []

abbrev pub fault_of : Data → Option Fault
fault_of d = first_of (faults d)
