-- An object in which nothing is wrong says an event.
use Rattle.std.proofs.Common.{◌≡◌, ℕ, List, [], ◌∷◌, Option, Some, None, Bool, true, false, refl}
use Rattle.std.specs.Prelude.{not, is_some}
use Rattle.serde_json.specs.Data.{Data}
use Rattle.hib_trace_lines.specs.Events.{RowText}
use Rattle.hib_trace_lines.specs.Faults.{fault_if, faults, word_faults, missing_faults, fault_of, first_of}
use Rattle.hib_trace_lines.specs.Members.{event_of, event_with, operation_at, rows_at, tables_at, whole_at}
use Rattle.hib_trace_lines.specs.declared.events.Operation.{Operation}
use Rattle.hib_trace_lines.specs.declared.faults.Fault.{Fault}
use Rattle.hib_trace_lines.specs.declared.faults.Member.{Member}

abbrev AllNone : List (Option Fault) → Type 0
AllNone [] = Unit {0}
AllNone (f ∷ fs) = (f ≡ None) × AllNone fs

all_none : (fs : List (Option Fault)) → first_of fs ≡ None → AllNone fs
all_none [] h = tt
all_none (None ∷ fs) h = (refl, all_none fs h)
all_none (Some f ∷ fs) h = absurd cc

is_there : (b : Bool) (f : Fault) → fault_if (not b) f ≡ None → b ≡ true
is_there true f h = refl
is_there false f h = absurd cc

all_there : (o : Option Operation) (r : Option (List RowText)) (t : Option (List (List ℕ))) (b e : Option ℕ) (d : Data) → is_some o ≡ true →
    is_some r ≡ true → is_some t ≡ true → is_some b ≡ true → is_some e ≡ true → event_with o r t b e d ≡ None → ⊥
all_there None r t b e d p q s u v h = cc
all_there (Some o) None t b e d p q s u v h = cc
all_there (Some o) (Some r) None b e d p q s u v h = cc
all_there (Some o) (Some r) (Some t) None e d p q s u v h = cc
all_there (Some o) (Some r) (Some t) (Some b) None d p q s u v h = cc
all_there (Some o) (Some r) (Some t) (Some b) (Some e) d p q s u v h = cc

pub right_is_event : (d : Data) → fault_of d ≡ None → event_of d ≡ None → ⊥
right_is_event d h n =
    let a = all_none (faults d) h in
    let w = all_none (word_faults d) a.1.1.1.0 in
    let m = all_none (missing_faults d) a.1.1.1.1.0 in
    all_there (operation_at d) (rows_at d) (tables_at d) (whole_at Member.Begin d) (whole_at Member.End d) d
    (is_there (is_some (operation_at d)) (Fault.Missing Member.Operation) m.0)
    (is_there (is_some (rows_at d)) Fault.NotRows w.1.1.0)
    (is_there (is_some (tables_at d)) Fault.NotTables w.1.1.1.0)
    (is_there (is_some (whole_at Member.Begin d)) (Fault.Missing Member.Begin) m.1.1.1.0)
    (is_there (is_some (whole_at Member.End d)) (Fault.Missing Member.End) m.1.1.1.1.0) n
