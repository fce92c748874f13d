-- An event, with its texts as bytes.
use Rattle.std.specs.Prelude.{ℕ, List, Option}
use Rattle.hib_trace_lines.specs.declared.events.Operation.{Operation}
use Rattle.hib_trace_lines.specs.declared.events.Outcome.{Outcome}

pub record RowText : Type 0 where
  pub key : List ℕ
  pub version : ℕ

pub record EventText : Type 0 where
  pub operation : Operation
  pub session : Option (List ℕ)
  pub transaction : Option (List ℕ)
  pub key : Option (List ℕ)
  pub value : Option (List ℕ)
  pub version : Option ℕ
  pub base : Option (List ℕ)
  pub outcome : Option Outcome
  pub writes : List RowText
  pub tables : List (List ℕ)
  pub begin : ℕ
  pub end : ℕ
