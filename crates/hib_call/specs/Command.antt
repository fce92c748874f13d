-- A command in its own words.
use Rattle.std.specs.Prelude.{ℕ, List, Option}
use Rattle.hib_base.specs.declared.refusals.Refused.{Refused}
use Rattle.hib_call.specs.declared.status.Status.{Status}
use Rattle.hib_call.specs.Outside.{Shared}

-- of a command with such an input and such a run
pub record Command (I R : Type 0) : Type 1 where
  -- the most bytes of its input
  pub limit : ℕ
  -- a text is this input
  pub reads : List ℕ → I → Type 0
  -- a text is none, and this is its first bad line
  pub refuses : List ℕ → Refused → Type 0
  -- a text is an input, whichever
  pub has_form : List ℕ → Type 0
  -- what stands after a run to its end
  pub leaves : I → Shared → Shared → R → Type 0
  -- what stands after a run that ended the call early: by how it ended, and by what is there of it
  pub stops : I → Shared → Shared → Status → Option R → Type 0
  -- what a sink has after a run was told, by how that ended and by what it had
  pub tells : R → Status → Option (List ℕ) → Option (List ℕ) → Type 0
