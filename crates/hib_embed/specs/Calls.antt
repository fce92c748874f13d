-- What a call from memory to memory promises: it ends as a call of the program, or of its tools, over a source that has
-- the input, a sink that takes all, and a keeper without rows; and its text is all that was written. A source and a
-- sink that tell what they have make the bytes that were read and written a part of that promise.
use Rattle.std.specs.Prelude.{◌≡◌, ℕ, List, Option, Some, None, option_and_then}
use Rattle.hib_words.specs.Commands.{Asked}
use Rattle.hib_words.specs.declared.tools.Tool.{Tool}
use Rattle.hib_call.specs.Exits.{exit_number}
use Rattle.hib_call.specs.Outside.{Shared}
use Rattle.hib_call.specs.declared.status.Status.{Status}
use Rattle.hib_top.specs.Call as program
use Rattle.hib_top.specs.declared.any_run.AnyRun.{AnyRun}
use Rattle.hib_toolbox.specs.Call as toolbox
use Rattle.hib_toolbox.specs.declared.ended.Said.{Said}
use Rattle.hib_embed.specs.Lines.{IsLineOf, IsSaidLine}
use Rattle.hib_embed.specs.Start.{at_end, at_start}
use Rattle.hib_embed.specs.Unserved.{IsRefused, unserved_of, unserved_tool}
use Rattle.hib_embed.specs.declared.answer.Answer.{Answer}
use Rattle.hib_embed.specs.declared.unserved.Unserved.{Unserved}

-- ---- of the program

pub record IsServed (asked : Option Asked) (input : List ℕ) (answer : Answer) : Type 0 where
  pub ended : Status
  pub run : Option AnyRun
  pub left : Option (List ℕ)
  pub kept : Shared
  pub promised : program.Promised asked (at_start input) (at_end left answer.text kept) ended run
  pub status : answer.status ≡ exit_number ended
  pub line : IsLineOf ended answer.line

abbrev pub IsCallIf : Option Unserved → Option Asked → List ℕ → Answer → Type 0
IsCallIf None asked input answer = IsServed asked input answer
IsCallIf (Some it) asked input answer = IsRefused it answer

abbrev pub IsCall : Option Asked → List ℕ → Answer → Type 0
IsCall asked = IsCallIf (option_and_then unserved_of asked) asked

-- ---- of the tools

-- 1 if something is said of it beside how it ended
abbrev pub tool_number : Status → Said → ℕ
tool_number ended Said.Nothing = exit_number ended
tool_number ended said = 1

pub record IsToolServed (asked : Option Tool) (input : List ℕ) (answer : Answer) : Type 0 where
  pub ended : Status
  pub said : Said
  pub left : Option (List ℕ)
  pub kept : Shared
  pub promised : toolbox.Promised asked (at_start input) (at_end left answer.text kept) ended said
  pub status : answer.status ≡ tool_number ended said
  pub line : IsSaidLine ended said answer.line

abbrev pub IsToolCallIf : Option Unserved → Option Tool → List ℕ → Answer → Type 0
IsToolCallIf None asked input answer = IsToolServed asked input answer
IsToolCallIf (Some it) asked input answer = IsRefused it answer

abbrev pub IsToolCall : Option Tool → List ℕ → Answer → Type 0
IsToolCall asked = IsToolCallIf (option_and_then unserved_tool asked) asked
