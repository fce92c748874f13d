-- What a call comes to that was made over a page in memory, if the page has taken all.
use Rattle.std.specs.Prelude.{◌≡◌, ℕ, List, Option, Some, None, option_and_then, Result, Ok, Err, IfOk, OnOk}
use Rattle.std.proofs.Common.{refl, subst, sym}
use Rattle.std.specs.declared.string.String.{String}
use Rattle.std.specs.declared.alloc.Global.{Global}
use Rattle.std.specs.declared.alloc.AllocError.{AllocError}
use Rattle.hib_words.specs.Commands.{Asked}
use Rattle.hib_words.specs.declared.tools.Tool.{Tool}
use Rattle.hib_call.specs.Exits.{exit_number}
use Rattle.hib_call.specs.Outside.{Outside, Shared, outside}
use Rattle.hib_call.specs.declared.status.Status.{Status}
use Rattle.hib_top.specs.Call as program
use Rattle.hib_top.specs.Words.{asked_alone, asked_in}
use Rattle.hib_top.specs.declared.any_run.AnyRun.{AnyRun}
use Rattle.hib_toolbox.specs.Call as toolbox
use Rattle.hib_toolbox.specs.declared.ended.Said.{Said}
use Rattle.hib_embed.specs.Calls.{IsCall, IsCallIf, IsServed, IsToolCall, IsToolCallIf, IsToolServed, tool_number}
use Rattle.hib_embed.specs.Lines.{IsLineOf, IsSaidLine}
use Rattle.hib_embed.specs.Start.{at_end, at_start}
use Rattle.hib_embed.specs.Unserved.{unserved_of, unserved_tool}
use Rattle.hib_embed.specs.declared.answer.Answer.{Answer}
use Rattle.hib_embed.proofs.Served.{alone_if_served}

-- a page that has taken a text without a failure
filled : (left : Option (List ℕ)) (text bytes : List ℕ) (failures : ℕ) (kept : Shared) → text ≡ bytes → failures ≡ 0 →
    outside left 0 (Some bytes) failures kept ≡ at_end left text kept
filled left text bytes failures kept e whole = rw (e, whole) refl

served : (asked : Option Asked) (input : List ℕ) (a : Answer) → option_and_then unserved_of asked ≡ None →
    IsServed asked input a → IsCall asked input a
served asked input a none is = subst (λ it. IsCallIf it asked input a) (sym none) is

pub call_comes : (words : List (String Global)) (input bytes : List ℕ) (failures : ℕ) (old : Outside)
    (left : Option (List ℕ)) (kept : Shared) (ended : Status) (run : Option AnyRun) (r : Result Answer AllocError) →
    option_and_then unserved_of (asked_in words) ≡ None → old ≡ at_start input →
    program.Promised (asked_alone words) old (outside left 0 (Some bytes) failures kept) ended run →
    OnOk r (failures ≡ 0) → IfOk r (λ a. a.text ≡ bytes) → IfOk r (λ a. a.status ≡ exit_number ended) →
    IfOk r (λ a. IsLineOf ended a.line) → IfOk r (IsCall (asked_in words) input)
unfolding asked_alone
call_comes words input bytes failures old left kept ended run (Ok a) none begun promised whole text status line =
    let alone = subst (λ it. program.Promised it old (outside left 0 (Some bytes) failures kept) ended run) (alone_if_served (asked_in words) none) promised in
    let from_start = subst (λ o. program.Promised (asked_in words) o (outside left 0 (Some bytes) failures kept) ended run) begun alone in
    served (asked_in words) input a none (record {
      ended = ended;
      run = run;
      left = left;
      kept = kept;
      promised = subst (λ o. program.Promised (asked_in words) (at_start input) o ended run) (filled left a.text bytes failures kept text whole) from_start;
      status = status;
      line = line;
    })
call_comes words input bytes failures old left kept ended run (Err e) none begun promised whole text status line = tt

tool_served : (asked : Option Tool) (input : List ℕ) (a : Answer) → option_and_then unserved_tool asked ≡ None →
    IsToolServed asked input a → IsToolCall asked input a
tool_served asked input a none is = subst (λ it. IsToolCallIf it asked input a) (sym none) is

pub tool_comes : (asked : Option Tool) (input bytes : List ℕ) (failures : ℕ) (old : Outside)
    (left : Option (List ℕ)) (kept : Shared) (ended : Status) (said : Said) (r : Result Answer AllocError) →
    option_and_then unserved_tool asked ≡ None → old ≡ at_start input →
    toolbox.Promised asked old (outside left 0 (Some bytes) failures kept) ended said →
    OnOk r (failures ≡ 0) → IfOk r (λ a. a.text ≡ bytes) → IfOk r (λ a. a.status ≡ tool_number ended said) →
    IfOk r (λ a. IsSaidLine ended said a.line) → IfOk r (IsToolCall asked input)
tool_comes asked input bytes failures old left kept ended said (Ok a) none begun promised whole text status line =
    let from_start = subst (λ o. toolbox.Promised asked o (outside left 0 (Some bytes) failures kept) ended said) begun promised in
    tool_served asked input a none (record {
      ended = ended;
      said = said;
      left = left;
      kept = kept;
      promised = subst (λ o. toolbox.Promised asked (at_start input) o ended said) (filled left a.text bytes failures kept text whole) from_start;
      status = status;
      line = line;
    })
tool_comes asked input bytes failures old left kept ended said (Err e) none begun promised whole text status line = tt
