-- What words ask for that a call from memory to memory doesn't do: it has no file, no standard error and no thread.
use Rattle.std.specs.Prelude.{◌≡◌, ℕ, List, [], Option, Some, None, if◌then◌else◌, is_some, codes}
use Rattle.hib_words.specs.Commands.{Asked}
use Rattle.hib_words.specs.Topics.{file_of, is_traced}
use Rattle.hib_words.specs.declared.tools.Tool.{Tool}
use Rattle.hib_words.specs.declared.tools.Tool.TheVariants as tool
use Rattle.hib_call.specs.Exits.{exit_number}
use Rattle.hib_call.specs.declared.status.Status.{Status}
use Rattle.hib_top.specs.Words.{is_alone}
use Rattle.hib_embed.specs.declared.answer.Answer.{Answer}
use Rattle.hib_embed.specs.declared.unserved.Unserved.{Unserved}

abbrev pub unserved_of : Asked → Option Unserved
unserved_of asked =
    if is_some (file_of asked) then Some Unserved.File
    else if is_traced asked then Some Unserved.Trace
    else if is_alone asked then None
    else Some Unserved.Threads

abbrev pub unserved_tool : Tool → Option Unserved
unserved_tool tool.Rows = Some Unserved.File
unserved_tool _ = None

abbrev pub unserved_text : Unserved → List ℕ
unserved_text Unserved.File = codes "hib: usage: the library keeps no file, so it takes no --file\n"
unserved_text Unserved.Trace = codes "hib: usage: the library has no standard error, so it takes no --trace\n"
unserved_text Unserved.Threads = codes "hib: usage: the library starts no thread, so it takes no work\n"

-- it is refused by name, and nothing was written
pub record IsRefused (it : Unserved) (answer : Answer) : Type 0 where
  pub status : answer.status ≡ exit_number Status.Usage
  pub text : answer.text ≡ []
  pub line : answer.line ≡ unserved_text it
