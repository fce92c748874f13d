-- Of scripts that say the same one is the other, but for its queries.
use Rattle.std.proofs.Common.{◌≡◌, List, map, Option, ap, subst, ◌∙◌}
use Rattle.hib_base.specs.Queries.{said}
use Rattle.hib_base.specs.Tables.{Tables}
use Rattle.hib_journal.specs.Legal.{IsLegal}
use Rattle.hib_journal.specs.Sessions.{Journal}
use Rattle.hib_journal.specs.Types.{Entry, Script}
use Rattle.hib_json_lines.specs.Line.{json_lines}
use Rattle.hib_report.specs.Report.{report, summary}
use Rattle.hib_script.specs.Outline.{Outline, outline_of}
use Rattle.hib_outline_law.proofs.Queries.{with_queries}
use Rattle.hib_outline_law.proofs.Replies.{legal_same}
use Rattle.hib_outline_law.proofs.Texts.{report_same, summary_same, json_lines_same}

is_with : (s t : Script) → outline_of s ≡ outline_of t → with_queries s t.queries ≡ t
is_with s t h = λ i. record {
  timeout = (h i).timeout;
  results = (h i).results;
  mapping = (h i).mapping;
  rows = (h i).rows;
  queries = t.queries;
  sessions = (h i).sessions;
  schedule = (h i).schedule;
}

said_same : (s t : Script) → outline_of s ≡ outline_of t → map said s.queries ≡ map said t.queries
said_same s t h = ap (λ (o : Outline). o.queries) h

pub legal : (s t : Script) → outline_of s ≡ outline_of t → (told : Option Tables) (es : Journal) → IsLegal s told es → IsLegal t told es
legal s t h told es l = subst (λ x. IsLegal x told es) (is_with s t h) (legal_same s t.queries (said_same s t h) told es l)

pub same_report : (s t : Script) → outline_of s ≡ outline_of t → (es : List Entry) → report s es ≡ report t es
same_report s t h es = report_same s t.queries (said_same s t h) es ∙ ap (λ x. report x es) (is_with s t h)

pub same_summary : (s t : Script) → outline_of s ≡ outline_of t → (es : List Entry) → summary s es ≡ summary t es
same_summary s t h es = summary_same s t.queries (said_same s t h) es ∙ ap (λ x. summary x es) (is_with s t h)

pub same_lines : (s t : Script) → outline_of s ≡ outline_of t → (es : List Entry) → json_lines s es ≡ json_lines t es
same_lines s t h es = json_lines_same s t.queries (said_same s t h) es ∙ ap (λ x. json_lines x es) (is_with s t h)
