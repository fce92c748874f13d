-- Scripts that differ in places in memory alone have the same texts.
use Rattle.std.proofs.Common.{◌≡◌, ℕ, not, List, [], ◌∷◌, ◌++◌, length, map, reverse, codes, flat_map, Option, Some, None, option_map, refl, ap, ◌∙◌}
use Rattle.std.specs.List.{filter}
use Rattle.std.specs.Fmt.{decimal}
use Rattle.hib_base.specs.Queries.{Said, said}
use Rattle.hib_journal.specs.Types.{Key, Change, Query, Script, Act, Reply, Entry, Commit, Checked}
use Rattle.hib_journal.specs.Sessions.{Journal}
use Rattle.hib_journal.specs.Sound.{is_sound}
use Rattle.hib_json_lines.specs.Line.{object_of, json_line, json_lines}
use Rattle.serde_json.specs.Written.{compact_text}
use Rattle.hib_listeners.specs.Statistics.{counted}
use Rattle.hib_report.specs.Lines.{act_text, part_text, reply_text, commit_text, checked_text, dropped_text, change_text, actor_text, line_text, lines_text}
use Rattle.hib_report.specs.Report.{journal_text, sessions_text, counts_text, report, summary}
use Rattle.hib_report.specs.Unsound.{named, with_named, keys_in, unsound_text}
use Rattle.hib_texts.specs.Texts.{query_name, query_text, key_text, list_text, session_text}
use Rattle.hib_outline_law.proofs.Queries.{with_queries, got_same}

module _ (s : Script) (qs : List Query) (same : map said s.queries ≡ map said qs) where
  abbrev t : Script
  t = with_queries s qs

  -- ---- the line of an entry
  query_same : (q : ℕ) → query_text s q ≡ query_text t q
  query_same q = got_same query_name (λ p r h. ap (λ (x : Said). x.name) h) s.queries qs q same

  change_same : (c : Change) → change_text s c ≡ change_text t c
  change_same (Change.Insert k r) = refl
  change_same (Change.Update k v r) = refl
  change_same (Change.Delete k v) = refl

  act_same : (a : Act) → act_text s a ≡ act_text t a
  act_same (Act.Write c) = change_same c
  act_same (Act.List q) = ap (λ w. codes "list " ++ w) (query_same q)
  act_same (Act.Check q u) = ap (λ w. codes "check " ++ w ++ codes " at " ++ decimal u) (query_same q)
  act_same (Act.Look q) = ap (λ w. codes "look " ++ w) (query_same q)
  act_same (Act.Keep q u l) = ap (λ w. codes "keep " ++ w ++ codes " at " ++ decimal u ++ codes " " ++ list_text l) (query_same q)
  act_same _ = refl

  commit_same : (c : Commit) → commit_text s c ≡ commit_text t c
  commit_same Commit.Committed = refl
  commit_same (Commit.Stale k v) = refl
  commit_same (Commit.Duplicate k) = refl
  commit_same Commit.Fault = refl

  checked_same : (c : Checked) → checked_text s c ≡ checked_text t c
  checked_same Checked.Fresh = refl
  checked_same (Checked.Stale n u) = refl

  dropped_same : (o : Option ℕ) → dropped_text s o ≡ dropped_text t o
  dropped_same None = refl
  dropped_same (Some q) = ap (λ w. codes " dropped " ++ w) (query_same q)

  reply_same : (r : Reply) → reply_text s r ≡ reply_text t r
  reply_same (Reply.Commit c) = commit_same c
  reply_same (Reply.Check c) = checked_same c
  reply_same (Reply.Kept o) = ap (λ w. codes "kept" ++ w) (dropped_same o)
  reply_same _ = refl

  actor_same : (o : Option ℕ) → actor_text s o ≡ actor_text t o
  actor_same None = refl
  actor_same (Some n) = refl

  line_same : (e : Entry) → line_text s e ≡ line_text t e
  unfolding line_text
  line_same e = λ i.
      decimal e.tick ++ codes " " ++ actor_same e.session i ++ codes " " ++ part_text e.part ++ codes " " ++ act_same e.act i ++ codes " = " ++ reply_same e.reply i

  -- ---- keys that aren't sound
  named_same : (o : Option Key) (ks : List Key) → with_named s o ks ≡ with_named t o ks
  named_same None ks = refl
  named_same (Some k) ks = refl

  keys_same : (h : Journal) → keys_in s h ≡ keys_in t h
  keys_same [] = refl
  keys_same (e ∷ h) = named_same (named e.act) (keys_in s h) ∙ ap (with_named t (named e.act)) (keys_same h)

  unsound_same : (h : Journal) → unsound_text s h ≡ unsound_text t h
  unsound_same h = ap (λ ks. let us = filter (λ k. not (is_sound k h)) ks in codes "unsound " ++ decimal (length us) ++ codes "\n" ++ flat_map (λ k. key_text s k ++ codes "\n") us) (keys_same h)

  -- ---- what is written
  pub summary_same : (es : List Entry) → summary s es ≡ summary t es
  summary_same es = ap (λ w. journal_text es ++ w ++ counts_text s (counted s es)) (unsound_same (reverse es))

  lines_same : (es : List Entry) → lines_text s es ≡ lines_text t es
  lines_same es = λ i. flat_map (λ e. line_same e i ++ codes "\n") es

  pub report_same : (es : List Entry) → report s es ≡ report t es
  report_same es = λ i. journal_text es ++ lines_same es i ++ sessions_text s (reverse es) ++ unsound_same (reverse es) i ++ counts_text s (counted s es)

  json_same : (e : Entry) → json_line s e ≡ json_line t e
  unfolding json_line
  json_same e = λ i. compact_text (object_of (record { act = act_same e.act i; part = part_text e.part; reply = reply_same e.reply i; session = option_map (session_text s) e.session; tick = e.tick }))

  pub json_lines_same : (es : List Entry) → json_lines s es ≡ json_lines t es
  json_lines_same es = λ i. flat_map (λ e. json_same e i ++ codes "\n") es
