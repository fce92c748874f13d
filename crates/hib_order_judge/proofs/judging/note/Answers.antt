use Rattle.std.specs.Prelude.{◌||◌}
use Rattle.std.specs.Option.{option_map_or}
use Rattle.std.proofs.Common.{◌≡◌, [], false, ap, ◌∙◌}
use Rattle.hib_journal.specs.Sessions.{own}
use Rattle.hib_journal.specs.Types.{Entry}
use Rattle.hib_order_judge.proofs.Noted.{or_same}
use Rattle.hib_order_law.specs.Judged.{has_entry, is_lost_update, is_old_list, is_refused_commit, is_stale_hit, last_found, old_by, stale_by}
use Rattle.hib_order_law.specs.declared.verdicts.Verdicts.{Verdicts}
use Rattle.hib_order_judge.proofs.judging.note.Goals as goal

pub returns : goal.returns
returns c = λ start h a r v.
    let e : Entry = c.args.entry.now in
    let stale : c.either-stale_hit.result ≡ (is_stale_hit start h e || has_entry (is_stale_hit start) h) =
    c.either-stale_hit.ensures ∙ or_same (c.is_stale_hit.ensures ∙ ap (λ t. stale_by t e.act e.reply) r) (ap (λ (x : Verdicts). x.stale_hit) v) in
    let old : c.either-old_list.result ≡ (is_old_list c.args.script.now start h e || has_entry (is_old_list c.args.script.now start) h) =
    c.either-old_list.ensures
    ∙ or_same
    (c.in_ok-is_old.ensures ∙ ap (λ l. old_by c.args.script.now c.args.rows.now l e.act e.reply) (c.found.ensures c.args.entries.now h a)
    ∙ ap (λ t. old_by c.args.script.now t (option_map_or (λ s. last_found (own s h)) e.session []) e.act e.reply) r)
    (ap (λ (x : Verdicts). x.old_list) v) in
    let lost : c.either-lost_update.result ≡ (is_lost_update start h e || has_entry (is_lost_update start) h) =
    c.either-lost_update.ensures ∙ or_same (c.is_lost_update-is_lost.ensures start h a r) (ap (λ (x : Verdicts). x.lost_update) v) in
    let refused : c.either-refused_commit.result ≡ (is_refused_commit e || has_entry (λ _. is_refused_commit) h) =
    c.either-refused_commit.ensures ∙ or_same c.is_refused.ensures (ap (λ (x : Verdicts). x.refused_commit) v) in
    let unsound : c.args.judged.now.unsound_key ≡ false = ap (λ (x : Verdicts). x.unsound_key) v in
    λ i. record { stale_hit = stale i; old_list = old i; lost_update = lost i; refused_commit = refused i; unsound_key = unsound i }
