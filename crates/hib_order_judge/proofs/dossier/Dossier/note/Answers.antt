use Rattle.std.proofs.Common.{◌∙◌, ap, sym}
use Rattle.hib_journal.specs.Sessions.{changes_after}
use Rattle.hib_order_judge.proofs.Footed.{basis_more, rest_more}
use Rattle.hib_order_judge.specs.Footings.{basis_after, basis_in, rest_after, rest_at}
use Rattle.hib_order_judge.proofs.dossier.Dossier.note.Goals as goal

pub returns : goal.returns
returns c = λ es mine at d. record {
  written = c.in_ok-note_written.ensures ∙ ap (changes_after c.args.entry.now.act) d.written;
  found = c.found_in-self.ensures;
  footings = λ k. c.in_ok-note_footing.ensures es k at ∙ ap (basis_after k c.args.entry.now.act c.args.entry.now.reply) (d.footings k)
      ∙ sym (basis_more k c.args.entry.now mine);
  rests = λ k. c.in_ok-note_rest.ensures es k ∙ ap (λ b. rest_after k c.args.entry.now.act b (rest_at es c.args.self.now.rests.entries k)) (d.footings k)
      ∙ ap (rest_after k c.args.entry.now.act (basis_in k mine)) (d.rests k) ∙ sym (rest_more k c.args.entry.now mine);
}
