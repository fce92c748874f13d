use Rattle.hib_engines.proofs.Outcomes.{map_on}
use Rattle.hib_audit.proofs.Kept.{written_taken}
use Rattle.hib_audit.proofs.sessions.note_written.Goals as goal

pub returns : goal.returns
returns c = map_on c.note.result _ _ c.note.ensures (λ f script h w.
    written_taken script h c.number.inside.0 c.args.number c.args.entry.now c.args.written.now.items c.index_mut.result.now c.note.new.self c.number.view_is
    c.index_mut.ensures.value c.requires.by w c.requires.there f)
