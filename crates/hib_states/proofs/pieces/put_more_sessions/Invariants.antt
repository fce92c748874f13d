use Rattle.std.proofs.Common.{◌≡◌, ◌++◌, take, flat_map, codes}
use Rattle.hib_texts.specs.Texts.{session_text}
use Rattle.hib_flat.specs.Lines.{in_quotes}
use Rattle.hib_states.proofs.pieces.put_more_sessions.Given as goal

abbrev pub invariant-loop-session : goal.invariant-loop-session
invariant-loop-session l = l.out.items ≡ l.fn.out.items ++ flat_map (λ s. codes "," ++ in_quotes (session_text l.script s)) (take l.session-index l.sessions)
