-- Names keep their sessions.
use Rattle.std.proofs.Common.{ℕ, List, Option, Some, None, Result, Ok, Err, bytes_eq, cond, ap, ◌∙◌, inl, inr}
use Rattle.hib_journal.specs.Types.{Script}
use Rattle.hib_live.specs.Live.{LiveState}
use Rattle.hib_statements.specs.Places.{place_of, or_place}
use Rattle.hib_serve_requests.specs.Requests.{AskedText, says, goes_on, kills, evicts, restarts, ends, asked_text}
use Rattle.hib_serve_requests.specs.declared.requests.Asked.{Asked}
use Rattle.hib_serve_requests.specs.declared.requests.Fault.{Fault}
use Rattle.hib_serve_answers.specs.declared.refusals.Refusal.{Refusal}
use Rattle.hib_serve.specs.Names.{Named, HasNamed, KeepsNames, KeepsSessions, NamesBehind, NamesDone, NamesRefused}
use Rattle.hib_serve.specs.Sessions.{number_in}
use Rattle.hib_serve.specs.declared.answering.Done.{Done}

same_keeps : (xs ys : Named) → KeepsNames xs ys → KeepsSessions xs ys
same_keeps xs ys h v n e = h v ∙ e

named_keeps : (w : List ℕ) (s : Script) (xs ys : Named) → HasNamed w s xs ys → KeepsSessions xs ys
named_keeps w s xs ys h v n e = h v ∙ ap (λ (o : Option ℕ). or_place o (cond (bytes_eq v w) (Some (number_in s (place_of w xs))) None)) e

done_keeps : (a : AskedText) (s : Script) (xs ys : Named) → NamesDone a s xs ys → KeepsSessions xs ys
done_keeps (says w text) s xs ys h = named_keeps w s xs ys h
done_keeps (goes_on w) s xs ys h = same_keeps xs ys h
done_keeps (kills w) s xs ys h = same_keeps xs ys h
done_keeps (evicts w id) s xs ys h = same_keeps xs ys h
done_keeps restarts s xs ys h = same_keeps xs ys h
done_keeps ends s xs ys h = same_keeps xs ys h

refused_keeps : (a : AskedText) (s t : Script) (xs ys : Named) → NamesRefused a s t xs ys → KeepsSessions xs ys
refused_keeps (says w text) s t xs ys (inl h) = same_keeps xs ys h.0
refused_keeps (says w text) s t xs ys (inr h) = named_keeps w s xs ys h.0
refused_keeps (goes_on w) s t xs ys h = same_keeps xs ys h.0
refused_keeps (kills w) s t xs ys h = same_keeps xs ys h.0
refused_keeps (evicts w id) s t xs ys h = same_keeps xs ys h.0
refused_keeps restarts s t xs ys h = same_keeps xs ys h.0
refused_keeps ends s t xs ys h = same_keeps xs ys h.0

pub behind_keeps : (asked : Result Asked Fault) (came : Result Done Refusal) (x y : LiveState) (xs ys : Named) → NamesBehind asked came x y xs ys → KeepsSessions xs ys
behind_keeps (Ok a) (Ok d) x y xs ys h = done_keeps (asked_text a) x.script xs ys h
behind_keeps (Ok a) (Err r) x y xs ys h = refused_keeps (asked_text a) x.script y.script xs ys h
behind_keeps (Err f) came x y xs ys h = same_keeps xs ys h
