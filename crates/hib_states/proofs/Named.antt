-- The names of sessions, one after another.
use Rattle.std.specs.List.{join_by}
use Rattle.std.proofs.Common.{◌≡◌, ℕ, List, [], ◌∷◌, ◌++◌, map, refl, sym, ap, ◌∙◌, append_assoc, flat_map, codes}
use Rattle.hib_journal.specs.Types.{Script}
use Rattle.hib_texts.specs.Texts.{session_text}
use Rattle.hib_flat.specs.Lines.{in_quotes}

more_sessions : (script : Script) (rest : List ℕ) → flat_map (λ s. codes "," ++ in_quotes (session_text script s)) rest ≡ flat_map (λ w. codes "," ++ in_quotes w) (map (session_text script) rest)
more_sessions script [] = refl
more_sessions script (s ∷ rest) = ap (λ (l : List ℕ). (codes "," ++ in_quotes (session_text script s)) ++ l) (more_sessions script rest)

pub joined_sessions : (script : Script) (first : ℕ) (rest all o0 o1 o2 : List ℕ) → all ≡ first ∷ rest → o1 ≡ o0 ++ in_quotes (session_text script first) →
    o2 ≡ o1 ++ flat_map (λ s. codes "," ++ in_quotes (session_text script s)) rest → o2 ≡ o0 ++ join_by in_quotes (codes ",") (map (session_text script) all)
joined_sessions script first rest all o0 o1 o2 e e1 e2 =
    e2 ∙ ap (λ (o : List ℕ). o ++ flat_map (λ s. codes "," ++ in_quotes (session_text script s)) rest) e1
    ∙ append_assoc o0 (in_quotes (session_text script first)) (flat_map (λ s. codes "," ++ in_quotes (session_text script s)) rest)
    ∙ ap (λ (l : List ℕ). o0 ++ (in_quotes (session_text script first) ++ l)) (more_sessions script rest)
    ∙ ap (λ (ss : List ℕ). o0 ++ join_by in_quotes (codes ",") (map (session_text script) ss)) (sym e)
