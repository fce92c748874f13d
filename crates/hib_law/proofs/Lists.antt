-- A list from the cache, of a valid script, is what its query gave at the moment of the hit.
use Rattle.std.proofs.Common.{◌≡◌, ℕ, true, List, [], ◌∷◌, Some, None, Option, sym, ◌∙◌}
use Rattle.std.specs.Prelude.{IfSome}
use Rattle.hib_base.specs.Tables.{Tables}
use Rattle.hib_base.specs.Scripts.{is_declared}
use Rattle.hib_base.specs.Valid.{is_valid}
use Rattle.hib_base.proofs.Lists.{all_at}
use Rattle.hib_base.proofs.Valid.{Rules, rules}
use Rattle.hib_journal.specs.Types.{Cell, Script, Reply}
use Rattle.hib_journal.specs.Legal.{IsLegal}
use Rattle.hib_journal.specs.Sessions.{Journal}
use Rattle.hib_law.specs.Hits.{IsHitTrue, AreHitsTrue, IsListGiven, AreListsGiven}
use Rattle.hib_law.proofs.Hits.{hits_true}

same_list : (t u : ℕ) (k l : List Cell) → Some (Reply.Found t k) ≡ Some (Reply.Found u l) → k ≡ l
same_list t u k l e = cc

given_one : (script : Script) (start : Tables) (s q t : ℕ) (h : Journal) → is_valid script ≡ true → IsHitTrue script start s q t h → IsListGiven script start s q t h
given_one script start s q t h v x list d f i =
    let r : Rules script = rules script v in
    same_list t t list x.list (sym f ∙ x.found) ∙ x.given d i (all_at (λ d. is_declared script d) script.queries q d r.declared i)

given_all : (script : Script) (start : Tables) (h : Journal) → is_valid script ≡ true → AreHitsTrue script start h → AreListsGiven script start h
given_all script start [] v w = tt
given_all script start (e ∷ h) v w = ((λ s q t c a r. given_one script start s q t h v (w.0 s q t c a r)), given_all script start h v w.1)

pub lists_given : (script : Script) (told : Option Tables) (h : Journal) → is_valid script ≡ true → IsLegal script told h → IfSome told (λ start. AreListsGiven script start h)
lists_given script None h v l = tt
lists_given script (Some start) h v l = given_all script start h v (hits_true script start h l)
