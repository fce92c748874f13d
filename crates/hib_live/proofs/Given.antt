-- A list from the cache is what its query gave at the moment of the hit, if all queries read declared tables.
use Rattle.std.proofs.Common.{◌≡◌, ℕ, true, List, [], ◌∷◌, Some, None, Option, sym, ◌∙◌}
use Rattle.std.specs.Prelude.{IfSome}
use Rattle.std.specs.List.{list_all}
use Rattle.hib_base.specs.Tables.{Tables}
use Rattle.hib_base.specs.Scripts.{is_declared}
use Rattle.hib_base.proofs.Lists.{all_at}
use Rattle.hib_journal.specs.Types.{Cell, Query, Script, Reply}
use Rattle.hib_journal.specs.Legal.{IsLegal}
use Rattle.hib_journal.specs.Sessions.{Journal}
use Rattle.hib_law.specs.Hits.{IsHitTrue, AreHitsTrue, IsListGiven, AreListsGiven}

same_list : (t u : ℕ) (k l : List Cell) → Some (Reply.Found t k) ≡ Some (Reply.Found u l) → k ≡ l
same_list t u k l e = cc

given_one : (script : Script) (start : Tables) (s q t : ℕ) (h : Journal) → list_all (λ (q : Query). is_declared script q) script.queries ≡ true → IsHitTrue script start s q t h → IsListGiven script start s q t h
given_one script start s q t h v x list d f i = same_list t t list x.list (sym f ∙ x.found) ∙ x.given d i (all_at (λ (d : Query). is_declared script d) script.queries q d v i)

given_all : (script : Script) (start : Tables) (h : Journal) → list_all (λ (q : Query). is_declared script q) script.queries ≡ true → AreHitsTrue script start h → AreListsGiven script start h
given_all script start [] v w = tt
given_all script start (e ∷ h) v w = ((λ s q t c a r. given_one script start s q t h v (w.0 s q t c a r)), given_all script start h v w.1)

pub given : ((script : Script) (start : Tables) (h : Journal) → IsLegal script (Some start) h → AreHitsTrue script start h) → (script : Script) (told : Option Tables) (h : Journal) →
    list_all (λ (q : Query). is_declared script q) script.queries ≡ true → IsLegal script told h → IfSome told (λ start. AreListsGiven script start h)
given w script None h v l = tt
given w script (Some start) h v l = given_all script start h v (w script start h l)
