-- Who holds a key, with one entry more.
use Rattle.std.proofs.Common.{◌≡◌, List, [], ◌∷◌, refl, ap, ◌∙◌}
use Rattle.hib_journal.specs.Types.{Key, Entry}
use Rattle.hib_journal.specs.Sessions.{Journal}
use Rattle.hib_follow.specs.Holders.{line_after, line_at, AreHolders}
use Rattle.hib_follow.specs.declared.holders.Line.{Line}

pub holders_more : (e : Entry) (h : Journal) (m m2 : List (Key × Line)) → ((k : Key) → line_at m2 k ≡ line_after k e (line_at m k)) → AreHolders h m → AreHolders (e ∷ h) m2
holders_more e h m m2 f a = λ k. f k ∙ ap (line_after k e) (a k)

pub holders_first : AreHolders [] []
holders_first = λ k. refl
