-- Entries that are added to a journal, the oldest first.
use Rattle.std.proofs.Common.{◌≡◌, ◌==◌, ℕ, List, [], ◌∷◌, ◌++◌, reverse, true, Some, refl, ap, sym, ◌∙◌, append_assoc, arith}
use Rattle.std.specs.List.{list_all}
use Rattle.std.proofs.lemmas.List.{append-nil, reverse-append, reverse-reverse}
use Rattle.std.proofs.lemmas.List.Folds.{list_all-append}
use Rattle.std.proofs.lemmas.Bool.{and_from}
use Rattle.std.proofs.lemmas.Bool.Decides.{nat_tests}
use Rattle.hib_journal.specs.Kept.{Kept, past}
use Rattle.hib_journal.specs.Sessions.{is_by}
use Rattle.hib_journal.specs.Types.{Entry, Script}
use Rattle.hib_core.specs.Factory.{Does}
use Rattle.hib_core.specs.Playing.{Play, Leads, played}
use Rattle.hib_session.specs.declared.session.Session.{Session}
use Rattle.hib_serve.specs.Sessions.{Adds, HasRun}

-- what was added to the newest first, the oldest first
pub added : (es : List Entry) (x y : Kept) → past y ≡ reverse es ++ past x → Adds es x y
unfolding past
added es x y e =
    sym (reverse-reverse y.list) ∙ ap reverse e ∙ reverse-append (reverse es) (reverse x.list) ∙ ap (λ (l : List Entry). l ++ reverse (reverse es)) (reverse-reverse x.list)
    ∙ ap (λ (l : List Entry). x.list ++ l) (reverse-reverse es)

pub none_added : (n : ℕ) (x y : Kept) → past y ≡ past x → HasRun n x y
none_added n x y e = record { added = []; grown = added [] x y e; by = refl }

own_entry : (n : ℕ) (e : Entry) → e.session ≡ Some n → is_by n e ≡ true
own_entry n e h = rw h (same n)
  where
    same : (m : ℕ) → (m == m) ≡ true
    same m = grind (arith, nat_tests)

one_more : (n : ℕ) (x y z : Kept) (e : Entry) → HasRun n x y → e.session ≡ Some n → past z ≡ e ∷ past y → HasRun n x z
one_more n x y z e r by p =
    record {
      added = r.added ++ e ∷ [];
      grown = added (e ∷ []) y z p ∙ ap (λ (l : List Entry). l ++ e ∷ []) r.grown ∙ append_assoc x.list r.added (e ∷ []);
      by = rw (list_all-append (is_by n) r.added (e ∷ [])) (and_from (list_all (is_by n) r.added) (list_all (is_by n) (e ∷ [])) r.by (rw (own_entry n e by) refl));
    }

-- a step more of session n
pub goes_on : (n : ℕ) (script : Script) (x y z : Kept) (xs ys : List Session) → HasRun n x y → Does script n (past y) (past z) xs ys → HasRun n x z
goes_on n script x y z xs ys r d = one_more n x y z d.entry r d.by d.grown

-- no step more
pub stays : (n : ℕ) (x y z : Kept) → HasRun n x y → past z ≡ past y → HasRun n x z
stays n x y z r e = record { added = r.added; grown = added [] y z e ∙ append-nil y.list ∙ r.grown; by = r.by }

-- what an order has added
pub led : (all : Play) (x y : Kept) (l : Leads all played (past x) (past y)) → Adds l.added x y
led all x y l = added l.added x y l.grown

-- entries that are added one after the other
pub adds_more : (x y z : Kept) → ((es : List Entry) × Adds es x y) → ((fs : List Entry) × Adds fs y z) → (gs : List Entry) × Adds gs x z
adds_more x y z (es, a) (fs, b) = (es ++ fs, b ∙ ap (λ (l : List Entry). l ++ fs) a ∙ append_assoc x.list es fs)

pub adds_none : (x y : Kept) → y ≡ x → (gs : List Entry) × Adds gs x y
adds_none x y e = ([], ap (λ (k : Kept). k.list) e ∙ sym (append-nil x.list))

pub same_list : (x y : Kept) → past y ≡ past x → y.list ≡ x.list
same_list x y e = added [] x y e ∙ append-nil x.list

pub adds_past : (x y : Kept) → past y ≡ past x → (gs : List Entry) × Adds gs x y
adds_past x y e = ([], added [] x y e)
