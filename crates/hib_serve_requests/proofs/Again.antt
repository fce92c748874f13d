-- The object of a request asks for nothing else.
use Rattle.std.proofs.Common.{◌≡◌, Option, Some, None, refl, ap, sym, ◌∙◌}
use Rattle.serde_json.specs.Data.{Data, object, Members}
use Rattle.hib_serve_requests.specs.Members.{id_in, asked_in}
use Rattle.hib_serve_requests.specs.Requests.{IdText, text, whole, AskedText, says, goes_on, kills, evicts, restarts, ends, object_of}

some_asked : (a b : AskedText) → Some a ≡ Some b → a ≡ b
some_asked a b h = cc

none_some : (a : AskedText) → None ≡ Some a → ⊥
none_some a h = cc

asked_again : (i : Option IdText) (a : AskedText) → asked_in (object_of i a) ≡ Some a
asked_again None (says s t) = refl
asked_again None (goes_on s) = refl
asked_again None (kills s) = refl
asked_again None (evicts e n) = refl
asked_again None restarts = refl
asked_again None ends = refl
asked_again (Some i) (says s t) = refl
asked_again (Some i) (goes_on s) = refl
asked_again (Some i) (kills s) = refl
asked_again (Some i) (evicts e n) = refl
asked_again (Some i) restarts = refl
asked_again (Some i) ends = refl

id_again : (i : Option IdText) (a : AskedText) → id_in (object_of i a) ≡ i
id_again None (says s t) = refl
id_again None (goes_on s) = refl
id_again None (kills s) = refl
id_again None (evicts e n) = refl
id_again None restarts = refl
id_again None ends = refl
id_again (Some (text x)) (says s t) = refl
id_again (Some (text x)) (goes_on s) = refl
id_again (Some (text x)) (kills s) = refl
id_again (Some (text x)) (evicts e n) = refl
id_again (Some (text x)) restarts = refl
id_again (Some (text x)) ends = refl
id_again (Some (whole x)) (says s t) = refl
id_again (Some (whole x)) (goes_on s) = refl
id_again (Some (whole x)) (kills s) = refl
id_again (Some (whole x)) (evicts e n) = refl
id_again (Some (whole x)) restarts = refl
id_again (Some (whole x)) ends = refl

-- an object that asks for nothing is that of no request
pub nothing_asked : (d : Data) (ms : Members) → d ≡ object ms → None ≡ asked_in d → (i : Option IdText) (a : AskedText) → object ms ≡ object_of i a → ⊥
nothing_asked d ms o n i a e = none_some a (n ∙ ap asked_in (o ∙ e) ∙ asked_again i a)

-- one that asks for this, and isn't its object, is that of no request
pub other_asked : (d : Data) (ms : Members) (j : Option IdText) (b : AskedText) → d ≡ object ms → j ≡ id_in d → Some b ≡ asked_in d → (d ≡ object_of j b → ⊥) →
    (i : Option IdText) (a : AskedText) → object ms ≡ object_of i a → ⊥
other_asked d ms j b o h k n i a e =
    let same_id : j ≡ i = h ∙ ap id_in (o ∙ e) ∙ id_again i a in
    let same : b ≡ a = some_asked b a (k ∙ ap asked_in (o ∙ e) ∙ asked_again i a) in
    n (o ∙ e ∙ ap (λ (x : Option IdText). object_of x a) (sym same_id) ∙ ap (object_of j) (sym same))
