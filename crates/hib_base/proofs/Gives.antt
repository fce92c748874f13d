-- What holds of the value in an `Ok` or a `Some`.
use Rattle.std.proofs.Common.{◌≡◌, Bool, true, false, cond, Option, Some, None, Result, Ok, Err, refl, subst}

abbrev pub Gives : {A E : Type 0} → Result A E → (A → Type 0) → Type 0
Gives (Err k) P = Unit {0}
Gives (Ok x) P = P x

pub gives_cond : {A E : Type 0} (b : Bool) (x y : Result A E) (P : A → Type 0) → (b ≡ true → Gives x P) → (b ≡ false → Gives y P) → Gives (cond b x y) P
gives_cond true x y P f g = f refl
gives_cond false x y P f g = g refl

pub given : {A E : Type 0} (x : Result A E) (P : A → Type 0) (a : A) → Gives x P → x ≡ Ok a → P a
given (Err k) P a g e = absurd (cc)
given (Ok b) P a g e = let same : b ≡ a = cc in subst P same g

abbrev pub Then : {A : Type 0} → Option A → (A → Type 0) → Type 0
Then None P = Unit {0}
Then (Some x) P = P x

pub then_cond : {A : Type 0} (b : Bool) (x y : Option A) (P : A → Type 0) → (b ≡ true → Then x P) → (b ≡ false → Then y P) → Then (cond b x y) P
then_cond true x y P f g = f refl
then_cond false x y P f g = g refl
