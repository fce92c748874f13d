-- Choices between two things.
use Rattle.std.proofs.Common.{ℕ, ◌≡◌, ◌==◌, Bool, true, false, cond, ◌&&◌, ◌||◌, refl, sym, ap, inl, inr}
use Rattle.std.proofs.lemmas.Bool.{true≢false, eqb-true}
use Rattle.hib_base.specs.Keys.{same_key}
use Rattle.hib_base.proofs.Tables.{Tested, tested, same_key_eq}
use Rattle.hib_journal.specs.Types.{Key}

pub settled : {A : Type 0} (b : Bool) (x y : A) → (b ≡ false → y ≡ x) → cond b x y ≡ x
settled true x y f = refl
settled false x y f = f refl

cond_both : {A : Type 0} (b : Bool) (x y : A) → x ≡ y → cond b x y ≡ x
cond_both true x y e = refl
cond_both false x y e = sym e

pub and_true : (c : Bool) → (c && true) ≡ c
and_true true = refl
and_true false = refl

pub or_false : (a b : Bool) → (a || b) ≡ false → (a ≡ false) × (b ≡ false)
or_false true b p = absurd (true≢false p)
or_false false b p = (refl, p)

-- what is told twice of a thing is the same
pub key_again : {A : Type 0} (v : Key → A) (k j : Key) (b : Bool) (x : A) → cond b (v j) (cond (same_key k j) (v k) x) ≡ cond (same_key k j || b) (v j) x
key_again v k j b x = by (tested (same_key k j))
  where
    by : Tested (same_key k j) → cond b (v j) (cond (same_key k j) (v k) x) ≡ cond (same_key k j || b) (v j) x
    by (inl p) = rw p (cond_both b (v j) (v k) (ap v (sym (same_key_eq k j p))))
    by (inr p) = rw p refl

pub num_again : {A : Type 0} (v : ℕ → A) (n m : ℕ) (b : Bool) (x : A) → cond b (v m) (cond (n == m) (v n) x) ≡ cond ((n == m) || b) (v m) x
num_again v n m b x = by (tested (n == m))
  where
    by : Tested (n == m) → cond b (v m) (cond (n == m) (v n) x) ≡ cond ((n == m) || b) (v m) x
    by (inl p) = rw p (cond_both b (v m) (v n) (ap v (sym (eqb-true n m p))))
    by (inr p) = rw p refl

pub num_here : {A : Type 0} (v : ℕ → A) (n m : ℕ) (x : A) → cond (n == m) (v n) x ≡ cond (n == m) (v m) x
num_here v n m x = by (tested (n == m))
  where
    by : Tested (n == m) → cond (n == m) (v n) x ≡ cond (n == m) (v m) x
    by (inl p) = rw p (ap v (eqb-true n m p))
    by (inr p) = rw p refl
