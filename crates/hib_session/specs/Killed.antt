-- Which of some sessions are killed.
use Rattle.std.specs.Prelude.{◌≡◌, ℕ, Bool, false, ◌||◌, List, length, slice_get, Some}
use Rattle.hib_session.specs.declared.session.Session.{Session}
use Rattle.hib_session.specs.Session.{number_of, is_killed}

-- a session that was at this place, and is killed if this says so
pub record IsAsBefore (kills : Bool) (xs : List Session) (s : ℕ) (y : Session) : Type 0 where
  pub before : Session
  pub there : slice_get xs s ≡ Some before
  pub number : number_of y ≡ number_of before
  pub killed : is_killed y ≡ (kills || is_killed before)
  pub same : kills ≡ false → y ≡ before

-- of these sessions those are killed of which this says so, and the others are as they were
pub record AreKilled (kills : ℕ → Bool) (xs ys : List Session) : Type 0 where
  pub all : length ys ≡ length xs
  pub each : (s : ℕ) (y : Session) → slice_get ys s ≡ Some y → IsAsBefore (kills s) xs s y
