-- One token more of a line, and of a condition that stands alone.
use Rattle.std.proofs.Common.{◌≡◌, ℕ, ◌+◌, ◌<◌, ◌≤◌, List, length, drop, get_or, Some, refl, add-one, drop-cons}
use Rattle.std.proofs.lemmas.List.{drop_all}
use Rattle.hib_base.specs.declared.scripts.EntityDef.{EntityDef}
use Rattle.hib_lex.specs.declared.lexer.Token.{Token}
use Rattle.hib_criteria.specs.declared.forms.Draft.{Draft}
use Rattle.hib_criteria.specs.Form.{form_from, step, ended_at}
use Rattle.hib_criteria.specs.Alone.{form_in, if_whole, step_in}

pub form_next : (m : List EntityDef) (d : Draft) (ts : List Token) (i : ℕ) (t : Token) → i < length ts → form_from m (Some d) (drop i ts) ≡ form_from m (step m d (get_or ts i t)) (drop (i + 1) ts)
form_next m d ts i t h = rw (add-one, drop-cons ts i t) refl

pub form_done : (m : List EntityDef) (d : Draft) (ts : List Token) (i : ℕ) → length ts ≤ i → form_from m (Some d) (drop i ts) ≡ ended_at d.form d.place
form_done m d ts i h = rw (drop_all i ts h) refl

pub alone_next : (m : List EntityDef) (d : Draft) (ts : List Token) (i : ℕ) (t : Token) → i < length ts → form_in m (Some d) (drop i ts) ≡ form_in m (step_in m d (get_or ts i t)) (drop (i + 1) ts)
alone_next m d ts i t h = rw (add-one, drop-cons ts i t) refl

pub alone_done : (m : List EntityDef) (d : Draft) (ts : List Token) (i : ℕ) → length ts ≤ i → form_in m (Some d) (drop i ts) ≡ if_whole d.form d.place
alone_done m d ts i h = rw (drop_all i ts h) refl
