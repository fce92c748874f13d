use Rattle.std.proofs.Common.{◌∙◌, ap}
use Rattle.std.specs.Option.{option_copied}
use Rattle.hib_collections_law.specs.Gathered.{due_write}
use Rattle.hib_collections.specs.Before.{base_in}
use Rattle.hib_collections.proofs.Known.{lock_known}
use Rattle.hib_collections.proofs.before.before_write.Goals as goal

pub returns-in-Some : goal.returns-in-Some
returns-in-Some c = λ script mine own f n k.
    let e = c.base-old.ensures script mine f ∙ ap (base_in mine) c.key.ensures in
    ap (λ p. due_write p c.args.change.now mine)
    (lock_known c.args.defs.now c.args.change.now mine (option_copied c.base-old.result) c.args.notes.now.locks c.locks.result.now.held own c.to_lock.result c.to_lock.ensures e c.locks.ensures n.locks k
    ∙ c.in-Some.is)

pub returns-in-None : goal.returns-in-None
returns-in-None c = λ script mine own f n k.
    let e = c.base-old.ensures script mine f ∙ ap (base_in mine) c.key.ensures in
    ap (λ p. due_write p c.args.change.now mine)
    (lock_known c.args.defs.now c.args.change.now mine (option_copied c.base-old.result) c.args.notes.now.locks c.locks.result.now.held own c.to_lock.result c.to_lock.ensures e c.locks.ensures n.locks k
    ∙ c.in-None.is)
