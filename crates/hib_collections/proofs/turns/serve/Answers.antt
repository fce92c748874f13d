use Rattle.std.proofs.Common.{◌≤◌, length, List, sym, subst}
use Rattle.hib_collections_law.specs.declared.entries.Def.{Def}
use Rattle.hib_collections_law.specs.Types.{max_collections}
use Rattle.hib_collections.proofs.AtTurn.{due_told}
use Rattle.hib_collections.proofs.turns.serve.Goals as goal

pub comes_before-requires : goal.comes_before-requires
comes_before-requires g c = record { few = subst (λ (ds : List Def). length ds ≤ max_collections) (sym c.requires.defs) c.requires.run.set.few }

pub serve_plain-requires-clause-due : goal.serve_plain-requires-clause-due
serve_plain-requires-clause-due g c = due_told c.requires.script c.requires.defs c.requires.run c.requires.turn c.requires.unlisted c.comes_before.ensures c.in-Nothing.is

pub serve_get-requires-clause-due : goal.serve_get-requires-clause-due
serve_get-requires-clause-due g c = due_told c.requires.script c.requires.defs c.requires.run c.requires.turn c.requires.unlisted c.comes_before.ensures c.in-Get.is

pub serve_lock-requires-clause-due : goal.serve_lock-requires-clause-due
serve_lock-requires-clause-due g c = due_told c.requires.script c.requires.defs c.requires.run c.requires.turn c.requires.unlisted c.comes_before.ensures c.in-Lock.is

pub serve_unlock-requires-clause-due : goal.serve_unlock-requires-clause-due
serve_unlock-requires-clause-due g c = due_told c.requires.script c.requires.defs c.requires.run c.requires.turn c.requires.unlisted c.comes_before.ensures c.in-Unlock.is
