use Rattle.std.proofs.Common.{◌≡◌, ◌∙◌, None, Some, Option, sym, ap, is_some, false, refl}
use Rattle.std.specs.Map.{lookup}
use Rattle.hib_base.specs.Keys.{same_key}
use Rattle.hib_journal.specs.Types.{Held}
use Rattle.hib_identity_map.specs.Identity.{look_in}
use Rattle.hib_identity_map.proofs.Entries.{look_same, written}
use Rattle.hib_identity_map.proofs.identity.replace.Goals as goal

none_some : (o : Option Held) → is_some o ≡ false → o ≡ None
none_some None e = refl
none_some (Some h) e = absurd (cc)

pub returns-in_default : goal.returns-in_default
returns-in_default c =
    let a : is_some (lookup (same_key c.args.key) c.args.entries.now.entries) ≡ false = sym c.in_default.ensures.found in
    let n : is_some (look_in c.args.entries.now.entries c.args.key) ≡ false = ap is_some (sym (look_same c.args.key c.args.entries.now.entries)) ∙ a in
    absurd (c.requires (none_some (look_in c.args.entries.now.entries c.args.key) n))

pub returns : goal.returns
returns c = written c.args.key c.in-Some.index c.args.entries.now.entries c.args.held (sym c.in-Some.ensures.index)
