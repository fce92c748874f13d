use Rattle.std.proofs.Common.{◌≡◌, ◌∙◌, Bool, true, false, refl, sym}
use Rattle.std.specs.Prelude.{◌||◌, ◌&&◌, nat_lt}
use Rattle.std.specs.List.{list_any}
use Rattle.hib_trace_law.specs.declared.commits.Commit.{Commit}
use Rattle.hib_trace_law.specs.Certain.{is_before}
use Rattle.hib_traces.proofs.Olds.{new_none}
use Rattle.hib_traces.proofs.times.ready_of.Goals as goal

or_no : (a b : Bool) → b ≡ false → (a || b) ≡ a
or_no true b p = refl
or_no false b p = p

pub returns-in-None : goal.returns-in-None
returns-in-None c = λ e.
    or_no (nat_lt e c.args.commit.now.begin) (list_any (λ (d : Commit). is_before d c.args.commit.now && nat_lt e d.begin) c.args.order.now.commits.items)
    (new_none c.args.order.now.commits.items c.args.commit.now e (sym c.version_of.ensures ∙ c.in-None.is))
