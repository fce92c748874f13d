use Rattle.std.proofs.Common.{◌≡◌, true, List, [], ◌∷◌, map, Some, None, Option, IfSome, refl, ap, ◌∙◌, subst}
use Rattle.hib_base.specs.Tables.{Tables, in_order}
use Rattle.hib_journal.specs.Types.{Key, Row, Change}
use Rattle.hib_query_eval.specs.Met.{met}
use Rattle.hib_bulk.specs.Types.{BulkDef}
use Rattle.hib_bulk_law.specs.Rows.{row_after, change_to, bulk_changes}
use Rattle.hib_bulk.proofs.storing.changes_due.Goals as goal

mapped : {A B C : Type 0} (f : B → C) (g : A → B) (xs : List A) → map (λ x. f (g x)) xs ≡ map f (map g xs)
mapped f g [] = refl
mapped f g (x ∷ xs) = ap (λ ys. f (g x) ∷ ys) (mapped f g xs)

told_changes : {A : Type 0} (now : A → Key × Row) (d : BulkDef) (xs : List A) (cs : List Change) (told : Option Tables) → IfSome told (λ m. in_order m ≡ true) →
    IfSome told (λ m. map now xs ≡ met d.entity d.condition m) → cs ≡ map (λ p. change_to (row_after d.change (now p).1) (now p).0 (now p).1.version) xs →
    IfSome told (λ m. (in_order m ≡ true) × (cs ≡ bulk_changes d m))
told_changes now d xs cs None o w e = tt
told_changes now d xs cs (Some m) o w e = (
  o,
  e ∙ mapped (λ (p : Key × Row). change_to (row_after d.change p.1) p.0 p.1.version) now xs ∙ ap (map (λ (p : Key × Row). change_to (row_after d.change p.1) p.0 p.1.version)) w,
)

pub returns-clause-changes : goal.returns-clause-changes
returns-clause-changes g c =
    subst (λ t. IfSome t (λ m. (in_order m ≡ true) × (c.in_ok-changes.changes ≡ bulk_changes c.args.line.now m))) c.in_ok-ready_index.ensures.still.tables
    (told_changes (λ r. r.now) c.args.line.now c.in-Some.rows.items c.in_ok-changes.changes c.ready_index.new.self.tables c.in_ok-rows.ensures.ordered
    (subst (λ o. IfSome o (λ v. IfSome c.ready_index.new.self.tables (λ m. map (λ r. r.now) v.items ≡ met c.args.line.now.entity c.args.line.now.condition m))) c.in-Some.is c.in_ok-rows.ensures.met)
    (c.in_ok-changes.ensures ∙ ap (map (λ p. change_to (row_after c.args.line.now.change p.now.1) p.now.0 p.now.1.version)) c.as_slice.ensures.value))
