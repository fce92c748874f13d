use Rattle.std.specs.Prelude.{option_copied}
use Rattle.std.specs.Option.{option_map_or}
use Rattle.std.proofs.Common.{◌≡◌, ◌+◌, List, cond, sym, ap, ◌∙◌, subst}
use Rattle.std.specs.List.{All}
use Rattle.indexmap.specs.IndexMap.{insert_entry}
use Rattle.hib_order_tries.specs.Found.{AreApart, ended_so}
use Rattle.hib_order_tries.specs.Marks.{marks_of}
use Rattle.hib_order_tries.specs.declared.endings.Ending.{Ending}
use Rattle.hib_order_tries.proofs.Ended.{Marked, IsMarked, same_marks, count_at, endings_of, inserted_marked, inserted_counts, inserted_apart}
use Rattle.hib_order_tries.proofs.endings.Endings.note.Goals as goal
use Rattle.hib_order_tries.proofs.endings.Endings.note.Goals.{in-None, in-Some}

module _ (c : goal.Joined-branch-3) where
  abbrev old : List Marked
  old = c.self.inside.by_marks.entries

  abbrev new : Ending
  new = record { outcomes = c.args.outcomes; count = c.match-get.count + 1 }

  inside : c.match-get.self-inside ≡ c.self.inside
  inside = elim c.match-get.branch [ in-None w ↦ w.self-inside-is | in-Some w ↦ w.self-inside-is ]

  marks : c.in_ok-marks.marks.items ≡ marks_of c.args.outcomes.items
  marks = c.in_ok-marks.ensures ∙ ap (λ l. marks_of l) c.as_slice.ensures.value

  entries : c.insert.new.self.entries ≡ insert_entry same_marks old c.in_ok-marks.marks new
  entries = c.in_ok-insert.ensures.entries ∙ ap (λ x. insert_entry same_marks x.by_marks.entries c.in_ok-marks.marks new) inside

  count : new.count ≡ count_at c.in_ok-marks.marks.items old + 1
  count = ap (λ n. n + 1) (kept ∙ looked)
    where
      looked : option_map_or (λ (e : Ending). e.count) (option_copied c.get.result) 0 ≡ count_at c.in_ok-marks.marks.items old
      looked = ap (λ o. option_map_or (λ (e : Ending). e.count) o 0) c.get.ensures.value ∙ ap (λ m. count_at m old) c.as_slice-2.ensures.value

      kept : c.match-get.count ≡ option_map_or (λ (e : Ending). e.count) (option_copied c.get.result) 0
      kept = elim c.match-get.branch [
        | in-None w ↦ w.count-is ∙ ap (λ o. option_map_or (λ (e : Ending). e.count) (option_copied o) 0) (sym w.in-None.is)
        | in-Some w ↦ w.count-is ∙ ap (λ o. option_map_or (λ (e : Ending). e.count) (option_copied o) 0) (sym w.in-Some.is)
      ]

pub invariant_of-self-2 : goal.invariant_of-self-2
invariant_of-self-2 c = subst (λ es. All IsMarked es) (sym (entries c)) (inserted_marked c.in_ok-marks.marks (new c) (marks c) (old c) c.self.invariant)

pub returns-clause-counts : goal.returns-clause-counts
returns-clause-counts c = λ test.
    ap (λ es. ended_so test (endings_of es)) (entries c) ∙ inserted_counts c.in_ok-marks.marks (new c) (marks c) test (old c) c.self.invariant (count c)
    ∙ ap (λ l. ended_so test l + cond (test c.args.outcomes.items) 1 0) c.self.view_is

pub returns-clause-apart : goal.returns-clause-apart
returns-clause-apart c = λ a.
    subst (λ es. AreApart (endings_of es)) (sym (entries c))
    (inserted_apart c.in_ok-marks.marks (new c) (marks c) (old c) c.self.invariant (subst (λ l. AreApart l) (sym c.self.view_is) a))
