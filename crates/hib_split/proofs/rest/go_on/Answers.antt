use Rattle.std.proofs.Common.{◌≡◌, ◌≤◌, ◌+◌, ℕ, List, length, map, false, is_err, refl, sym, ap, ◌∙◌, subst}
use Rattle.std.proofs.lemmas.Bool.{true≢false}
use Rattle.std.specs.Vec.{vec_len, vec_capacity}
use Rattle.hib_journal.specs.Next.{is_cached}
use Rattle.hib_journal.specs.Kept.{Kept, past}
use Rattle.hib_journal.specs.Sessions.{Journal}
use Rattle.hib_journal.specs.Types.{Part}
use Rattle.hib_engines.specs.Counts.{RoseWithin}
use Rattle.hib_split_law.specs.Apart.{store_ask_count}
use Rattle.hib_split_law.specs.Merged.{of_part_in}
use Rattle.hib_split.specs.Alone.{IsToldBy}
use Rattle.hib_parts.specs.Run.{part_lists}
use Rattle.hib_split.specs.Gathered.{AscendFrom}
use Rattle.hib_split.proofs.Gathered.{ascend_picked, listed}
use Rattle.hib_split.proofs.OneByOne.{lists_one_by_one, none_so_far}
use Rattle.hib_split.proofs.Whole.{lists_whole, none_yet, ok_then}
use Rattle.hib_split.proofs.Moved.{as_many}
use Rattle.hib_split.proofs.rest.go_on.Given.{Over}
use Rattle.hib_split.proofs.rest.go_on.Goals as goal
use Rattle.hib_split.proofs.rest.go_on.Goals.{After-drop-aside, then-ran_out, else-ran_out}

pub add_shared-keeper-requires-clause-ascend : goal.add_shared-keeper-requires-clause-ascend
add_shared-keeper-requires-clause-ascend g c =
    let script = g.N.Name.script in
    subst (λ (ns : List ℕ). AscendFrom 0 ns) (sym (c.end_sessions-ran_out.ensures.entities ∙ c.requires.entities)) (ascend_picked (λ (n : ℕ). is_cached script n) 0 (length script.mapping))

pub add_shared-keeper-requires-clause-room : goal.add_shared-keeper-requires-clause-room
add_shared-keeper-requires-clause-room g c =
    let old = c.args.parts.regions in
    let new = c.end_sessions-ran_out.new.parts.regions in
    let same : vec_len new ≡ vec_len old = new.ok.0 ∙ (as_many (λ r. r.entity) new.items old.items c.end_sessions-ran_out.ensures.entities ∙ sym old.ok.0) in
    subst (λ (n : ℕ). vec_len c.args.lists + (n + 4) ≤ vec_capacity c.args.lists) (sym same) c.requires.room

pub returns-clause-listed : goal.returns-clause-listed
returns-clause-listed g c =
    let h = c.add_own_lists-own.ensures.gathered in
    listed g.N.Name.script g.N.Name.from.tables c.from_vec.result c.add_own_lists-own.new.lists.items c.from_vec-2.result c.end_sessions-ran_out.new.mine.items h.0 c.from_vec.ensures c.from_vec-2.ensures h.1 c.end_sessions-ran_out.ensures.legal

-- memory didn't run out in a session
ended : (g : Over) (c : After-drop-aside g) → c.if-ran_out.result ≡ false → c.end_sessions-ran_out.result ≡ false
ended g c f = elim c.if-ran_out.branch [
  | then-ran_out w ↦ absurd (true≢false (sym w.if-ran_out.true ∙ (sym w.result-is ∙ f)))
  | else-ran_out w ↦ w.if-ran_out.false
]

pub returns-clause-told : goal.returns-clause-told
returns-clause-told g c =
    let e : of_part_in Part.Store (map past c.from_vec.result) ≡ of_part_in Part.Store (map past c.add_shared-keeper.new.lists.items) =
    ap (λ (ls : List Kept). of_part_in Part.Store (map past ls)) c.from_vec.ensures ∙ c.add_own_lists-own.ensures.shared Part.Store refl in
    subst (λ (l : Journal). IsToldBy g.N.Name.from l (g.K.Keeper.tables c.add_shared-keeper.result) (g.K.Keeper.faults c.add_shared-keeper.result)) (sym e) c.add_shared-keeper.ensures.told

pub returns-clause-asked : goal.returns-clause-asked
returns-clause-asked g c = λ f.
    let e : of_part_in Part.Store (map past c.from_vec.result) ≡ of_part_in Part.Store (map past c.add_shared-keeper.new.lists.items) =
    ap (λ (ls : List Kept). of_part_in Part.Store (map past ls)) c.from_vec.ensures ∙ c.add_own_lists-own.ensures.shared Part.Store refl in
    subst (λ (l : Journal). RoseWithin g.N.Name.from.asked (store_ask_count l) (g.K.Keeper.asked c.add_shared-keeper.result)) (sym e) (c.add_shared-keeper.ensures.asked (c.end_sessions-ran_out.ensures.going (ended g c f)))

-- nor when the own entries were added
added : (g : Over) (c : After-drop-aside g) → c.if-ran_out.result ≡ false → is_err c.add_own_lists-own.result ≡ false
added g c f = elim c.if-ran_out.branch [
  | then-ran_out w ↦ absurd (true≢false (sym w.if-ran_out.true ∙ (sym w.result-is ∙ f)))
  | else-ran_out w ↦ sym w.is_err.ensures.value ∙ (sym w.result-is ∙ f)
]

pub returns-clause-whole : goal.returns-clause-whole
returns-clause-whole g c = λ f a e x.
    let old = (part_lists c.args.parts) in
    lists_whole (part_lists c.end_sessions-ran_out.new.parts) c.from_vec.result c.add_own_lists-own.new.lists.items c.from_vec-2.result c.end_sessions-ran_out.new.mine.items c.as_slice.result.now (map past c.add_shared-keeper.new.lists.items)
    c.from_vec.ensures c.from_vec-2.ensures c.as_slice.ensures.value (c.end_sessions-ran_out.ensures.run (ended g c f) a e (none_yet old c.args.mine.items c.requires.mine x)) c.add_shared-keeper.ensures.parts c.add_own_lists-own.ensures.shared (ok_then c.add_own_lists-own.result _ (added g c f) c.add_own_lists-own.ensures.own)

pub returns-clause-order : goal.returns-clause-order
returns-clause-order g c = λ f a e v x.
    let old = (part_lists c.args.parts) in
    lists_one_by_one (part_lists c.end_sessions-ran_out.new.parts) c.from_vec.result c.add_own_lists-own.new.lists.items c.end_sessions-ran_out.new.mine.items c.as_slice.result.now (map past c.add_shared-keeper.new.lists.items)
    c.from_vec.ensures c.as_slice.ensures.value (c.end_sessions-ran_out.ensures.order (ended g c f) a e v (none_so_far old c.args.mine.items c.requires.mine x)) c.add_shared-keeper.ensures.parts c.add_own_lists-own.ensures.shared (ok_then c.add_own_lists-own.result _ (added g c f) c.add_own_lists-own.ensures.own)
