use Rattle.std.proofs.Common.{◌≡◌, ◌<◌, ◌≤◌, ◌+◌, cond, List, [], ◌∷◌, ◌++◌, length, take, sym, ap, ◌∙◌, arith}
use Rattle.std.specs.List.{flat_map, list_any}
use Rattle.std.proofs.lemmas.List.{take_more, take_all}
use Rattle.hib_base.specs.Keys.{same_key}
use Rattle.hib_base.specs.Tables.{key_of}
use Rattle.hib_journal.specs.Types.{Key, Act}
use Rattle.hib_completion.specs.Completed.{acts_of, key_acts}
use Rattle.hib_completion.proofs.Few.{gathered, gathered_all, few_more}
use Rattle.hib_completion.proofs.Noted.{got_at}
use Rattle.hib_completion.proofs.Rising.{alone, none_ahead}
use Rattle.hib_completion.proofs.completing.risen_completed.Goals as goal

pub loop-place-preserved : goal.loop-place-preserved
loop-place-preserved c =
    let f : Key → List Act = λ k. key_acts c.args.mapping.now c.args.changes.now c.args.locks.now.entries c.args.done c.args.floor k in
    let cs = c.args.changes.now in
    let i = c.loop-place.place in
    let x = c.index-changes-place.result in
    let less : i < length cs = omega (arith, c.loop-place-test.true, c.loop-place.auto.place-end) in
    let at = got_at cs i x less c.index-changes-place.is in
    let past : take (i + 1) cs ≡ take i cs ++ x ∷ [] = take_more cs i x less ∙ ap (λ d. take i cs ++ d ∷ []) (sym c.index-changes-place.is) in
    let new = none_ahead cs i x at c.requires in
    let more : acts_of c.in_ok-act.act ≡ cond (list_any (λ d. same_key (key_of d) (key_of x)) (take i cs)) [] (f (key_of x)) =
    c.in_ok-act.ensures ∙ alone c.args.mapping.now c.args.locks.now.entries c.args.done c.args.floor cs i x at c.requires ∙ sym (ap (λ b. cond b [] (f (key_of x))) new) in
    c.in_ok-add.ensures
    ∙ (ap (λ (a : List Act). a ++ acts_of c.in_ok-act.act) c.loop-place.invariant
    ∙ (few_more f (take i cs) x (acts_of c.in_ok-act.act) more ∙ ap (λ ds. flat_map f (gathered [] ds)) (sym past)))

pub returns : goal.returns
returns c =
    let f : Key → List Act = λ k. key_acts c.args.mapping.now c.args.changes.now c.args.locks.now.entries c.args.done c.args.floor k in
    let cs = c.args.changes.now in
    let all : length cs ≤ c.loop-place.place = omega (arith, c.loop-place-test.false, c.loop-place.auto.place-end) in
    c.loop-place.invariant ∙ ap (λ ks. flat_map f ks) (ap (gathered []) (take_all c.loop-place.place cs all) ∙ gathered_all cs)
