-- The last ticks of a journal, and an entry after them.
use Rattle.std.proofs.Common.{◌≡◌, ℕ, ◌≤◌, ◌<◌, ◌^◌, ◌&&◌, true, false, nat_le, nat_lt, refl, sym, ◌∙◌, subst, arith}
use Rattle.std.proofs.lemmas.Bool.{true≢false, and_parts, and_from}
use Rattle.std.proofs.lemmas.Bool.Decides.{nat_tests}
use Rattle.hib_journal.specs.Types.{Entry}
use Rattle.hib_journal.specs.Sessions.{Journal, IsTimely}
use Rattle.hib_clock.specs.LastTicks.{TicksState, AreLast, part_last, session_last}
use Rattle.hib_audit.specs.Standing.{is_after}

le-true : (a b : ℕ) → nat_le a b ≡ true → a ≤ b
le-true a b p = grind (arith, nat_tests, p)

lt-true : (a b : ℕ) → nat_lt a b ≡ true → a < b
lt-true a b p = grind (arith, nat_tests, p)

true-le : (a b : ℕ) → a ≤ b → nat_le a b ≡ true
true-le a b p = grind (arith, nat_tests, p)

true-lt : (a b : ℕ) → a < b → nat_lt a b ≡ true
true-lt a b p = grind (arith, nat_tests, p)

top : 2 ^ 62 ≡ 4611686018427387904
top = refl

pub after_bounded : (x : TicksState) (e : Entry) → is_after x e ≡ true → e.tick ≤ 2 ^ 62
after_bounded x e p = le-true e.tick 4611686018427387904 (and_parts (nat_le e.tick 4611686018427387904) _ (and_parts (nat_le 1 e.tick) _ p).1).0

pub after_timely : (h : Journal) (x : TicksState) (e : Entry) → AreLast x h → is_after x e ≡ true → IsTimely e h
after_timely h x e w p =
    let a = and_parts (nat_le 1 e.tick) (nat_le e.tick 4611686018427387904 && (nat_le x.last e.tick && (nat_lt (part_last x e.part) e.tick && nat_lt (session_last x e.session) e.tick))) p in
    let b = and_parts (nat_le e.tick 4611686018427387904) (nat_le x.last e.tick && (nat_lt (part_last x e.part) e.tick && nat_lt (session_last x e.session) e.tick)) a.1 in
    let c = and_parts (nat_le x.last e.tick) (nat_lt (part_last x e.part) e.tick && nat_lt (session_last x e.session) e.tick) b.1 in
    let d = and_parts (nat_lt (part_last x e.part) e.tick) (nat_lt (session_last x e.session) e.tick) c.1 in
    record {
      positive = le-true 1 e.tick a.0;
      bounded = le-true e.tick 4611686018427387904 b.0;
      ordered = subst (λ n. n ≤ e.tick) w.last (le-true x.last e.tick c.0);
      in_part = subst (λ n. n < e.tick) (w.parts e.part) (lt-true (part_last x e.part) e.tick d.0);
      in_session = subst (λ n. n < e.tick) (w.sessions e.session) (lt-true (session_last x e.session) e.tick d.1);
    }

pub timely_after : (h : Journal) (x : TicksState) (e : Entry) → AreLast x h → IsTimely e h → is_after x e ≡ true
timely_after h x e w t =
    and_from (nat_le 1 e.tick) _ (true-le 1 e.tick t.positive)
    (and_from (nat_le e.tick 4611686018427387904) _ (true-le e.tick 4611686018427387904 t.bounded)
    (and_from (nat_le x.last e.tick) _ (true-le x.last e.tick (subst (λ n. n ≤ e.tick) (sym w.last) t.ordered))
    (and_from (nat_lt (part_last x e.part) e.tick) _ (true-lt (part_last x e.part) e.tick (subst (λ n. n < e.tick) (sym (w.parts e.part)) t.in_part))
    (true-lt (session_last x e.session) e.tick (subst (λ n. n < e.tick) (sym (w.sessions e.session)) t.in_session)))))

pub not_timely : (h : Journal) (x : TicksState) (e : Entry) → AreLast x h → is_after x e ≡ false → IsTimely e h → ⊥
not_timely h x e w p t = true≢false (sym (timely_after h x e w t) ∙ p)
