-- The sessions of a legal journal follow it.
use Rattle.std.specs.Prelude.{nat_lt, slice_get, slice_set, unwrap_or}
use Rattle.std.specs.Option.{option_map_or}
use Rattle.std.proofs.Common.{◌≡◌, ◌⊎◌, ℕ, ◌<◌, ◌≤◌, ◌==◌, Bool, true, false, cond, List, [], ◌∷◌, length, get_or, Some, None, Option, refl, sym, ap, ◌∙◌, subst, arith, inl, inr, eq-eqb}
use Rattle.std.proofs.lemmas.Bool.{eqb-true, or_parts}
use Rattle.std.proofs.lemmas.Bool.Decides.{nat_tests}
use Rattle.std.proofs.lemmas.List.{length-set}
use Rattle.std.proofs.lemmas.Option.{none-some, same_Some, slice_get-get_or, slice_get_past}
use Rattle.hib_base.specs.Tables.{Tables}
use Rattle.hib_base.proofs.Tables.{Tested, tested}
use Rattle.hib_journal.specs.Types.{SessionDef, Script, Act, Reply, Entry, Mode}
use Rattle.hib_journal.specs.Sessions.{Journal, changes, own, is_open, was_killed, killed_by}
use Rattle.hib_journal.specs.Plan.{Plan, left_of, after, first_act}
use Rattle.hib_journal.specs.Next.{next, blocks, is_cached}
use Rattle.hib_journal.specs.Legal.{IsLegal, due_by, fault_of, is_outside, may_come, reply_of}
use Rattle.hib_journal.proofs.Inside.{inside}
use Rattle.hib_journal.proofs.Open.{killed_same}
use Rattle.hib_journal.proofs.Steps.{steps_in_order}
use Rattle.hib_session.specs.declared.session.Session.{Session}
use Rattle.hib_session.specs.Session.{Follows, IsTaken, number_of, own_reply}
use Rattle.hib_session.specs.Sessions.{AreSessions}
use Rattle.hib_session.proofs.OwnReplies.{own_is}
use Rattle.hib_session.proofs.Together.{placed_here, placed_there}
use Rattle.hib_states.specs.Seats.{AreSeats}

-- ---- an entry of a session

if_same : (t : Bool) (a b : Act) → cond t (Some a) None ≡ Some b → a ≡ b
if_same true a b e = same_Some a b e
if_same false a b e = absurd (none-some b e)

-- an act that may come is the one that was due
come_same : (script : Script) (h : Journal) (a b : Act) → may_come script h (Some a) ≡ Some b → a ≡ b
come_same script h (Act.Kill n) b e = if_same (is_open n h) (Act.Kill n) b e
come_same script h (Act.Evict k) b e = if_same (is_cached script k.entity) (Act.Evict k) b e
come_same script h _ b e = same_Some _ b e

over_left : (mine : Journal) → left_of Plan.Over mine ≡ Plan.Over
over_left [] = refl
over_left (e ∷ mine) = ap (λ p. after p e) (over_left mine)

none_next : (script : Script) (s : ℕ) (mine : Journal) → slice_get script.sessions s ≡ None → next script s mine ≡ None
unfolding next
none_next script s mine e = ap first_act (ap (λ (o : Option SessionDef). left_of (blocks script Mode.Normal true (option_map_or (λ d. d.statements) o []) []) mine) e ∙ over_left mine)

-- a session in which an act is due the script has
next_within : (script : Script) (s : ℕ) (mine : Journal) (a : Act) → next script s mine ≡ Some a → s < length script.sessions
next_within script s mine a e = by (tested (nat_lt s (length script.sessions)))
  where
    by : Tested (nat_lt s (length script.sessions)) → s < length script.sessions
    by (inl p) = grind (arith, nat_tests, p)
    by (inr p) =
        let l : length script.sessions ≤ s = grind (arith, nat_tests, p) in
        absurd (none-some a (sym (none_next script s mine (slice_get_past script.sessions s l)) ∙ e))

own_fault : (script : Script) (h : Journal) (s : ℕ) (a : Act) (r f : Reply) → own_reply script (own s h) a ≡ Some r → fault_of (changes s h) a ≡ Some f → ⊥
own_fault script h s (Act.Load k) r f o q = none-some r o
own_fault script h s (Act.List n) r f o q = none-some r o
own_fault script h s Act.Commit r f o q = none-some r o
own_fault script h s _ r f o q = none-some f q

pub record IsOwn (script : Script) (h : Journal) (s : ℕ) (e : Entry) : Type 0 where
  pub live : was_killed s h ≡ false
  pub after : was_killed s (e ∷ h) ≡ false
  pub inside : is_outside e.act ≡ false
  pub within : s < length script.sessions
  pub taken : IsTaken script s (own s h) e

pub own_of : (script : Script) (start : Tables) (h : Journal) (s : ℕ) (e : Entry) → IsLegal script (Some start) (e ∷ h) → e.session ≡ Some s → IsOwn script h s e
own_of script start h s e l p = by (was_killed s h) refl
  where
    due : Option Act
    due = due_by script h (Some s) e.act

    comes : may_come script h due ≡ Some e.act
    comes = subst (λ (o : Option ℕ). may_come script h (due_by script h o e.act) ≡ Some e.act) p l.1.act

    none_comes : due ≡ None → ⊥
    none_comes q = none-some e.act (sym (ap (may_come script h) q) ∙ comes)

    reply : (e.reply ≡ reply_of script start h s e.tick e.act) ⊎ (fault_of (changes s h) e.act ≡ Some e.reply)
    reply = subst (λ (o : Option ℕ). (e.reply ≡ reply_of script start h (unwrap_or o 0) e.tick e.act) ⊎ (fault_of (changes (unwrap_or o 0) h) e.act ≡ Some e.reply)) p l.1.reply

    own_reply_is : (r : Reply) → own_reply script (own s h) e.act ≡ Some r → e.reply ≡ r
    own_reply_is r o = on reply
      where
        on : (e.reply ≡ reply_of script start h s e.tick e.act) ⊎ (fault_of (changes s h) e.act ≡ Some e.reply) → e.reply ≡ r
        on (inl q) = q ∙ sym (own_is script h s e.tick e.act r o start)
        on (inr q) = absurd (own_fault script h s e.act r e.reply o q)

    by : (k : Bool) → was_killed s h ≡ k → IsOwn script h s e
    by true q = absurd (none_comes (ap (λ b. cond b None (next script s (own s h))) q))
    by false q = on (next script s (own s h)) refl
      where
        same : due ≡ next script s (own s h)
        same = ap (λ b. cond b None (next script s (own s h))) q

        on : (o : Option Act) → next script s (own s h) ≡ o → IsOwn script h s e
        on None n = absurd (none_comes (same ∙ n))
        on (Some a) n =
            let is : a ≡ e.act = come_same script h a e.act (sym (ap (may_come script h) (same ∙ n)) ∙ comes) in
            let next_is : next script s (own s h) ≡ Some e.act = n ∙ ap Some is in
            let within_plan : is_outside e.act ≡ false = inside script s (own s h) e.act (steps_in_order script (Some start) s h l.0) next_is in
            record {
              live = q;
              after = killed_same s e h within_plan ∙ q;
              inside = within_plan;
              within = next_within script s (own s h) e.act next_is;
              taken = record { due = next_is; own = own_reply_is };
            }

-- ---- the sessions

pub seats_first : (script : Script) (ys : List Session) → AreSessions script [] ys → AreSeats script [] ys
seats_first script ys w = record { all = w.all; numbers = w.numbers; follow = w.follow }

own_self : (s : ℕ) (e : Entry) (h : Journal) → e.session ≡ Some s → own s (e ∷ h) ≡ e ∷ own s h
own_self s e h p = rw p (rw (eq-eqb s s refl) refl)

own_other : (s n : ℕ) (e : Entry) (h : Journal) → e.session ≡ Some s → (s == n) ≡ false → own n (e ∷ h) ≡ own n h
own_other s n e h p d = rw p (rw d refl)

own_outside : (n : ℕ) (e : Entry) (h : Journal) → e.session ≡ None → own n (e ∷ h) ≡ own n h
own_outside n e h p = rw p refl

-- an entry of no session
pub seats_outside : (script : Script) (e : Entry) (h : Journal) (ys : List Session) → e.session ≡ None → AreSeats script h ys → AreSeats script (e ∷ h) ys
seats_outside script e h ys p w = record {
  all = w.all;
  numbers = w.numbers;
  follow = λ s y q live.
      subst (λ m. Follows script y m) (sym (own_outside s e h p)) (w.follow s y q (or_parts (killed_by s e.act (is_open s h)) (was_killed s h) live).1);
}

-- an entry of the session at s, which is now z
seats_step : (script : Script) (h : Journal) (s : ℕ) (e : Entry) (xs : List Session) (z : Session) → e.session ≡ Some s → AreSeats script h xs →
    s < length xs → number_of z ≡ s → is_outside e.act ≡ false → Follows script z (e ∷ own s h) → AreSeats script (e ∷ h) (slice_set xs s z)
seats_step script h s e xs z b w l k i f = record {
  all = length-set xs s z ∙ w.all;
  numbers = λ n y p. number n y p (tested (s == n));
  follow = λ n y p live. follow n y p (sym (killed_same n e h i) ∙ live) (tested (s == n));
}
  where
    number : (n : ℕ) (y : Session) → slice_get (slice_set xs s z) n ≡ Some y → Tested (s == n) → number_of y ≡ n
    number n y p (inl q) = let g : s ≡ n = eqb-true s n q in ap number_of (placed_here s n xs y z l p g) ∙ (k ∙ g)
    number n y p (inr q) = w.numbers n y (placed_there s n xs y z p q)

    follow : (n : ℕ) (y : Session) → slice_get (slice_set xs s z) n ≡ Some y → was_killed n h ≡ false → Tested (s == n) → Follows script y (own n (e ∷ h))
    follow n y p live (inl q) =
        let g : s ≡ n = eqb-true s n q in
        subst (λ m. Follows script y (own m (e ∷ h))) g
        (subst (λ v. Follows script v (own s (e ∷ h))) (sym (placed_here s n xs y z l p g)) (subst (λ m. Follows script z m) (sym (own_self s e h b)) f))
    follow n y p live (inr q) = subst (λ m. Follows script y m) (sym (own_other s n e h b q)) (w.follow n y (placed_there s n xs y z p q) live)

pub seat_taken : (script : Script) (h : Journal) (i s : ℕ) (e : Entry) (xs : List Session) (y z : Session) → i ≡ s → y ≡ get_or xs i y → e.session ≡ Some s → AreSeats script h xs →
    s < length xs → was_killed s h ≡ false → is_outside e.act ≡ false → IsTaken script s (own s h) e → number_of z ≡ number_of y →
    ((mine : Journal) → Follows script y mine → IsTaken script (number_of y) mine e → Follows script z (e ∷ mine)) → AreSeats script (e ∷ h) (slice_set xs i z)
seat_taken script h i s e xs y z g v b w l live o t m f =
    subst (λ j. AreSeats script (e ∷ h) (slice_set xs j z)) (sym g)
    (seats_step script h s e xs z b w l (m ∙ here) o (f (own s h) (w.follow s y place live) (subst (λ n. IsTaken script n (own s h) e) (sym here) t)))
  where
    place : slice_get xs s ≡ Some y
    place = slice_get-get_or xs s y l ∙ ap Some (sym (subst (λ n. y ≡ get_or xs n y) g v))

    here : number_of y ≡ s
    here = w.numbers s y place

-- an entry of a session that isn't there
pub seats_past : (script : Script) (start : Tables) (h : Journal) (s : ℕ) (e : Entry) (ys : List Session) → IsLegal script (Some start) (e ∷ h) → e.session ≡ Some s →
    AreSeats script h ys → length ys ≤ s → AreSeats script (e ∷ h) ys
seats_past script start h s e ys l p w far =
    let here : s < length script.sessions = (own_of script start h s e l p).within in
    let all : length ys ≡ length script.sessions = w.all in
    absurd (omega arith)

-- an entry that its session takes
pub seats_own : (script : Script) (start : Tables) (h : Journal) (s : ℕ) (e : Entry) (xs ys : List Session) → IsLegal script (Some start) (e ∷ h) → e.session ≡ Some s →
    AreSeats script h xs →
    ((g : Journal) → AreSeats script g xs → was_killed s g ≡ false → is_outside e.act ≡ false → IsTaken script s (own s g) e → AreSeats script (e ∷ g) ys) →
    AreSeats script (e ∷ h) ys
seats_own script start h s e xs ys l p w f = let o : IsOwn script h s e = own_of script start h s e l p in f h w o.live o.inside o.taken
