-- What is told of a journal, taken one thing after the other, gives the state after it.
use Rattle.std.specs.Prelude.{option_to_list}
use Rattle.std.specs.List.{filter}
use Rattle.std.proofs.Common.{◌≡◌, not, ◌&&◌, List, [], ◌∷◌, ◌++◌, refl, sym, ap, ◌∙◌}
use Rattle.hib_base.specs.Tables.{Tables}
use Rattle.hib_journal.specs.Types.{Entry, Script}
use Rattle.hib_journal.specs.Coherence.{holders}
use Rattle.hib_journal.specs.Sessions.{Journal, changes}
use Rattle.hib_journal.specs.Slot.{key_in, touch_here}
use Rattle.hib_journal.specs.Stamps.{stamp}
use Rattle.hib_journal.specs.Sound.{leaves_calm}
use Rattle.hib_follow.specs.Cached.{cached}
use Rattle.hib_follow.specs.Holders.{locked_in}
use Rattle.hib_follow.specs.Newest.{tables_in}
use Rattle.hib_follow.specs.Touched.{touched_keys}
use Rattle.hib_states.specs.Facts.{Fact}
use Rattle.hib_states.specs.Last.{state_of, all_taken, all_facts, IsToldWhole}
use Rattle.hib_states.specs.States.{cached_facts, cause_in, committed_facts, copied_facts, expired_facts, facts, facts_after, holders_facts, is_guarded, kept_facts, restart_facts, reused_facts, session_facts, sessions_in, stamped_facts, unsound_facts, written_facts}
use Rattle.hib_states.proofs.Told.{written_is}
use Rattle.hib_states.proofs.Taken.{causes, copies_all, expired_all, holders_all, restarted, results_all, reused_at, rows_at, sessions_all, slots_all, stamps_all, then_taken, joined, written_at}
use Rattle.hib_states.proofs.Rests.{changes_next, floors_next, holders_next, open_next, rows_next, slots_next, stamps_next, times_next}
use Rattle.hib_states.proofs.Held.{copies_next}
use Rattle.hib_states.proofs.Sounds.{unsound_next}

entry_taken : (script : Script) (start : Tables) (h : Journal) (e : Entry) → all_taken (facts script start h e) (state_of script start h) ≡ state_of script start (e ∷ h)
entry_taken script start h e =
    then_taken (cause_in script h e.act e.reply) (unsound_facts script h e ++ (facts_after script start h e ++ copied_facts h e)) (causes script h e.act e.reply)
    (then_taken (unsound_facts script h e) (facts_after script start h e ++ copied_facts h e)
    (then_taken (expired_facts script e) (reused_facts script h e)
    (expired_all (filter (λ k. is_guarded script k && not (leaves_calm (touch_here e.act e.reply))) (option_to_list (key_in e.act)))) (reused_at script h e))
    (then_taken (facts_after script start h e) (copied_facts h e)
    (then_taken (restart_facts e.act) from_sessions (restarted e.act)
    (then_taken (session_facts h e) from_changes (sessions_all (e ∷ h) (sessions_in e.act e.session))
    (then_taken (written_facts h e) from_rows (λ s. ap (λ (fs : List Fact). all_taken fs s) (sym (written_is h e)) ∙ written_at e.act e.session s)
    (then_taken (committed_facts start h e) from_slots (rows_at start h e)
    (then_taken (cached_facts script h e) from_stamps (slots_all (λ k. cached script k (e ∷ h)) (touched_keys e))
    (then_taken (stamped_facts script h e) from_results (stamps_all (λ t. stamp script.timeout t (e ∷ h)) (tables_in e.act))
    (then_taken (kept_facts script h e) (holders_facts h e) (results_all script h e) (holders_all (λ k. holders k (e ∷ h)) (option_to_list (locked_in e.act))))))))))
    (copies_all h e)))
    (state_of script start h)
    ∙ (λ i. record {
      rows = λ j. rows_next start h e j i;
      slots = λ j. slots_next script h e j i;
      stamps = λ t. stamps_next script h e t i;
      opened = λ m. open_next h e m i;
      times = λ m. times_next h e m i;
      floors = λ m. floors_next h e m i;
      changes = λ m. changes_next h e m i;
      copies = λ m j. copies_next h e m j i;
      holders = λ j. holders_next h e j i;
      sound = λ j. unsound_next script h e j i;
    })
  where
    from_results : List Fact
    from_results = kept_facts script h e ++ holders_facts h e

    from_stamps : List Fact
    from_stamps = stamped_facts script h e ++ from_results

    from_slots : List Fact
    from_slots = cached_facts script h e ++ from_stamps

    from_rows : List Fact
    from_rows = committed_facts start h e ++ from_slots

    from_changes : List Fact
    from_changes = written_facts h e ++ from_rows

    from_sessions : List Fact
    from_sessions = session_facts h e ++ from_changes

pub told_whole : (script : Script) (start : Tables) (h : Journal) → IsToldWhole script start h
told_whole script start [] = refl
told_whole script start (e ∷ h) =
    joined (all_facts script start h) (facts script start h e) (state_of script start []) (state_of script start h) (state_of script start (e ∷ h)) (told_whole script start h)
    (entry_taken script start h e)
