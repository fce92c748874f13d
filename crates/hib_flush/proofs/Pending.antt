-- What is planned of instances is what the entries that they stand for leave pending.
use Rattle.std.proofs.Common.{◌≡◌, List, [], ◌∷◌, map, Some, None, Option, refl, sym, ap, ◌∙◌}
use Rattle.std.specs.List.{filter_map}
use Rattle.hib_journal.specs.Types.{Key, Change, Held}
use Rattle.hib_journal.specs.Sessions.{Journal}
use Rattle.hib_journal.specs.Held as held
use Rattle.hib_journal.proofs.Shapes as shapes
use Rattle.hib_journal.specs.Held.{Instance, arrived, removed, pending}
use Rattle.hib_identity_map.specs.Identity.{MapState, Pairs, look_in}
use Rattle.hib_identity_map.specs.Holds.{shown, shown_by, held_in, Holds}
use Rattle.hib_dirty_check.specs.Changed.{insert_of, update_of}
use Rattle.hib_flush.specs.Planned.{planned, delete_held}

fused : (c : Option Instance → Option Change) (f : Key → Option Instance) (ks : List Key) → c None ≡ None →
    filter_map (λ k. c (f k)) ks ≡ filter_map (λ i. c (Some i)) (filter_map f ks)
fused c f [] n = refl
fused c f (k ∷ ks) n = at_key (f k) refl (fused c f ks n)
  where
    at_key : (o : Option Instance) → f k ≡ o → filter_map (λ k. c (f k)) ks ≡ filter_map (λ i. c (Some i)) (filter_map f ks) →
        filter_map (λ k. c (f k)) (k ∷ ks) ≡ filter_map (λ i. c (Some i)) (filter_map f (k ∷ ks))
    at_key None e i = rw (e, n) i
    at_key (Some x) e i = rw (e, i) refl

shown_changes : (c : Key × Held → Option Change) (d : Option Instance → Option Change) (ps : List (Key × Held)) → ((p : Key × Held) → c p ≡ d (Some (shown p))) →
    filter_map c ps ≡ filter_map (λ i. d (Some i)) (map shown ps)
shown_changes c d [] h = refl
shown_changes c d (p ∷ ps) h = rw (h p, shown_changes c d ps h) refl

deletes_fused : (f : Key → Option Instance) (ps : Pairs) (ks : List Key) → ((k : Key) → held_in ps k ≡ f k) →
    filter_map (λ k. delete_held k (look_in ps k)) ks ≡ filter_map (λ k. shapes.delete_of (f k)) ks
deletes_fused f ps [] h = refl
deletes_fused f ps (k ∷ ks) h = rw (at_key (look_in ps k) ∙ ap shapes.delete_of (h k), deletes_fused f ps ks h) refl
  where
    at_key : (o : Option Held) → delete_held k o ≡ shapes.delete_of (shown_by k o)
    at_key None = refl
    at_key (Some x) = refl

pub pending_kept : (s : MapState) (m : Journal) → Holds s.held m → s.removals ≡ removed m → planned s ≡ pending m
unfolding pending
pending_kept s m h r =
    let i : filter_map (λ p. insert_of p.0 p.1) s.held ≡ filter_map (λ k. shapes.insert_of (held.held m k)) (arrived m) =
    shown_changes (λ p. insert_of p.0 p.1) shapes.insert_of s.held (λ q. refl) ∙ ap (filter_map (λ i. shapes.insert_of (Some i))) h.order
    ∙ sym (fused shapes.insert_of (λ k. held.held m k) (arrived m) refl) in
    let u : filter_map (λ p. update_of p.0 p.1) s.held ≡ filter_map (λ k. shapes.update_of (held.held m k)) (arrived m) =
    shown_changes (λ p. update_of p.0 p.1) shapes.update_of s.held (λ q. refl) ∙ ap (filter_map (λ i. shapes.update_of (Some i))) h.order
    ∙ sym (fused shapes.update_of (λ k. held.held m k) (arrived m) refl) in
    let d : filter_map (λ k. delete_held k (look_in s.held k)) s.removals ≡ filter_map (λ k. shapes.delete_of (held.held m k)) (removed m) =
    deletes_fused (λ k. held.held m k) s.held s.removals h.instances ∙ ap (filter_map (λ k. shapes.delete_of (held.held m k))) r in
    rw (i, u, d) refl
