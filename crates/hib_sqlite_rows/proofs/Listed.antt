-- One entry more of a list that is read.
use Rattle.std.proofs.Common.{◌≡◌, ◌<◌, ◌+◌, ℕ, zero, suc, ◌==◌, List, [], ◌∷◌, ◌++◌, take, length, get_or, refl, sym, ◌∙◌, ap, arith, inl, inr, append_assoc}
use Rattle.std.proofs.lemmas.Bool.{eqb-true}
use Rattle.std.proofs.lemmas.List.{take_more, get_or-map, length-map}
use Rattle.sqlite_value.specs.Order.{Row as SqlRow}
use Rattle.sqlite_rules.specs.Lists.{Has}
use Rattle.sqlite_rules.proofs.ListLemmas.{has_filtered}
use Rattle.hib_sqlite_rows.specs.Types.{Key, Row}
use Rattle.hib_base.specs.Tables.{Tables}
use Rattle.hib_sqlite_rows.specs.Body.{IsPackable}
use Rattle.hib_sqlite_rows.specs.Told.{rows_in}
use Rattle.hib_sqlite_rows.specs.Shown.{shown_entry, ShowsEntity}

has_get_or : {X : Type 0} (xs : List X) (i : ℕ) (d : X) → i < length xs → Has xs (get_or xs i d)
has_get_or [] i d h = absurd (omega arith)
has_get_or (x ∷ xs) zero d h = inl refl
has_get_or (x ∷ xs) (suc i) d h = inr (has_get_or xs i d (omega arith))

pub next_entry : (n : ℕ) (t : Tables) (rows : List SqlRow) (i : ℕ) (x : SqlRow) (e : Key × Row) (front list after : Tables) → ShowsEntity rows t n → list ≡ front ++ take i (rows_in n t) → i < length rows → x ≡ get_or rows i x
    → ((it : Key × Row) → it.0.entity ≡ n → IsPackable it.1.cells → x ≡ shown_entry it → e ≡ it) → after ≡ list ++ e ∷ [] → after ≡ front ++ take (i + 1) (rows_in n t)
next_entry n t rows i x e front list after shows so_far low is decoded push =
    let all = rows_in n t in
    let low_all : i < length all = omega (arith, ap length shows.rows_are, length-map all shown_entry) in
    let it : Key × Row = get_or all i e in
    let entity = eqb-true it.0.entity n (has_filtered (λ (y : Key × Row). y.0.entity == n) t it (has_get_or all i e low_all)).1 in
    let here : x ≡ shown_entry it = is ∙ ap (λ l. get_or l i x) shows.rows_are ∙ get_or-map shown_entry all i e x low_all in
    push ∙ ap (λ l. l ++ e ∷ []) so_far ∙ append_assoc front (take i all) (e ∷ []) ∙ ap (λ y. front ++ (take i all ++ y ∷ [])) (decoded it entity (shows.packable i e low_all) here)
    ∙ ap (λ l. front ++ l) (sym (take_more all i e low_all))
