-- Names, numbers, versions and keys that were written after a space are read again.
use Rattle.std.proofs.Common.{◌≡◌, ℕ, ◌^◌, ◌<◌, List, [], ◌∷◌, ◌++◌, Option, refl, ap, sym, ◌∙◌, true, arith, append_assoc, length, nat_lt}
use Rattle.std.specs.Fmt.{decimal}
use Rattle.std.proofs.lemmas.List.{append-nil}
use Rattle.std.proofs.lemmas.Bool.Decides.{nat_tests}
use Rattle.hib_base.specs.Fits.{is_identifier}
use Rattle.hib_journal.specs.Types.{Key, Row, Script}
use Rattle.hib_texts.specs.Texts.{key_text, entity_text, version_text, row_text}
use Rattle.hib_entry_fields.specs.Fields.{next, after, number_of, version_of, entity_of, key_at, after_key, row_at, cell_at}
use Rattle.hib_entry_fields.specs.Known.{is_key, is_tick}
use Rattle.hib_entry_fields.proofs.PieceLaws.{Stops, and_left, and_right, next_again, after_again, decimal_plain, number_again}
use Rattle.hib_entry_fields.proofs.CellLaws.{IsVersion, IsRow, Ends, version_plain, version_again, row_again}
use Rattle.hib_entry_fields.proofs.NameLaws.{IsName, IsEntity, IsNamed, known_entity}

-- ---- small numbers

pub lt_from : (a b : ℕ) → nat_lt a b ≡ true → a < b
lt_from a b h = grind (arith, nat_tests)

pub tick_small : (t : ℕ) → is_tick t ≡ true → t < 2 ^ 64
tick_small t h = grind (arith, nat_tests)

pub identifier_small : (i : ℕ) → is_identifier i ≡ true → i < 2 ^ 64
identifier_small i h = grind (arith, nat_tests)

-- ---- names and numbers after a space

pub name_next : (of : List ℕ → ℕ) (text : List ℕ) (n : ℕ) (rest : List ℕ) → IsName of text n → Stops rest → of (next (32 ∷ (text ++ rest))) ≡ n
name_next of text n rest h s = ap of (next_again text rest h.plain s) ∙ h.back

pub name_end : (of : List ℕ → ℕ) (text : List ℕ) (n : ℕ) → IsName of text n → of (next (32 ∷ text)) ≡ n
name_end of text n h = ap (λ (t : List ℕ). of (next (32 ∷ t))) (sym (append-nil text)) ∙ name_next of text n [] h tt

pub number_next : (n : ℕ) (rest : List ℕ) → n < 2 ^ 64 → Stops rest → number_of (next (32 ∷ (decimal n ++ rest))) ≡ n
number_next n rest lt s = ap number_of (next_again (decimal n) rest (decimal_plain n lt) s) ∙ number_again n lt

pub number_end : (n : ℕ) → n < 2 ^ 64 → number_of (next (32 ∷ decimal n)) ≡ n
number_end n lt = ap (λ (t : List ℕ). number_of (next (32 ∷ t))) (sym (append-nil (decimal n))) ∙ number_next n [] lt tt

pub version_next : (v : Option ℕ) (rest : List ℕ) → IsVersion v → Stops rest → version_of (next (32 ∷ (version_text v ++ rest))) ≡ v
version_next v rest h s = ap version_of (next_again (version_text v) rest (version_plain v h) s) ∙ version_again v h

pub version_end : (v : Option ℕ) → IsVersion v → version_of (next (32 ∷ version_text v)) ≡ v
version_end v h = ap (λ (t : List ℕ). version_of (next (32 ∷ t))) (sym (append-nil (version_text v))) ∙ version_next v [] h tt

-- ---- keys

pub record IsKey (script : Script) (k : Key) : Type 0 where
  pub entity : IsEntity script k.entity
  pub id : k.id < 2 ^ 64

pub known_key : (script : Script) (k : Key) → IsNamed script → is_key script k ≡ true → IsKey script k
known_key script k h w = record {
  entity = known_entity script k.entity h (lt_from k.entity (length script.mapping) (and_left (nat_lt k.entity (length script.mapping)) (is_identifier k.id) w));
  id = identifier_small k.id (and_right (nat_lt k.entity (length script.mapping)) (is_identifier k.id) w);
}

key_split : (script : Script) (k : Key) (rest : List ℕ) → key_text script k ++ rest ≡ entity_text script k.entity ++ (32 ∷ (decimal k.id ++ rest))
key_split script k rest = simp append_assoc

key_by : (e i : ℕ) (k : Key) → e ≡ k.entity → i ≡ k.id → record { entity = e; id = i } ≡ k
key_by e i k p q = rw (p, q) refl

name_behind : (script : Script) (k : Key) (rest : List ℕ) → IsKey script k → after (32 ∷ (key_text script k ++ rest)) ≡ 32 ∷ (decimal k.id ++ rest)
name_behind script k rest h =
    ap (λ (t : List ℕ). after (32 ∷ t)) (key_split script k rest) ∙ after_again (entity_text script k.entity) (32 ∷ (decimal k.id ++ rest)) h.entity.plain refl

pub key_again : (script : Script) (k : Key) (rest : List ℕ) → IsKey script k → Stops rest → key_at script (32 ∷ (key_text script k ++ rest)) ≡ k
unfolding key_at
key_again script k rest h s =
    key_by _ _ k
    (ap (λ (t : List ℕ). entity_of script (next (32 ∷ t))) (key_split script k rest) ∙ name_next (entity_of script) (entity_text script k.entity) k.entity (32 ∷ (decimal k.id ++ rest)) h.entity refl)
    (ap (λ (t : List ℕ). number_of (next t)) (name_behind script k rest h) ∙ number_next k.id rest h.id s)

pub after_key_again : (script : Script) (k : Key) (rest : List ℕ) → IsKey script k → Stops rest → after_key (32 ∷ (key_text script k ++ rest)) ≡ rest
unfolding after_key
after_key_again script k rest h s =
    ap after (name_behind script k rest h) ∙ after_again (decimal k.id) rest (decimal_plain k.id h.id) s

pub key_end : (script : Script) (k : Key) → IsKey script k → key_at script (32 ∷ key_text script k) ≡ k
key_end script k h = ap (λ (t : List ℕ). key_at script (32 ∷ t)) (sym (append-nil (key_text script k))) ∙ key_again script k [] h tt

-- ---- rows at the end

pub nothing_ends : Ends []
unfolding cell_at
nothing_ends = record { stops = tt; none = refl }

pub row_end : (r : Row) → IsRow r → row_at (32 ∷ row_text r) ≡ r
row_end r h = ap (λ (t : List ℕ). row_at (32 ∷ t)) (sym (append-nil (row_text r))) ∙ row_again r [] h nothing_ends
