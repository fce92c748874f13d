-- The words of a text that is UTF-8, and of one that isn't.
use Rattle.std.proofs.Common.{◌≡◌, ℕ, List, [], refl, true, false}
use Rattle.std.specs.Str.{IsUtf8, is_utf8}
use Rattle.std.specs.Str.Lines.{lines}
use Rattle.std.proofs.lemmas.Str.{is_utf8-from_IsUtf8, IsUtf8-from_is_utf8}
use Rattle.hib_embed.specs.Words.{words_in}

is_utf8-false : (text : List ℕ) → (IsUtf8 text → ⊥) → is_utf8 text ≡ false
is_utf8-false text none =
    elim (is_utf8 text) as (λ b. is_utf8 text ≡ b → b ≡ false)
    [ true ↦ λ e. absurd (none (IsUtf8-from_is_utf8 _ e)) | false ↦ λ e. refl ] refl

pub words_in-utf8 : (text : List ℕ) → IsUtf8 text → lines text ≡ words_in text
unfolding words_in
words_in-utf8 text is = rw (is_utf8-from_IsUtf8 text is) refl

pub words_in-other : (text : List ℕ) → (IsUtf8 text → ⊥) → [] ≡ words_in text
unfolding words_in
words_in-other text none = rw (is_utf8-false text none) refl
