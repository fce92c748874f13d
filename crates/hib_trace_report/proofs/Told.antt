-- Counts of judgements.
use Rattle.std.proofs.Common.{◌≡◌, ℕ, suc, List, [], ◌∷◌, ◌++◌, length, refl, ap, ◌∙◌, arith}
use Rattle.std.specs.Prelude.{Option}
use Rattle.std.specs.List.{AllZip}
use Rattle.hib_trace_lines.specs.Events.{EventText}
use Rattle.hib_trace_findings.specs.declared.kinds.Judgement.{Judgement}
use Rattle.hib_trace_numbers.specs.Texts.{texts}
use Rattle.hib_trace_calls.specs.Numbers.{IsCall}
use Rattle.hib_trace_judge.specs.Lines.{IsCallJudged}
use Rattle.hib_trace_judge.specs.Told.{told_writes}
use Rattle.hib_trace_judge.specs.Traces.{IsJudgedTrace}
use Rattle.hib_trace_filed.specs.declared.limits.Limits.{Limits}
use Rattle.hib_trace_report.specs.Asked.{masked}
use Rattle.hib_trace_report.specs.Lines.{report_text}

zip_count : {A B : Type 0} (R : A → B → Type 0) (xs : List A) (ys : List B) → AllZip R xs ys → length ys ≡ length xs
zip_count R [] [] p = refl
zip_count R [] (w ∷ ys) p = absurd p
zip_count R (v ∷ xs) [] p = absurd p
zip_count R (v ∷ xs) (w ∷ ys) p = ap suc (zip_count R xs ys p.1)

pub judged_count : (m : Limits) (es : List EventText) (js : List (Option Judgement)) → IsJudgedTrace m es js → length js ≡ length es
judged_count m es js i =
    zip_count (IsCallJudged m i.none i.calls (told_writes m.clock (length (texts i.named.keys)) i.calls)) i.calls js i.judged ∙ zip_count (IsCall i.named) es i.calls i.are

pub masked_count : (key : Option (List ℕ)) (es : List EventText) (js : List (Option Judgement)) → length js ≡ length es → length (masked key es js) ≡ length es
masked_count key [] js n = refl
masked_count key (e ∷ es) [] n = absurd (omega (arith, n))
masked_count key (e ∷ es) (j ∷ js) n = ap suc (masked_count key es js (omega (arith, n)))

pub told_is : (t s : List ℕ) (m : Limits) (most : ℕ) (es fs : List EventText) (js ks : List (Option Judgement)) → t ≡ s ++ report_text m most fs ks → s ≡ [] → fs ≡ es →
    ks ≡ js → t ≡ report_text m most es js
told_is t s m most es fs js ks p q e f =
    p ∙ ap (λ u. u ++ report_text m most fs ks) q ∙ ap (λ us. report_text m most us ks) e ∙ ap (report_text m most es) f

pub masked_is : (key : Option (List ℕ)) (es fs : List EventText) (js ks hs ls : List (Option Judgement)) → ls ≡ hs → hs ≡ masked key fs ks → fs ≡ es → ks ≡ js →
    ls ≡ masked key es js
masked_is key es fs js ks hs ls p q e f = p ∙ q ∙ ap (λ us. masked key us ks) e ∙ ap (masked key es) f
