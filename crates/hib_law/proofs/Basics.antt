-- Small facts that many files use: what is one constructor is not another, and the reply that is due if no fault may be.
use Rattle.std.specs.Prelude.{unwrap_or}
use Rattle.std.proofs.Common.{◌≡◌, inl, inr, List, Some, None, Option, sym, ◌∙◌, subst}
use Rattle.hib_journal.specs.Types.{Change, Script, Act, Entry}
use Rattle.hib_base.specs.Tables.{Tables}
use Rattle.hib_journal.specs.Sessions.{Journal, changes}
use Rattle.hib_journal.specs.Legal.{IsReply, reply_of, fault_of}

pub some_same : {A : Type 0} {a b : A} → Some a ≡ Some b → a ≡ b
some_same e = cc

pub none_some : {A : Type 0} {a : A} {P : Type 0} → ◌≡◌ {A = Option A} None (Some a) → P
none_some e = absurd (no e)
  where
    no : {A : Type 0} {a : A} → ◌≡◌ {A = Option A} None (Some a) → ⊥
    no e = cc

-- the reply to an act to which no fault may be answered
pub replied : (script : Script) (start : Tables) (h : Journal) (e : Entry) (a : Act) → IsReply script (Some start) h e → e.act ≡ a →
    ((cs : List Change) → fault_of cs a ≡ None) → e.reply ≡ reply_of script start h (unwrap_or e.session 0) e.tick a
replied script start h e a r p n = elim r [
  | inl q ↦ subst (λ x. e.reply ≡ reply_of script start h (unwrap_or e.session 0) e.tick x) p q
  | inr f ↦ none_some (sym (n (changes (unwrap_or e.session 0) h)) ∙ subst (λ x. fault_of (changes (unwrap_or e.session 0) h) x ≡ Some e.reply) p f)
]
