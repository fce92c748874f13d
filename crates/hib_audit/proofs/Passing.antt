-- What the points of an entry come to, but for its reply.
use Rattle.std.specs.Prelude.{unwrap_or, option_map, is_some}
use Rattle.std.proofs.Common.{◌≡◌, Bool, true, false, cond, IsSome, Some, None, Option, refl, sym, ap, ◌∙◌, subst}
use Rattle.std.proofs.lemmas.Bool.{false≢true}
use Rattle.std.proofs.lemmas.Option.{none-some, same_Some}
use Rattle.hib_journal.specs.Types.{Script, Part, Act, Entry}
use Rattle.hib_journal.specs.Sessions.{Journal, IsTimely, is_open}
use Rattle.hib_journal.specs.Next.{is_cached}
use Rattle.hib_journal.specs.Legal.{IsReply, due, may_come, part_of}
use Rattle.hib_audit.specs.declared.points.AuditKind.{AuditKind}
use Rattle.hib_audit.specs.Breaks.{Breaks, start_rows}
use Rattle.hib_audit.specs.Standing.{AuditorState, Differs, IsAllowedFor, IsComing, IsPassed}

if_same : (t : Bool) (a b : Act) → cond t (Some a) None ≡ Some b → a ≡ b
if_same true a b e = same_Some a b e
if_same false a b e = absurd (none-some b e)

pub none_of : {A : Type 0} (o : Option A) → is_some o ≡ false → o ≡ None
none_of None p = refl
none_of (Some a) p = absurd (false≢true (sym p))

-- an act that may come is the one that was due
come_same : (script : Script) (h : Journal) (a b : Act) → may_come script h (Some a) ≡ Some b → a ≡ b
come_same script h (Act.Kill n) b e = if_same (is_open n h) (Act.Kill n) b e
come_same script h (Act.Evict k) b e = if_same (is_cached script k.entity) (Act.Evict k) b e
come_same script h _ b e = same_Some _ b e

-- no point is broken
pub coming_of : (script : Script) (h : Journal) (e : Entry) (a : Act) → IsTimely e h → due script h e ≡ Some a → Differs script h a e None → IsAllowedFor script h e.session a → IsComing script h e
coming_of script h e a t d f w = record {
  tick = t;
  due = d ∙ ap (λ (b : Act). Some b) same;
  part = subst (λ (b : Act). part_of b (unwrap_or e.session 0) ≡ e.part) same f.0;
  comes = subst (λ (b : Act). may_come script h (Some b) ≡ Some e.act) same f.1;
  allowed = subst (λ (b : Act). IsAllowedFor script h e.session b) same w;
}
  where
    same : a ≡ e.act
    same = come_same script h a e.act f.1

there : (script : Script) (h : Journal) (e : Entry) (a : Act) → due script h e ≡ Some a → IsSome (due script h e)
there script h e a d = subst (λ (o : Option Act). IsSome o) (sym d) refl

part_at : (script : Script) (h : Journal) (e : Entry) (a : Act) → due script h e ≡ Some a →
    option_map (λ b. part_of b (unwrap_or e.session 0)) (due script h e) ≡ Some (part_of a (unwrap_or e.session 0))
part_at script h e a d = ap (λ (o : Option Act). option_map (λ b. part_of b (unwrap_or e.session 0)) o) d

act_at : (script : Script) (h : Journal) (e : Entry) (a : Act) → due script h e ≡ Some a → may_come script h (due script h e) ≡ may_come script h (Some a)
act_at script h e a d = ap (λ (o : Option Act). may_come script h o) d

-- the part or the act is another
pub differs_at : (script : Script) (h : Journal) (e : Entry) (x : AuditorState) (a : Act) (o : Option AuditKind) → IsTimely e h → due script h e ≡ Some a → Differs script h a e o → is_some o ≡ true →
    IsPassed script (start_rows script) h e o x
differs_at script h e x a None t d f s = absurd (false≢true s)
differs_at script h e x a (Some AuditKind.Tick) t d f s = absurd f
differs_at script h e x a (Some AuditKind.Session) t d f s = absurd f
differs_at script h e x a (Some AuditKind.Part) t d f s = λ _. (t, there script h e a d, λ p. f (same_Some _ _ (sym (part_at script h e a d) ∙ p)))
differs_at script h e x a (Some AuditKind.Act) t d f s = λ _.
    (t, there script h e a d, part_at script h e a d ∙ ap (λ (p : Part). Some p) f.0, λ p. f.1 (sym (act_at script h e a d) ∙ p))
differs_at script h e x a (Some AuditKind.Reply) t d f s = absurd f

-- the reply is none that may be
pub reply_breaks : (script : Script) (h : Journal) (e : Entry) → IsComing script h e → (IsReply script (Some (start_rows script)) h e → ⊥) → Breaks script (start_rows script) h e AuditKind.Reply
reply_breaks script h e c f =
    (c.tick, there script h e e.act c.due, part_at script h e e.act c.due ∙ ap (λ (p : Part). Some p) c.part, act_at script h e e.act c.due ∙ c.comes, f)
