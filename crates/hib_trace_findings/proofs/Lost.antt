-- Why a lost update took effect on its row in no explanation.
use Rattle.std.proofs.Common.{◌≡◌, inl, inr, ℕ, List, Option, Some, None, refl, subst, sym}
use Rattle.hib_trace_law.specs.declared.commits.Commit.{Commit}
use Rattle.hib_trace_law.specs.Certain.{Placed, IsAmong, IsPlaced, IsExplained, IsUntil}
use Rattle.hib_trace_law.specs.Pairs.{RestsOn}
use Rattle.hib_traces.specs.Verdicts.{IsVerdict}
use Rattle.hib_traces.specs.declared.kinds.Verdict.{Verdict}
use Rattle.hib_traces.proofs.Certain.{old_is_false}
use Rattle.hib_trace_findings.specs.Updates.{rests_in, replaced_by, IsLost, IsLostUntil}

-- a commit that took effect on a row explains that this row was the committed one in its call
explained : (cs : List Commit) (xs : List Placed) → IsPlaced cs xs → (x : Placed) (row e : ℕ) → IsAmong x xs → x.commit.end ≡ Some e → RestsOn xs x row →
    IsExplained xs (rests_in x.commit row e)
explained cs xs p x row e m i r = record {
  source = r.source;
  row = r.is;
  at = x.at;
  since = p.since x m;
  until = subst (λ (o : Option ℕ). IsUntil o x.at) i (p.until x m);
  committed = record {
    among = r.among;
    made = r.made;
    last = λ y n. elim (r.last y n) [ inl q ↦ inl q.0 | inr q ↦ inr q ];
  };
}

is_some_old : (v : Verdict) (t : ℕ) → Some t ≡ replaced_by v → v ≡ Verdict.Old t
is_some_old Verdict.Unknown t e = absurd cc
is_some_old Verdict.Possible t e = absurd cc
is_some_old (Verdict.Old u) t e = cc
is_some_old Verdict.New t e = absurd cc

lost_until : (cs : List Commit) (c : Commit) (row t : ℕ) (o : Option ℕ) → c.end ≡ o → IsLostUntil cs c row o (Some t) →
    (xs : List Placed) → IsPlaced cs xs → (x : Placed) → IsAmong x xs → x.commit ≡ c → RestsOn xs x row → ⊥
lost_until cs c row t None e l xs p x m i r = cc
lost_until cs c row t (Some n) e l xs p x m i r =
    let v : IsVerdict cs (rests_in c row n) cs (Verdict.Old t) = subst (λ (w : Verdict). IsVerdict cs (rests_in c row n) cs w) (is_some_old l.0 t l.2) l.1 in
    old_is_false cs (rests_in c row n) t v xs p
    (subst (λ (d : Commit). IsExplained xs (rests_in d row n)) i
    (explained cs xs p x row n m (subst (λ (d : Commit). d.end ≡ Some n) (sym i) e) r))

pub lost : (cs : List Commit) (c : Commit) (row t : ℕ) → IsLost cs c row (Some t) →
    (xs : List Placed) → IsPlaced cs xs → (x : Placed) → IsAmong x xs → x.commit ≡ c → RestsOn xs x row → ⊥
lost cs c row t l = lost_until cs c row t c.end refl l
