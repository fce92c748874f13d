-- What the registry answers is due, and afterwards it stands for the list with the entry.
use Rattle.std.proofs.Common.{◌≡◌, ℕ, ◌++◌, [], ◌∷◌, Some, None, ◌≤◌, ◌<◌, refl, sym, ap, ◌∙◌, subst, arith}
use Rattle.hib_journal.specs.Types.{Part, Script, Act, Reply}
use Rattle.hib_journal.specs.Sessions.{Journal}
use Rattle.hib_journal.specs.Lists.{entry_at, IsLate}
use Rattle.hib_engines.specs.Registry.{Opened, Each, floor_in, without, last_of, IsRegistry}
use Rattle.hib_engines.specs.Served.{IsServed}
use Rattle.hib_engines.proofs.Opened.{registry_step, floor_is, each_weaker}

pub begin_served : (script : Script) (l : Journal) (s now : ℕ) (a : Act) (r : Reply) (x y : Opened) → IsRegistry x l → IsLate Part.Registry now l → a ≡ Act.Begin →
    r ≡ Reply.Began (floor_in x now) → y ≡ without s x ++ (s, now) ∷ [] → IsServed (λ m. IsRegistry y m) script l (Some s) now a r
begin_served script l s now a r x y k late e p q = subst (λ b. IsServed (λ m. IsRegistry y m) script l (Some s) now b r) (sym e) (record {
  reply = λ start. p ∙ ap (λ t. Reply.Began t) (floor_is x l now k late);
  stands = subst (λ ps. IsRegistry ps (entry_at now (Some s) Act.Begin r ∷ l)) (sym q)
      (registry_step x (entry_at now (Some s) Act.Begin r) l k refl late);
})

pub end_stands : (l : Journal) (s now : ℕ) (r : Reply) (x y : Opened) → IsRegistry x l → IsLate Part.Registry now l → y ≡ without s x → IsRegistry y (entry_at now (Some s) Act.End r ∷ l)
end_stands l s now r x y k late q = subst (λ ps. IsRegistry ps (entry_at now (Some s) Act.End r ∷ l)) (sym q)
    (registry_step x (entry_at now (Some s) Act.End r) l k refl late)

pub kill_stands : (l : Journal) (s now : ℕ) (x y : Opened) → IsRegistry x l → IsLate Part.Registry now l → y ≡ without s x → IsRegistry y (entry_at now None (Act.Kill s) Reply.Done ∷ l)
kill_stands l s now x y k late q = subst (λ ps. IsRegistry ps (entry_at now None (Act.Kill s) Reply.Done ∷ l)) (sym q)
    (registry_step x (entry_at now None (Act.Kill s) Reply.Done) l k refl late)

pub restart_stands : (l : Journal) (now : ℕ) (x y : Opened) → IsRegistry x l → IsLate Part.Registry now l → y ≡ [] → IsRegistry y (entry_at now None Act.Restart Reply.Done ∷ l)
restart_stands l now x y k late q = subst (λ ps. IsRegistry ps (entry_at now None Act.Restart Reply.Done ∷ l)) (sym q)
    (registry_step x (entry_at now None Act.Restart Reply.Done) l k refl late)

-- each open session began before the next entry of the registry
pub all_before : (x : Opened) (l : Journal) (now : ℕ) → IsRegistry x l → IsLate Part.Registry now l → Each (λ t. t < now) x
all_before x l now k late = each_weaker (λ t. t ≤ last_of l) (λ t. t < now) x (λ t u. omega (arith, u, late)) k.until
