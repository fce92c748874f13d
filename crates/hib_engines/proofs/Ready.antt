-- A valid script is one that engines take.
use Rattle.std.proofs.Common.{◌≡◌, ℕ, true, length, arith}
use Rattle.hib_base.specs.Scripts.{evicts_cached}
use Rattle.hib_base.specs.Valid.{is_valid, is_order_in}
use Rattle.hib_base.proofs.Lists.{all_at}
use Rattle.hib_base.proofs.Valid.{Rules, rules}
use Rattle.hib_journal.specs.Types.{Order, Script}
use Rattle.hib_session.proofs.Asked.{known_by}
use Rattle.hib_engines.specs.Built.{IsSound, IsBuilt}

sound : (script : Script) (n : ℕ) (o : Order) → evicts_cached script.mapping o ≡ true → is_order_in n o ≡ true → IsSound script o
sound script n (Order.Evict k) p i = (p, i)
sound script n _ p i = tt

pub ready : (script : Script) → is_valid script ≡ true → IsBuilt script
ready script v =
    let r : Rules script = rules script v in
    record {
      entities = omega (arith, r.entities);
      sessions = omega (arith, r.sessions);
      orders = λ i o e. sound script (length script.sessions) o (all_at (λ o. evicts_cached script.mapping o) script.schedule i o r.cached e)
          (all_at (λ o. is_order_in (length script.sessions) o) script.schedule i o r.order_fit e);
      results = omega (arith, r.results_low);
      queries = λ s q a. known_by (length script.queries) q s script.sessions r.known a;
    }
