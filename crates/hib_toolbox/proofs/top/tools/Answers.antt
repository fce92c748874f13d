use Rattle.std.proofs.Common.{◌∙◌, sym}
use Rattle.hib_toolbox.proofs.Promises.{promised_none, promised_short, promised_some}
use Rattle.hib_toolbox.proofs.top.tools.Goals as goal

pub returns-in-Ok-Some : goal.returns-in-Ok-Some
returns-in-Ok-Some g c =
    promised_some _ c.in-Ok-Some.tool _ _ _ _ (sym c.in-Ok-Some.field-0-is ∙ c.in-Ok-Some.ensures) c.serve.ensures.does c.serve.ensures.usage

pub returns-in-Ok-None : goal.returns-in-Ok-None
returns-in-Ok-None g c =
    rw c.ended_idle.ensures.lent (promised_none _ _ _ _ (sym c.in-Ok-None.field-0-is ∙ c.in-Ok-None.ensures) c.ended_idle.ensures.status c.ended_idle.ensures.said)

pub returns-in-Err : goal.returns-in-Err
returns-in-Err g c = rw c.ended_idle-in-Err.ensures.lent (promised_short _ _ _ _ c.ended_idle-in-Err.ensures.status c.ended_idle-in-Err.ensures.said)
