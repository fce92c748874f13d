use Rattle.hib_top.proofs.Calls.{asked_none, handed_back, promised_none, promised_short, promised_some}
use Rattle.hib_top.proofs.call.top.Goals as goal

pub returns-in-Ok-Some : goal.returns-in-Ok-Some
returns-in-Ok-Some g c =
    promised_some c.args.words.now _ c.in-Ok-Some.command _ _ _ _ c.in-Ok-Some.field-0-is c.in-Ok-Some.ensures.asked c.serve.ensures.does c.serve.ensures.usage

pub returns-in-Ok-None : goal.returns-in-Ok-None
returns-in-Ok-None g c =
    promised_none _ _ _ _ _ (asked_none c.args.words.now _ c.in-Ok-None.field-0-is c.in-Ok-None.ensures.asked)
    (handed_back g.S.Source g.W.Sink g.K.Keeper g.L.Listener _ _ c.args.lent c.idle.result.lent c.idle.ensures.lent) c.idle.ensures.status c.idle.ensures.run

pub returns-in-Err : goal.returns-in-Err
returns-in-Err g c =
    promised_short _ _ _ _ _
    (handed_back g.S.Source g.W.Sink g.K.Keeper g.L.Listener _ _ c.args.lent c.idle-in-Err.result.lent c.idle-in-Err.ensures.lent) c.idle-in-Err.ensures.status c.idle-in-Err.ensures.run
