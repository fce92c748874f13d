use Rattle.std.proofs.Common.{rules, ◌≡◌, Some, ap}
use Rattle.hib_top.proofs.Calls.{alone_none, alone_other, asked_none, asked_some, handed_back, promised_alone, promised_none, promised_short}
use Rattle.hib_words.specs.Commands.{asked_of}
use Rattle.hib_words.specs.declared.words.Command.{Command}
use Rattle.hib_top.specs.Words.{asked_in, is_alone}
use Rattle.hib_top.proofs.call.play_words.Goals as goal

pub returns-in-Ok-Some : goal.returns-in-Ok-Some
returns-in-Ok-Some g c =
    promised_alone c.args.words.now _ c.in-Ok-Some.command _ _ _ _ c.in-Ok-Some.field-0-is c.in-Ok-Some.ensures.asked (search rules) c.serve_alone.ensures.does c.serve_alone.ensures.usage

pub returns-in-Ok-Some-Work : goal.returns-in-Ok-Some-Work
returns-in-Ok-Some-Work g c =
    let asked : Some (asked_of c.in-Ok-Some-Work.field-0-0) ≡ asked_in c.args.words.now =
    asked_some c.args.words.now _ c.in-Ok-Some-Work.field-0-0 c.in-Ok-Some-Work.field-0-is c.in-Ok-Some-Work.ensures.asked in
    promised_none _ _ _ _ _ (alone_other c.args.words.now _ asked (ap (λ (k : Command). is_alone (asked_of k)) c.in-Ok-Some-Work.field-0-0-is))
    (handed_back g.S.Source g.W.Sink g.K.Keeper g.L.Listener _ _ c.args.lent c.idle.result.lent c.idle.ensures.lent) c.idle.ensures.status c.idle.ensures.run

pub returns-in-Ok-None : goal.returns-in-Ok-None
returns-in-Ok-None g c =
    promised_none _ _ _ _ _ (alone_none c.args.words.now (asked_none c.args.words.now _ c.in-Ok-None.field-0-is c.in-Ok-None.ensures.asked))
    (handed_back g.S.Source g.W.Sink g.K.Keeper g.L.Listener _ _ c.args.lent c.idle-in-Ok-None.result.lent c.idle-in-Ok-None.ensures.lent) c.idle-in-Ok-None.ensures.status c.idle-in-Ok-None.ensures.run

pub returns-in-Err : goal.returns-in-Err
returns-in-Err g c =
    promised_short _ _ _ _ _
    (handed_back g.S.Source g.W.Sink g.K.Keeper g.L.Listener _ _ c.args.lent c.idle-in-Err.result.lent c.idle-in-Err.ensures.lent) c.idle-in-Err.ensures.status c.idle-in-Err.ensures.run
