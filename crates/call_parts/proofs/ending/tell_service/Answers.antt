use Rattle.call_parts.specs.declared.ending.End.TheVariants as ends
use Rattle.call_parts.specs.declared.ending.ServiceEnd.TheVariants as over
use Rattle.call_parts.proofs.Ends.{text_replied}
use Rattle.call_parts.proofs.ending.tell_service.Goals as goal

pub returns-in-OpenTurns-clause-told : goal.returns-in-OpenTurns-clause-told
returns-in-OpenTurns-clause-told g c = rw c.in-OpenTurns.is
    (text_replied (ends.Serves (over.OpenTurns _)) c.text_of_turns.result (g.K.Sink.now c.args.out.now) (g.K.Sink.now c.tell_or_want.new.out) _ c.text_of_turns.ensures c.tell_or_want.ensures.told c.tell_or_want.ensures.wanting (λ h. h))
