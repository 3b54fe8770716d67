use Rattle.address_commission.proofs.Gives.{found_gives, found_other, connect_turn, has_connected, disconnect_turn, has_disconnected, tried_gives, write_turn, has_written, last_turn, sure_gives}
use Rattle.address_commission.proofs.talk.give.Goals as goal

pub returns-in-Some-clause-gives : goal.returns-in-Some-clause-gives
returns-in-Some-clause-gives g c = found_gives c.args.wanted _ c.search.new.ear _ c.in-Some.ensures c.in_ok-search.ensures.searched c.in_ok-search.ensures.out

pub ask-requires-clause-turn : goal.ask-requires-clause-turn
ask-requires-clause-turn g c = connect_turn c.args.wanted c.search.new.ear _ (found_other c.args.wanted c.search.new.ear _ c.in_default.ensures c.in_ok-search.ensures.searched c.in_ok-search.ensures.out) c.in_ok-search.ensures.out

pub ask-requires-2-clause-turn : goal.ask-requires-2-clause-turn
ask-requires-2-clause-turn g c =
    disconnect_turn c.args.wanted c.ask.new.ear _
    (has_connected c.args.wanted _ _ (found_other c.args.wanted c.search.new.ear _ c.in_default.ensures c.in_ok-search.ensures.searched c.in_ok-search.ensures.out) c.in_ok-ask.ensures.moves) c.in_ok-ask.ensures.out

pub returns-in-Some-tried-clause-gives : goal.returns-in-Some-tried-clause-gives
returns-in-Some-tried-clause-gives g c =
    tried_gives c.args.wanted _ c.ask.new.ear.confirmed c.ask-2.new.ear _ c.in-Some-tried.ensures
    (has_disconnected c.args.wanted c.ask.new.ear _ _
    (has_connected c.args.wanted _ _ (found_other c.args.wanted c.search.new.ear _ c.in_default.ensures c.in_ok-search.ensures.searched c.in_ok-search.ensures.out) c.in_ok-ask.ensures.moves) c.in_ok-ask.ensures.out c.in_ok-ask-2.ensures.moves)
    c.in_ok-ask-2.ensures.out

pub ask-requires-3-clause-turn : goal.ask-requires-3-clause-turn
ask-requires-3-clause-turn g c =
    write_turn c.args.wanted c.ask.new.ear.confirmed c.ask-2.new.ear _ c.in_default-tried.ensures
    (has_disconnected c.args.wanted c.ask.new.ear _ _
    (has_connected c.args.wanted _ _ (found_other c.args.wanted c.search.new.ear _ c.in_default.ensures c.in_ok-search.ensures.searched c.in_ok-search.ensures.out) c.in_ok-ask.ensures.moves) c.in_ok-ask.ensures.out c.in_ok-ask-2.ensures.moves)
    c.in_ok-ask-2.ensures.out

pub ask-requires-4-clause-turn : goal.ask-requires-4-clause-turn
ask-requires-4-clause-turn g c = last_turn c.args.wanted c.ask-3.new.ear _ (has_written c.args.wanted _ _ c.in_ok-ask-3.ensures.moves) c.in_ok-ask-3.ensures.out

pub returns-clause-gives : goal.returns-clause-gives
returns-clause-gives g c = sure_gives c.args.wanted c.sure.result c.ask-4.new.ear _ _ (has_written c.args.wanted _ _ c.in_ok-ask-3.ensures.moves) c.in_ok-ask-4.ensures.moves c.in_ok-ask-4.ensures.out c.sure.ensures
