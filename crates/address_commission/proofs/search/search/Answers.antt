use Rattle.std.proofs.Common.{arith}
use Rattle.address_commission.proofs.Gives.{begin_read, first_read, read_again, next_read, somebody, third_searched}
use Rattle.address_commission.proofs.search.search.Goals as goal

pub ask-requires-clause-turn : goal.ask-requires-clause-turn
ask-requires-clause-turn g c = begin_read c.args.wanted _ c.requires.begins

pub returns-then-is_somebody-clause-searched : goal.returns-then-is_somebody-clause-searched
returns-then-is_somebody-clause-searched g c =
    somebody c.args.wanted 0 c.ask.new.ear _ (omega arith) (first_read c.args.wanted _ _ c.requires.begins c.in_ok-ask.ensures.moves) (c.is_somebody.ensures.somebody c.if-is_somebody.true)

pub ask-requires-2-clause-turn : goal.ask-requires-2-clause-turn
ask-requires-2-clause-turn g c =
    read_again c.args.wanted 0 c.ask.new.ear _ (omega arith) (first_read c.args.wanted _ _ c.requires.begins c.in_ok-ask.ensures.moves) c.in_ok-ask.ensures.out (c.is_somebody.ensures.nobody c.if-is_somebody.false)

pub returns-then-is_somebody-2-clause-searched : goal.returns-then-is_somebody-2-clause-searched
returns-then-is_somebody-2-clause-searched g c =
    somebody c.args.wanted 1 c.ask-2.new.ear _ (omega arith)
    (next_read c.args.wanted 0 c.ask.new.ear _ _ (first_read c.args.wanted _ _ c.requires.begins c.in_ok-ask.ensures.moves) c.in_ok-ask.ensures.out (c.is_somebody.ensures.nobody c.if-is_somebody.false) c.in_ok-ask-2.ensures.moves)
    (c.is_somebody-2.ensures.somebody c.if-is_somebody-2.true)

pub ask-requires-3-clause-turn : goal.ask-requires-3-clause-turn
ask-requires-3-clause-turn g c =
    read_again c.args.wanted 1 c.ask-2.new.ear _ (omega arith)
    (next_read c.args.wanted 0 c.ask.new.ear _ _ (first_read c.args.wanted _ _ c.requires.begins c.in_ok-ask.ensures.moves) c.in_ok-ask.ensures.out (c.is_somebody.ensures.nobody c.if-is_somebody.false) c.in_ok-ask-2.ensures.moves)
    c.in_ok-ask-2.ensures.out (c.is_somebody-2.ensures.nobody c.if-is_somebody-2.false)

pub returns-clause-searched : goal.returns-clause-searched
returns-clause-searched g c =
    third_searched c.args.wanted c.ask-2.new.ear c.ask-3.new.ear _ _ c.ask-3.result
    (next_read c.args.wanted 0 c.ask.new.ear _ _ (first_read c.args.wanted _ _ c.requires.begins c.in_ok-ask.ensures.moves) c.in_ok-ask.ensures.out (c.is_somebody.ensures.nobody c.if-is_somebody.false) c.in_ok-ask-2.ensures.moves)
    c.in_ok-ask-2.ensures.out (c.is_somebody-2.ensures.nobody c.if-is_somebody-2.false) c.ask-3.ensures.moves c.ask-3.ensures.out
