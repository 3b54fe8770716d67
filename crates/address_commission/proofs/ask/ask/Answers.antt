use Rattle.std.proofs.Common.{OnOk, subst, sym}
use Rattle.address_commission.specs.Calls.{TalkFails}
use Rattle.address_commission.specs.Listening.{HasWaited, ListensFor}
use Rattle.address_talk.specs.Rounds.{rounds}
use Rattle.line_model.specs.Moments.{moments}
use Rattle.address_commission.proofs.Calls.{handed_on}
use Rattle.address_commission.proofs.Asks.{asked_goes, listens_for, out_goes}
use Rattle.tunnel_link.specs.Rights.{WhereTold}
use Rattle.address_commission.proofs.ask.ask.Goals as goal

pub returns-in_err-put-clause-fails : goal.returns-in_err-put-clause-fails
returns-in_err-put-clause-fails g c =
    subst (λ r. TalkFails c.args.wanted (g.L.Link.story c.put.new.tunnel.link) r) (sym (handed_on c.from_residual.result _ c.from_residual.ensures)) (c.in_err-put.ensures.goes.fails c.requires.listens)

pub returns-clause-moves : goal.returns-clause-moves
returns-clause-moves g c = (asked_goes c.args.wanted c.args.asked c.args.ear.now c.put.new.ear c.wait_out.new.ear _ _ _ c.wait_out.result c.in_ok-put.ensures.goes c.wait_out.ensures.goes).moves c.requires.listens

pub returns-clause-fails : goal.returns-clause-fails
returns-clause-fails g c = (asked_goes c.args.wanted c.args.asked c.args.ear.now c.put.new.ear c.wait_out.new.ear _ _ _ c.wait_out.result c.in_ok-put.ensures.goes c.wait_out.ensures.goes).fails c.requires.listens

pub returns-clause-out : goal.returns-clause-out
returns-clause-out g c =
    out_goes c.args.wanted c.args.asked c.args.ear.now c.wait_out.new.ear _ _ c.wait_out.result
    (asked_goes c.args.wanted c.args.asked c.args.ear.now c.put.new.ear c.wait_out.new.ear _ _ _ c.wait_out.result c.in_ok-put.ensures.goes c.wait_out.ensures.goes)
    (subst (λ n. OnOk c.wait_out.result (WhereTold (HasWaited n c.wait_out.new.ear) (g.L.Link.story c.wait_out.new.tunnel.link))) c.quiet_after.ensures c.wait_out.ensures.waited) c.requires.listens

pub wait_out-requires-clause-for_it : goal.wait_out-requires-clause-for_it
wait_out-requires-clause-for_it g c =
    subst (λ n. WhereTold (λ places. ListensFor n (rounds (moments places))) (g.L.Link.story c.put.new.tunnel.link)) (sym c.quiet_after.ensures) (listens_for c.args.wanted c.args.asked _ _ (c.in_ok-put.ensures.goes.moves c.requires.listens))
