use Rattle.address_commission.proofs.Calls.{told_ok}
use Rattle.address_commission.proofs.Closing.{closes_on, leave_closes, leaves_so}
use Rattle.address_commission.proofs.Leaving.{leave_kept, paces_then}
use Rattle.address_commission.proofs.close.leave.Goals as goal

pub returns-clause-closes : goal.returns-clause-closes
returns-clause-closes g c wanted = closes_on wanted _ _ _ (leave_closes c.leave-left.result wanted _ _ c.leave-left.ensures.grows c.leave-left.ensures.adds) (c.await_response.ensures.closes wanted)

pub returns-clause-paces : goal.returns-clause-paces
returns-clause-paces g c = paces_then _ _ _ (leave_kept _ _ c.leave-left.ensures.grows c.leave-left.ensures.alone c.leave-left.ensures.timeless c.requires.stays) c.await_response.ensures.paces

pub returns-clause-leaves : goal.returns-clause-leaves
returns-clause-leaves g c =
    leaves_so c.leave-left.result c.now-began.result _ _ _ c.leave-left.ensures.grows c.await_response.ensures.grows c.leave-left.ensures.adds c.leave-left.ensures.alone c.leave-left.ensures.timeless c.await_response.ensures.alone c.requires.place c.requires.kept c.now-began.ensures.newest
    c.in_ok-told.field-0 (told_ok c.leave-left.result c.in_ok-told.field-0 c.in_ok-told.ensures.same) c.await_response.result c.await_response.ensures.awaited

pub returns-in_err-told-clause-closes : goal.returns-in_err-told-clause-closes
returns-in_err-told-clause-closes g c wanted = leave_closes c.leave-left.result wanted _ _ c.leave-left.ensures.grows c.leave-left.ensures.adds

pub returns-in_err-told-clause-paces : goal.returns-in_err-told-clause-paces
returns-in_err-told-clause-paces g c = leave_kept _ _ c.leave-left.ensures.grows c.leave-left.ensures.alone c.leave-left.ensures.timeless c.requires.stays
