use Rattle.std.proofs.Common.{◌≡◌, ap, subst, rules, Some}
use Rattle.knx_model.specs.Device.{segments}
use Rattle.knx_model.specs.DeviceState.{DeviceState}
use Rattle.knx_model.specs.DeviceFrames.{telegram_acted}
use Rattle.device_sim.specs.contracts.device.Device.{the_view}
use Rattle.device_sim.proofs.Telegrams.{written_acted}
use Rattle.device_sim.proofs.device.Device.told.Goals as goal

pub returns-in_ok-written-in-Write : goal.returns-in_ok-written-in-Write
returns-in_ok-written-in-Write c =
    let seen : DeviceState → Type 0 = λ d. ◌≡◌ {A = DeviceState} (record d { values = c.in_ok-written-in-Write.field-0; last = Some c.args.frame.now })
    (record (telegram_acted d (segments c.args.self.now.kept) c.args.frame.now.destination c.args.service.now) { last = Some c.args.frame.now }) in
    subst seen c.self.view_is (ap (λ (d : DeviceState). record d { last = Some c.args.frame.now })
    (written_acted (the_view c.self.inside) (segments c.args.self.now.kept) c.args.frame.now.destination c.args.service.now _ _ _ c.acts-acts.ensures.written c.in_ok-written-in-Write.ensures (search rules)))
